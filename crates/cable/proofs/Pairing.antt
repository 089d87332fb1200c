-- What was played joins the two ends, opening by opening.
use Rattle.std.proofs.lemmas.Grind.{common_steps}
use Rattle.std.proofs.Common.{◌≡◌, ◌≢◌, ◌≤◌, ◌<◌, ◌&&◌, inl, inr, ℕ, true, nat_lt, nat_le, List, [], ◌∷◌, ◌++◌, length, Option, Some, None, refl, ap, subst, sym, ◌∙◌, append-nil, arith}
use Rattle.std.proofs.lemmas.Bool.Decides.{nat_tests, eqb_tells}
use Rattle.rs_wire.specs.declared.settings.Settings.{Settings}
use Rattle.rs_frame.specs.declared.frame.Frame.{Frame}
use Rattle.tape.specs.declared.entry.Entry.{Entry}
use Rattle.session_model.specs.Life.{openings}
use Rattle.session_model.specs.Frames.{came, first_bad, was_opened, due, drawn}
use Rattle.rs_frame.specs.Framed.{framed_all}
use Rattle.session_model.specs.Joined.{IsOpening, is_accepted, refused, unless_refused}
use Rattle.cable.specs.Played.{There, Ends, Link, Sides, crossed, hears, hears_up, pair_of, with_client, with_server}
use Rattle.cable.proofs.Crosses.{Heard, ended, heard_more, heard_nothing, wholes}
use Rattle.cable.specs.declared.arrival.Arrival.{Arrival}
use Rattle.cable.proofs.Grows.{Goes, IsHeard, Quiet, Same, Sends, goes_not, hears_heard, hears_on}

-- what the client heard of an opening of the server
abbrev pub UpHeard : Sides → ℕ → ℕ → List Entry → List Entry → Type 0
UpHeard s c d C S = IsHeard s.server.max_in (drawn C c) d (due s.client C c) S

abbrev HeardOf : Sides → List Frame → ℕ → ℕ → List Entry → List Entry → Type 0
HeardOf s refusals c d C S = IsHeard s.client.max_in (unless_refused refusals (drawn S d) (length (framed_all refusals))) c (unless_refused refusals (due s.server S d) refusals) C

abbrev pub DownHeard : Sides → ℕ → ℕ → List Entry → List Entry → Type 0
DownHeard s c d C S = HeardOf s (refused S d) c d C S

-- what the two ends know of a connection that the server refused
pub record RefusedAs (s : Sides) (c d n : ℕ) (r : Ends) : Type 0 where
  pub opening : IsOpening r.server d
  pub pair_is : pair_of r.pairs d ≡ c
  pub within : n ≤ length (framed_all (refused r.server d))
  pub heard : IsHeard s.client.max_in n c (refused r.server d) r.client

-- and of one that it accepted
pub record AcceptedAs (c d : ℕ) (r : Ends) : Type 0 where
  pub opening : IsOpening r.server d
  pub pair_is : pair_of r.pairs d ≡ c
  pub kept : refused r.server d ≡ []

-- what they know of a connection
abbrev pub LinkedThere : Sides → There → ℕ → Ends → Type 0
LinkedThere s There.Nowhere c r = (d : ℕ) → IsOpening r.server d → pair_of r.pairs d ≢ c
LinkedThere s (There.Accepted d) c r = AcceptedAs c d r
LinkedThere s (There.Refused d n) c r = RefusedAs s c d n r

pub record LinkedBy (s : Sides) (l : Link) (r : Ends) : Type 0 where
  pub accepted : is_accepted r.client l.client ≡ true
  pub opening : IsOpening r.client l.client
  pub there : LinkedThere s l.there l.client r

abbrev pub Linked : Sides → Option Link → Ends → Type 0
Linked s None r = Unit {0}
Linked s (Some l) r = LinkedBy s l r

-- the openings of the server and their pairs, and what came on each
pub record Paired (s : Sides) (r : Ends) : Type 0 where
  pub count : length r.pairs ≡ openings r.server
  pub accepted : (d : ℕ) → IsOpening r.server d → is_accepted r.client (pair_of r.pairs d) ≡ true
  pub within : (d : ℕ) → IsOpening r.server d → IsOpening r.client (pair_of r.pairs d)
  pub apart : (d e : ℕ) → IsOpening r.server d → IsOpening r.server e → pair_of r.pairs d ≡ pair_of r.pairs e → d ≡ e
  pub up : (d : ℕ) → IsOpening r.server d → UpHeard s (pair_of r.pairs d) d r.client r.server
  pub down : (d : ℕ) → IsOpening r.server d → DownHeard s (pair_of r.pairs d) d r.client r.server
  pub unpaired : (c : ℕ) → ((d : ℕ) → IsOpening r.server d → pair_of r.pairs d ≢ c) → (came r.client c ≡ []) × (first_bad r.client c ≡ None)
  pub link : Linked s r.link r

-- ---- an opening

numbers : (d n : ℕ) → 0 < d → d ≤ n → (nat_lt 0 d && nat_le d n) ≡ true
numbers d n above within = grind (arith, nat_tests)

pub opened_is : (past : List Entry) (d : ℕ) → IsOpening past d → was_opened past d ≡ true
opened_is past d o = numbers d (openings past) o.above o.within

-- ---- an end goes on, and nothing comes

-- what one end sends goes on
pub sends_heard : (g : Settings) (most c k : ℕ) (past past' hearing : List Entry) → Sends g c past past' → IsHeard most (drawn past c) k (due g past c) hearing → IsHeard most (drawn past' c) k (due g past' c) hearing
sends_heard g most c k past past' hearing h1 h2 = grind (arith, common_steps, heard_more)

pub same_heard : (most n c : ℕ) (frames : List Frame) (past past' : List Entry) → Same c past past' → IsHeard most n c frames past → IsHeard most n c frames past'
same_heard most n c frames past past' h1 h2 = grind (arith, common_steps)

still_opening : (past past' : List Entry) (d : ℕ) → openings past' ≡ openings past → IsOpening past' d → IsOpening past d
still_opening past past' d same o = record { above = o.above; within = omega (arith, o.within, same) }

pub more_opening : (past past' : List Entry) (d : ℕ) → openings past ≤ openings past' → IsOpening past d → IsOpening past' d
more_opening past past' d le o = record { above = o.above; within = omega (arith, o.within, le) }

linked_there : (s : Sides) (t : There) (c : ℕ) (r r' : Ends) → r'.pairs ≡ r.pairs → openings r'.server ≡ openings r.server → ((d : ℕ) → refused r'.server d ≡ refused r.server d) → Same c r.client r'.client → LinkedThere s t c r → LinkedThere s t c r'
linked_there s There.Nowhere c r r' pairs count refusals same h = λ d o at. h d (still_opening r.server r'.server d count o) (ap (λ (l : List ℕ). pair_of l d) (sym pairs) ∙ at)
linked_there s (There.Accepted d) c r r' pairs count refusals same h = record {
  opening = more_opening r.server r'.server d (omega (arith, count)) h.opening;
  pair_is = ap (λ (l : List ℕ). pair_of l d) pairs ∙ h.pair_is;
  kept = refusals d ∙ h.kept;
}
linked_there s (There.Refused d n) c r r' pairs count refusals same h = record {
  opening = more_opening r.server r'.server d (omega (arith, count)) h.opening;
  pair_is = ap (λ (l : List ℕ). pair_of l d) pairs ∙ h.pair_is;
  within = subst (λ (fs : List Frame). n ≤ length (framed_all fs)) (sym (refusals d)) h.within;
  heard = same_heard s.client.max_in n c (refused r'.server d) r.client r'.client same (subst (λ (fs : List Frame). IsHeard s.client.max_in n c fs r.client) (sym (refusals d)) h.heard);
}

linked : (s : Sides) (l : Option Link) (r r' : Ends) → r'.pairs ≡ r.pairs → openings r'.server ≡ openings r.server → ((d : ℕ) → refused r'.server d ≡ refused r.server d) → ((c : ℕ) → Same c r.client r'.client) → Goes s.client r.client r'.client → Linked s l r → Linked s l r'
linked s None r r' pairs count refusals same goes h = tt
linked s (Some l) r r' pairs count refusals same goes h = record {
  accepted = goes.accepted l.client h.accepted;
  opening = more_opening r.client r'.client l.client goes.openings_most h.opening;
  there = linked_there s l.there l.client r r' pairs count refusals (same l.client) h.there;
}

-- the server goes on: what was heard of its opening
down_of : (s : Sides) (refusals : List Frame) (c d : ℕ) (S S' C : List Entry) → Sends s.server d S S' → HeardOf s refusals c d C S → HeardOf s refusals c d C S'
down_of s [] c d S S' C z h = sends_heard s.server s.client.max_in d c S S' C z h
down_of s (f ∷ fs) c d S S' C z h = h

pub sends_down : (s : Sides) (c d : ℕ) (S S' C : List Entry) → Sends s.server d S S' → refused S' d ≡ refused S d → DownHeard s c d C S → DownHeard s c d C S'
sends_down s c d S S' C z same h = subst (λ (fs : List Frame). HeardOf s fs c d C S') (sym same) (down_of s (refused S d) c d S S' C z h)

-- the client goes on, and nothing comes at it on that connection
pub same_down : (s : Sides) (c d : ℕ) (S C C' : List Entry) → Same c C C' → DownHeard s c d C S → DownHeard s c d C' S
same_down s c d S C C' same h = same_heard s.client.max_in (unless_refused (refused S d) (drawn S d) (length (framed_all (refused S d)))) c (unless_refused (refused S d) (due s.server S d) (refused S d)) C C' same h

-- the client goes on, and nothing comes at it
pub quiet_client : (s : Sides) (r : Ends) (C : List Entry) → ((c : ℕ) → Same c r.client C) → Goes s.client r.client C → Paired s r → Paired s (with_client r C)
quiet_client s r C q k p = record {
  count = p.count;
  accepted = λ d o. k.accepted (pair_of r.pairs d) (p.accepted d o);
  within = λ d o. more_opening r.client C (pair_of r.pairs d) k.openings_most (p.within d o);
  apart = p.apart;
  up = λ d o. sends_heard s.client s.server.max_in (pair_of r.pairs d) d r.client C r.server (k.sends (pair_of r.pairs d)) (p.up d o);
  down = λ d o. same_down s (pair_of r.pairs d) d r.server r.client C (q (pair_of r.pairs d)) (p.down d o);
  unpaired = λ c out. let u = p.unpaired c out in ((q c).came_is ∙ u.0, (q c).bad_is ∙ u.1);
  link = linked s r.link r (with_client r C) refl refl (λ d. refl) q k p.link;
}

unchanged : (past : List Entry) (c : ℕ) → Same c past past
unchanged past c = record { came_is = refl; bad_is = refl }

-- the server goes on, and nothing comes at it
pub quiet_server : (s : Sides) (r : Ends) (S : List Entry) → Quiet r.server S → Goes s.server r.server S → Paired s r → Paired s (with_server r S)
quiet_server s r S q k p =
    let was : (d : ℕ) → IsOpening S d → IsOpening r.server d = λ d o. still_opening r.server S d q.openings_are o in
    record {
      count = p.count ∙ sym q.openings_are;
      accepted = λ d o. p.accepted d (was d o);
      within = λ d o. p.within d (was d o);
      apart = λ d e o f same. p.apart d e (was d o) (was e f) same;
      up = λ d o. same_heard s.server.max_in (drawn r.client (pair_of r.pairs d)) d (due s.client r.client (pair_of r.pairs d)) r.server S (q.same d) (p.up d (was d o));
      down = λ d o. sends_down s (pair_of r.pairs d) d r.server S r.client (k.sends d) (q.refused_are d) (p.down d (was d o));
      unpaired = λ c out. p.unpaired c (λ d o. out d (more_opening r.server S d (omega (arith, q.openings_are)) o));
      link = linked s r.link r (with_server r S) refl q.openings_are q.refused_are (unchanged r.client) (goes_not s.client r.client) p.link;
    }

-- ---- what comes at the server

up_at : (s : Sides) (c d e : ℕ) (r : Ends) → pair_of r.pairs d ≡ c → IsOpening r.server d → Paired s r → IsOpening r.server e → UpHeard s (pair_of r.pairs e) e r.client (hears s.server d (drawn r.client c) (due s.client r.client c) r.server)
up_at s c d e r is od p oe =
    let S' = hears s.server d (drawn r.client c) (due s.client r.client c) r.server in
    elim (eqb_tells e d) [
      | inl same ↦
          let here : UpHeard s c d r.client r.server = subst (λ (k : ℕ). UpHeard s k d r.client r.server) is (p.up d od) in
          let next : UpHeard s c d r.client S' = hears_heard s.server d (drawn r.client c) (due s.client r.client c) r.server (opened_is r.server d od) here in
          subst (λ (k : ℕ). UpHeard s (pair_of r.pairs k) k r.client S') (sym same.1) (subst (λ (k : ℕ). UpHeard s k d r.client S') (sym is) next)
      | inr other ↦
          same_heard s.server.max_in (drawn r.client (pair_of r.pairs e)) e (due s.client r.client (pair_of r.pairs e)) r.server S' ((hears_on s.server d (drawn r.client c) (due s.client r.client c) r.server).same e other.1) (p.up e oe)
    ]

pub paired_up : (s : Sides) (c d : ℕ) (r : Ends) → pair_of r.pairs d ≡ c → IsOpening r.server d → Paired s r → Paired s (hears_up s c d r)
paired_up s c d r is od p =
    let S' = hears s.server d (drawn r.client c) (due s.client r.client c) r.server in
    let h = hears_on s.server d (drawn r.client c) (due s.client r.client c) r.server in
    let was : (e : ℕ) → IsOpening S' e → IsOpening r.server e = λ e o. still_opening r.server S' e h.openings_are o in
    record {
      count = p.count ∙ sym h.openings_are;
      accepted = λ e o. p.accepted e (was e o);
      within = λ e o. p.within e (was e o);
      apart = λ e f o k same. p.apart e f (was e o) (was f k) same;
      up = λ e o. up_at s c d e r is od p (was e o);
      down = λ e o. sends_down s (pair_of r.pairs e) e r.server S' r.client (h.goes.sends e) (h.refused_are e) (p.down e (was e o));
      unpaired = λ k out. p.unpaired k (λ e o. out e (more_opening r.server S' e (omega (arith, h.openings_are)) o));
      link = linked s r.link r (with_server r S') refl h.openings_are h.refused_are (unchanged r.client) (goes_not s.client r.client) p.link;
    }

-- ---- what comes at the client

-- nothing came on the connection
pub silent_heard : (most n c : ℕ) (frames : List Frame) (past : List Entry) → (came past c ≡ []) × (first_bad past c ≡ None) → IsHeard most n c frames past
silent_heard most n c frames past silent =
    subst (λ (fs : List Frame). Heard most n frames fs (first_bad past c)) (sym silent.0) (subst (λ (b : Option ℕ). Heard most n frames [] b) (sym silent.1) (heard_nothing most n frames))

pub more_heard : (most n n' c : ℕ) (frames : List Frame) (past : List Entry) → n ≤ n' → IsHeard most n c frames past → IsHeard most n' c frames past
more_heard most n n' c frames past h1 h2 = subst (λ (fs : List Frame). IsHeard most n' c fs past) (append-nil frames) (heard_more most n n' frames [] (came past c) (first_bad past c) h1 h2)

-- where the server accepted the opening, what was heard is of what is due
pub offered_due : (s : Sides) (c d : ℕ) (C S : List Entry) → refused S d ≡ [] → IsHeard s.client.max_in (drawn S d) c (due s.server S d) C → DownHeard s c d C S
offered_due s c d C S none h = subst (λ (fs : List Frame). HeardOf s fs c d C S) (sym none) h

pub due_offered : (s : Sides) (c d : ℕ) (C S : List Entry) → refused S d ≡ [] → DownHeard s c d C S → IsHeard s.client.max_in (drawn S d) c (due s.server S d) C
due_offered s c d C S none h = subst (λ (fs : List Frame). HeardOf s fs c d C S) none h

front_none : (came : List Frame) (bad : Option ℕ) (rest : List Arrival) → (wholes came ++ ended bad) ++ rest ≡ [] → (came ≡ []) × (bad ≡ None)
front_none [] None rest e = (refl, refl)
front_none [] (Some rule) rest e = absurd (cc)
front_none (x ∷ came) bad rest e = absurd (cc)

-- where there is nothing to hear, nothing was heard
nothing_heard : (most n k c : ℕ) (frames : List Frame) (past : List Entry) → IsHeard most n c [] past → IsHeard most k c frames past
unfolding crossed
nothing_heard most n k c frames past h = silent_heard most k c frames past (front_none (came past c) (first_bad past c) h.rest h.parts)

refused_of : (s : Sides) (refusals : List Frame) (c d n : ℕ) (C S : List Entry) → n ≤ length (framed_all refusals) → IsHeard s.client.max_in n c refusals C → HeardOf s refusals c d C S
refused_of s [] c d n C S le h = nothing_heard s.client.max_in n (drawn S d) c (due s.server S d) C h
refused_of s (f ∷ fs) c d n C S le h = more_heard s.client.max_in n (length (framed_all (f ∷ fs))) c (f ∷ fs) C le h

-- where it refused it, of the refusal
pub refused_offered : (s : Sides) (c d n : ℕ) (C S : List Entry) → n ≤ length (framed_all (refused S d)) → IsHeard s.client.max_in n c (refused S d) C → DownHeard s c d C S
refused_offered s c d n C S le h = refused_of s (refused S d) c d n C S le h

down_at : (s : Sides) (c d e n : ℕ) (frames : List Frame) (r : Ends) → pair_of r.pairs d ≡ c → IsOpening r.server d → ((C : List Entry) → IsHeard s.client.max_in n c frames C → DownHeard s c d C r.server) → IsHeard s.client.max_in n c frames (hears s.client c n frames r.client)
    → Paired s r → IsOpening r.server e → DownHeard s (pair_of r.pairs e) e (hears s.client c n frames r.client) r.server
down_at s c d e n frames r is od fits heard p oe =
    let C' = hears s.client c n frames r.client in
    elim (eqb_tells e d) [
      | inl same ↦ subst (λ (k : ℕ). DownHeard s (pair_of r.pairs k) k C' r.server) (sym same.1) (subst (λ (k : ℕ). DownHeard s k d C' r.server) (sym is) (fits C' heard))
      | inr other ↦
          let far : pair_of r.pairs e ≢ c = λ w. other.1 (p.apart e d oe od (w ∙ sym is)) in
          same_down s (pair_of r.pairs e) e r.server r.client C' ((hears_on s.client c n frames r.client).same (pair_of r.pairs e) far) (p.down e oe)
    ]

-- the client hears the first n bytes of these frames, which are those of the server's opening d
pub paired_down : (s : Sides) (c d n : ℕ) (frames : List Frame) (r : Ends) → pair_of r.pairs d ≡ c → IsOpening r.server d → ((C : List Entry) → IsHeard s.client.max_in n c frames C → DownHeard s c d C r.server) → IsHeard s.client.max_in n c frames (hears s.client c n frames r.client)
    → Linked s r.link (with_client r (hears s.client c n frames r.client)) → Paired s r → Paired s (with_client r (hears s.client c n frames r.client))
paired_down s c d n frames r is od fits heard link p =
    let C' = hears s.client c n frames r.client in
    let h = hears_on s.client c n frames r.client in
    record {
      count = p.count;
      accepted = λ e o. h.goes.accepted (pair_of r.pairs e) (p.accepted e o);
      within = λ e o. more_opening r.client C' (pair_of r.pairs e) h.goes.openings_most (p.within e o);
      apart = p.apart;
      up = λ e o. sends_heard s.client s.server.max_in (pair_of r.pairs e) e r.client C' r.server (h.goes.sends (pair_of r.pairs e)) (p.up e o);
      down = λ e o. down_at s c d e n frames r is od fits heard p o;
      unpaired = λ k out.
          let far : k ≢ c = λ same. out d od (is ∙ sym same) in
          let q = h.same k far in
          let u = p.unpaired k out in
          (q.came_is ∙ u.0, q.bad_is ∙ u.1);
      link = link;
    }
