-- A connection is opened, at the client and then at the server.
use Rattle.std.proofs.lemmas.Grind.{common_steps}
use Rattle.std.proofs.Common.{◌≡◌, ◌≤◌, ◌<◌, ◌+◌, ◌==◌, ◌⊎◌, ℕ, suc, Bool, true, false, cond, List, [], ◌∷◌, ◌++◌, length, Option, Some, None, refl, ap, subst, sym, ◌∙◌, arith}
use Rattle.std.proofs.lemmas.Bool.Decides.{nat_tests}
use Rattle.std.proofs.lemmas.Bool.{eq-eqb, ne_eqb}
use Rattle.rs_wire.specs.declared.settings.Settings.{Settings}
use Rattle.rs_frame.specs.declared.frame.Frame.{Frame}
use Rattle.tape.specs.declared.event.Event.{Event}
use Rattle.tape.specs.declared.event.Event.TheVariants as event
use Rattle.tape.specs.declared.answer.Answer.{Answer}
use Rattle.tape.specs.declared.answer.Answer.TheVariants as answer
use Rattle.tape.specs.declared.entry.Entry.{Entry}
use Rattle.session_model.specs.Lists.{first_of}
use Rattle.session_model.specs.Life.{openings, openings_in}
use Rattle.session_model.specs.Frames.{came, brings, first_bad, bad_in, due, drawn, refusal}
use Rattle.session_model.specs.Answers.{answer_to, facts}
use Rattle.session_model.specs.Joined.{IsOpening, bytes_offered, frames_offered, is_accepted, only, refused, refuses}
use Rattle.cable.specs.declared.arrival.Arrival.{Arrival}
use Rattle.cable.specs.declared.arrival.Arrival.TheVariants as arrival
use Rattle.cable.specs.Played.{There, Ends, Link, Sides, answered, crossed_up, hears_if_accepted, link_of, meets, opened_by, opens, pair_of, there_of, unless_linked, with_client, with_link}
use Rattle.tape.specs.Answers.{leaves}
use Rattle.cable.proofs.Crosses.{Heard}
use Rattle.cable.proofs.Grows.{Same, goes_one, same_step}
use Rattle.cable.proofs.Pairing.{DownHeard, Linked, LinkedThere, Paired, UpHeard, more_opening, paired_up, quiet_client, same_heard, sends_down, silent_heard}

-- ---- the number of an opening

pub number_is : (g : Settings) (past : List Entry) (first : Option Frame) (d : ℕ) → answer.Opened d ≡ answer_to g past (event.Open first false) → d ≡ openings past + 1
unfolding facts
number_is g past first d h1 = grind (arith, common_steps)

-- ---- at the client

abbrev opened_with : Answer → Ends → Ends
opened_with a r = with_link (with_client r (cond (leaves a) (record { who = 0; event = event.Open None false; answer = a } ∷ r.client) r.client)) (link_of a)

open_goes : (s : Sides) (r : Ends) (a : Answer) → Paired s r → Paired s (with_client r (record { who = 0; event = event.Open None false; answer = a } ∷ r.client))
open_goes s r a p =
    let x : Entry = record { who = 0; event = event.Open None false; answer = a } in
    quiet_client s r (x ∷ r.client) (λ c. same_step c x r.client refl refl) (goes_one s.client x r.client) p

unlinked : (s : Sides) (r : Ends) (C : List Entry) → Paired s (with_client r C) → Paired s (with_link (with_client r C) None)
unlinked s r C p = record { count = p.count; accepted = p.accepted; within = p.within; apart = p.apart; up = p.up; down = p.down; unpaired = p.unpaired; link = tt }

pub as_it_is : (s : Sides) (r : Ends) → Paired s r → Paired s (with_client r r.client)
as_it_is s r p = record { count = p.count; accepted = p.accepted; within = p.within; apart = p.apart; up = p.up; down = p.down; unpaired = p.unpaired; link = p.link }

one_more : (x : Entry) (past : List Entry) (n : ℕ) → x.answer ≡ answer.Opened n → x.event ≡ event.Open None false → (is_accepted (x ∷ past) n ≡ true) × (openings (x ∷ past) ≡ openings past + 1)
unfolding is_accepted openings
one_more x past n h1 h2 = grind (arith, common_steps, eq-eqb)

paired_with : (s : Sides) (r : Ends) (a : Answer) → a ≡ answer_to s.client r.client (event.Open None false) → Paired s r → Paired s (opened_with a r)
paired_with s r (answer.Opened n) is p =
    let x : Entry = record { who = 0; event = event.Open None false; answer = answer.Opened n } in
    let q = open_goes s r (answer.Opened n) p in
    let new : n ≡ openings r.client + 1 = number_is s.client r.client None n is in
    let one = one_more x r.client n refl refl in
    record {
      count = q.count;
      accepted = q.accepted;
      within = q.within;
      apart = q.apart;
      up = q.up;
      down = q.down;
      unpaired = q.unpaired;
      link = record {
        accepted = one.0;
        opening = record { above = omega (arith, new); within = omega (arith, new, one.1) };
        there = λ d o same. let w = p.within d o in absurd (omega (arith, w.within, new, same));
      };
    }
paired_with s r answer.NotYet is p = unlinked s r r.client (as_it_is s r p)
paired_with s r (answer.OutBusy q) is p = unlinked s r r.client (as_it_is s r p)
paired_with s r answer.TapeFull is p = unlinked s r r.client (as_it_is s r p)
paired_with s r answer.OutOfMemory is p = unlinked s r r.client (as_it_is s r p)
paired_with s r (answer.Started id) is p = unlinked s r _ (open_goes s r (answer.Started id) p)
paired_with s r (answer.Drawn k) is p = unlinked s r _ (open_goes s r (answer.Drawn k) p)
paired_with s r answer.Quiet is p = unlinked s r _ (open_goes s r answer.Quiet p)
paired_with s r answer.Sent is p = unlinked s r _ (open_goes s r answer.Sent p)
paired_with s r (answer.Dead last) is p = unlinked s r _ (open_goes s r (answer.Dead last) p)
paired_with s r answer.Handled is p = unlinked s r _ (open_goes s r answer.Handled p)
paired_with s r (answer.Violation v) is p = unlinked s r _ (open_goes s r (answer.Violation v) p)
paired_with s r (answer.SetupRefused f) is p = unlinked s r _ (open_goes s r (answer.SetupRefused f) p)
paired_with s r (answer.Stale c) is p = unlinked s r _ (open_goes s r (answer.Stale c) p)
paired_with s r (answer.Refused f) is p = unlinked s r _ (open_goes s r (answer.Refused f) p)
paired_with s r answer.Done is p = unlinked s r _ (open_goes s r answer.Done p)
paired_with s r (answer.Got d) is p = unlinked s r _ (open_goes s r (answer.Got d) p)
paired_with s r (answer.GotJob j) is p = unlinked s r _ (open_goes s r (answer.GotJob j) p)
paired_with s r answer.Parted is p = unlinked s r _ (open_goes s r answer.Parted p)
paired_with s r (answer.PeerError code) is p = unlinked s r _ (open_goes s r (answer.PeerError code) p)
paired_with s r (answer.ResumeRefused why) is p = unlinked s r _ (open_goes s r (answer.ResumeRefused why) p)
paired_with s r (answer.Closed w) is p = unlinked s r _ (open_goes s r (answer.Closed w) p)

pub paired_open : (s : Sides) (r : Ends) → Paired s r → Paired s (opens s r)
paired_open s r p = paired_with s r (answer_to s.client r.client (event.Open None false)) refl p

pub paired_unless : (s : Sides) (o : Option Link) (r next : Ends) → Paired s r → Paired s next → Paired s (unless_linked o r next)
paired_unless s None r next p q = q
paired_unless s (Some l) r next p q = p

-- ---- at the server

pair_new : (c d : ℕ) (pairs : List ℕ) → d ≡ suc (length pairs) → pair_of (c ∷ pairs) d ≡ c
unfolding pair_of
pair_new c d pairs e = ap (λ (v : Bool). cond v c (pair_of pairs d)) (eq-eqb d (suc (length pairs)) e)

pair_old : (c d : ℕ) (pairs : List ℕ) → d ≤ length pairs → pair_of (c ∷ pairs) d ≡ pair_of pairs d
unfolding pair_of
pair_old c d pairs le = ap (λ (v : Bool). cond v c (pair_of pairs d)) (ne_eqb d (suc (length pairs)) (λ e. absurd (omega (arith, le, e))))

unheard_one : (x : Entry) (past : List Entry) (d : ℕ) (e : Event) → openings past + openings_in e < d → (brings past d e ≡ []) × (bad_in past d e ≡ None)
unheard_one x past d e h1 = grind (arith, common_steps, ne_eqb, nat_tests)

-- nothing came on an opening that is still to come
pub unheard : (past : List Entry) (d : ℕ) → openings past < d → (came past d ≡ []) × (first_bad past d ≡ None)
unfolding openings came first_bad
unheard [] d lt = (refl, refl)
unheard (x ∷ past) d lt =
    let u = unheard past d (omega (arith, lt)) in
    let v = unheard_one x past d x.event lt in
    (ap (λ (l : List Frame). l ++ brings past d x.event) u.0 ∙ v.0, ap (λ (o : Option ℕ). first_of o (bad_in past d x.event)) u.1 ∙ v.1)

pub first_here : (x : Entry) (past : List Entry) (f : Frame) → x.event ≡ event.Open (Some f) false → (came (x ∷ past) (openings past + 1) ≡ f ∷ []) × (first_bad (x ∷ past) (openings past + 1) ≡ None) × (openings (x ∷ past) ≡ openings past + 1)
unfolding openings came first_bad
first_here x past f e =
    let d = openings past + 1 in
    let u = unheard past d (omega arith) in (
      ap (λ (v : Event). came past d ++ brings past d v) e ∙ (ap (λ (l : List Frame). l ++ cond {A = List Frame} (d == d) (f ∷ []) []) u.0 ∙ ap (λ (b : Bool). cond {A = List Frame} b (f ∷ []) []) (eq-eqb d d refl)),
      ap (λ (v : Event). first_of (first_bad past d) (bad_in past d v)) e ∙ ap (λ (o : Option ℕ). first_of o None) u.1,
      ap (λ (v : Event). openings past + openings_in v) e,
    )

first_elsewhere : (x : Entry) (past : List Entry) (f : Frame) (d : ℕ) → x.event ≡ event.Open (Some f) false → d ≤ openings past → Same d past (x ∷ past)
first_elsewhere x past f d e le =
    same_step d x past (ap (λ (v : Event). brings past d v) e ∙ ap (λ (b : Bool). cond {A = List Frame} b (f ∷ []) []) (ne_eqb (openings past + 1) d (λ same. absurd (omega (arith, le, same))))) (ap (λ (v : Event). bad_in past d v) e)

-- nothing was refused on an opening that is still to come
refuses_later : (past : List Entry) (d : ℕ) (a : Answer) (e : Event) → openings past + openings_in e < d → refuses past d a e ≡ []
refuses_later past d a e h1 = grind (arith, common_steps, ne_eqb)

refused_later : (past : List Entry) (d : ℕ) → openings past < d → refused past d ≡ []
unfolding openings refused
refused_later [] d lt = refl
refused_later (x ∷ past) d lt = ap (λ (l : List Frame). l ++ refuses past d x.answer x.event) (refused_later past d (omega (arith, lt))) ∙ refuses_later past d x.answer x.event lt

refused_elsewhere : (x : Entry) (past : List Entry) (f : Frame) (d : ℕ) → x.event ≡ event.Open (Some f) false → d ≤ openings past → refused (x ∷ past) d ≡ refused past d
unfolding refused
refused_elsewhere x past f d e le = grind (arith, common_steps, ne_eqb)

pub refused_here : (x : Entry) (past : List Entry) (f : Frame) → x.event ≡ event.Open (Some f) false → refused (x ∷ past) (openings past + 1) ≡ only (refusal x.answer)
unfolding refused
refused_here x past f e = grind (arith, common_steps, eq-eqb, refused_later)

-- an opening is one of before, or the new one
abbrev IsNewOrOld : List Entry → ℕ → Type 0
IsNewOrOld past d = IsOpening past d ⊎ (d ≡ openings past + 1)

by_case : (P : ℕ → ℕ → Type 0) (x : Entry) (past : List Entry) (c : ℕ) (pairs : List ℕ) → length pairs ≡ openings past → openings (x ∷ past) ≡ openings past + 1
    → ((d : ℕ) → IsOpening past d → P d (pair_of pairs d)) → P (openings past + 1) c → (d : ℕ) → IsOpening (x ∷ past) d → P d (pair_of (c ∷ pairs) d)
by_case P x past c pairs h1 h2 h3 h4 d h5 = grind (arith, common_steps, pair_old, pair_new)

linked_refused : (s : Sides) (c n : ℕ) (r : Ends) → IsOpening r.server n → pair_of r.pairs n ≡ c → (came r.client c ≡ []) × (first_bad r.client c ≡ None) → LinkedThere s (There.Refused n 0) c r
linked_refused s c n r opening is silent = record {
  opening = opening;
  pair_is = is;
  within = omega arith;
  heard = silent_heard s.client.max_in 0 c (refused r.server n) r.client silent;
}

linked_new : (s : Sides) (a : Answer) (c n : ℕ) (r : Ends) → ((d : ℕ) → answer.Opened d ≡ a → d ≡ n) → IsOpening r.server n → pair_of r.pairs n ≡ c → refused r.server n ≡ only (refusal a) → (came r.client c ≡ []) × (first_bad r.client c ≡ None) → LinkedThere s (there_of a n) c r
linked_new s (answer.Opened d) c n r number opening is none silent =
    let same : d ≡ n = number d refl in
    subst (λ (k : ℕ). LinkedThere s (There.Accepted k) c r) (sym same) (record { opening = opening; pair_is = is; kept = none })
linked_new s (answer.Started id) c n r number opening is none silent = linked_refused s c n r opening is silent
linked_new s answer.Done c n r number opening is none silent = linked_refused s c n r opening is silent
linked_new s (answer.Got x) c n r number opening is none silent = linked_refused s c n r opening is silent
linked_new s (answer.GotJob x) c n r number opening is none silent = linked_refused s c n r opening is silent
linked_new s (answer.Drawn x) c n r number opening is none silent = linked_refused s c n r opening is silent
linked_new s answer.Parted c n r number opening is none silent = linked_refused s c n r opening is silent
linked_new s answer.Quiet c n r number opening is none silent = linked_refused s c n r opening is silent
linked_new s answer.Sent c n r number opening is none silent = linked_refused s c n r opening is silent
linked_new s (answer.Dead x) c n r number opening is none silent = linked_refused s c n r opening is silent
linked_new s answer.Handled c n r number opening is none silent = linked_refused s c n r opening is silent
linked_new s (answer.PeerError x) c n r number opening is none silent = linked_refused s c n r opening is silent
linked_new s (answer.Violation x) c n r number opening is none silent = linked_refused s c n r opening is silent
linked_new s (answer.SetupRefused x) c n r number opening is none silent = linked_refused s c n r opening is silent
linked_new s (answer.ResumeRefused x) c n r number opening is none silent = linked_refused s c n r opening is silent
linked_new s (answer.Stale x) c n r number opening is none silent = linked_refused s c n r opening is silent
linked_new s (answer.Refused x) c n r number opening is none silent = linked_refused s c n r opening is silent
linked_new s (answer.Closed x) c n r number opening is none silent = linked_refused s c n r opening is silent
linked_new s answer.NotYet c n r number opening is none silent = linked_refused s c n r opening is silent
linked_new s (answer.OutBusy x) c n r number opening is none silent = linked_refused s c n r opening is silent
linked_new s answer.TapeFull c n r number opening is none silent = linked_refused s c n r opening is silent
linked_new s answer.OutOfMemory c n r number opening is none silent = linked_refused s c n r opening is silent

paired_opened : (s : Sides) (c : ℕ) (f : Frame) (more : List Arrival) (r : Ends) → is_accepted r.client c ≡ true → IsOpening r.client c → LinkedThere s There.Nowhere c r → arrival.Whole f ∷ more ≡ crossed_up s c r → Paired s r → Paired s (opened_by s c f r)
paired_opened s c f more r ac oc out front p =
    let e : Event = event.Open (Some f) false in
    let x = answered s.server r.server e in
    let S = r.server in
    let S1 = x ∷ r.server in
    let n = openings r.server + 1 in
    let first = first_here x r.server f refl in
    let case = λ (P : ℕ → ℕ → Type 0) (old : (d : ℕ) → IsOpening S d → P d (pair_of r.pairs d)) (new : P n c). by_case P x S c r.pairs p.count first.2 old new in
    let silent = p.unpaired c out in
    record {
      count = omega (arith, p.count, first.2);
      accepted = case (λ d k. is_accepted r.client k ≡ true) p.accepted ac;
      within = case (λ d k. IsOpening r.client k) p.within oc;
      apart = λ d e' o o' same. (case (λ d k. (e' : ℕ) → IsOpening S1 e' → k ≡ pair_of (c ∷ r.pairs) e' → d ≡ e')
          (λ d o. case (λ e' k. pair_of r.pairs d ≡ k → d ≡ e') (λ e' o' w. p.apart d e' o o' w) (λ w. absurd (out d o w)))
          (case (λ e' k. c ≡ k → n ≡ e') (λ e' o' w. absurd (out e' o' (sym w))) (λ w. refl))) d o e' o' same;
      up = case (λ d k. UpHeard s k d r.client S1)
          (λ d o. same_heard s.server.max_in (drawn r.client (pair_of r.pairs d)) d (due s.client r.client (pair_of r.pairs d)) S S1 (first_elsewhere x S f d refl o.within) (p.up d o))
          (subst (λ (fs : List Frame). Heard s.server.max_in (drawn r.client c) (due s.client r.client c) fs (first_bad S1 n)) (sym first.0) (subst (λ (b : Option ℕ). Heard s.server.max_in (drawn r.client c) (due s.client r.client c) (f ∷ []) b) (sym first.1)
          (record { rest = more; parts = front; long = tt })));
      down = case (λ d k. DownHeard s k d r.client S1)
          (λ d o. sends_down s (pair_of r.pairs d) d S S1 r.client ((goes_one s.server x S).sends d) (refused_elsewhere x S f d refl o.within) (p.down d o))
          (silent_heard s.client.max_in (bytes_offered S1 n) c (frames_offered s.server S1 n) r.client silent);
      unpaired = λ k far. p.unpaired k (λ d o w. far d (more_opening S S1 d (omega (arith, first.2)) o) (pair_old c d r.pairs (omega (arith, o.within, p.count)) ∙ w));
      link = record {
        accepted = ac;
        opening = oc;
        there = linked_new s (answer_to s.server r.server e) c n (opened_by s c f r) (λ d. number_is s.server r.server (Some f) d) (record { above = omega arith; within = omega (arith, first.2) }) (pair_new c n r.pairs (omega (arith, p.count))) (refused_here x S f refl) silent;
      };
    }

paired_accepted : (s : Sides) (c : ℕ) (t : There) (r : Ends) → LinkedThere s t c r → Paired s r → Paired s (hears_if_accepted s c t r)
paired_accepted s c There.Nowhere r h p = p
paired_accepted s c (There.Accepted d) r h p = paired_up s c d r h.pair_is h.opening p
paired_accepted s c (There.Refused d n) r h p = p

there_linked : (s : Sides) (c : ℕ) (t : There) (r : Ends) → r.link ≡ Some (record { client = c; there = t }) → Paired s r → LinkedThere s t c r
there_linked s c t r is p = (subst (λ (o : Option Link). Linked s o r) is p.link).there

pub paired_meets : (s : Sides) (c : ℕ) (items : List Arrival) (r : Ends) → is_accepted r.client c ≡ true → IsOpening r.client c → LinkedThere s There.Nowhere c r → items ≡ crossed_up s c r → Paired s r → Paired s (meets s c items r)
paired_meets s c [] r ac oc out front p = p
paired_meets s c (arrival.TooLong ∷ more) r ac oc out front p = p
paired_meets s c (arrival.Whole f ∷ more) r ac oc out front p =
    let t = there_of (answer_to s.server r.server (event.Open (Some f) false)) (openings r.server + 1) in
    let next = paired_opened s c f more r ac oc out front p in
    paired_accepted s c t (opened_by s c f r) (there_linked s c t (opened_by s c f r) refl next) next
