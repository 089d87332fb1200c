-- What moves, and what crosses to the client, as the server goes on.
use Rattle.std.proofs.lemmas.Grind.{common_steps}
use Rattle.std.proofs.Common.{◌≡◌, ◌≤◌, ◌+◌, ◌||◌, ℕ, Bool, true, false, List, [], ◌∷◌, ◌++◌, take, Option, Some, refl, ap, subst, sym, ◌∙◌, arith, append-nil}
use Rattle.rs_wire.specs.Settings.{IsChecked}
use Rattle.rs_wire.specs.declared.settings.Settings.{Settings}
use Rattle.rs_frame.specs.declared.frame.Frame.{Frame}
use Rattle.rs_frame.specs.Framed.{framed_all}
use Rattle.rs_chunk.specs.Rest.{Rest}
use Rattle.tape.specs.declared.event.Event.TheVariants as event
use Rattle.tape.specs.declared.answer.Answer.{Answer}
use Rattle.tape.specs.declared.answer.Answer.TheVariants as answer
use Rattle.tape.specs.declared.entry.Entry.{Entry}
use Rattle.session_model.specs.Life.{openings}
use Rattle.session_model.specs.Frames.{drawn, due}
use Rattle.session_model.specs.Answers.{answer_to}
use Rattle.session_model.specs.Joined.{refused}
use Rattle.session_model.specs.Legal.{Fair, Legal}
use Rattle.session_model.proofs.Openings.{drawn_later}
use Rattle.session_model.proofs.Queue.{drawn_le}
use Rattle.session_laws.proofs.Framing.{AreSpellable}
use Rattle.session_laws.proofs.Refused.{refused_spelled}
use Rattle.session_laws.proofs.Spelled.{due_spelled}
use Rattle.cable.specs.declared.arrival.Arrival.{Arrival}
use Rattle.cable.specs.declared.arrival.Arrival.TheVariants as arrival
use Rattle.cable.specs.Played.{Ends, Link, Sides, There, answered, arrives_up, arrivals, bytes_down, bytes_on, crossed_up, frames_down, hears, hears_if_accepted, hears_up, meets, moved, opened_by, there_of}
use Rattle.cable.specs.Hearing.{CrossedTo, Grew}
use Rattle.cable.proofs.Grows.{Goes, hears_on}
use Rattle.cable.proofs.Opening.{number_is}
use Rattle.cable.proofs.Sending.{crosses_on, hears_drawn, still_given}

-- ---- what grew

pub grew_or : (a b : Bool) (m m' n n' k x x' : ℕ) → Grew a m m' → Grew b n n' → x ≡ m + n + k → x' ≡ m' + n' + k → Grew (a || b) x x'
grew_or true true m m' n n' k x x' h i e f = omega (arith, h, i, e, f)
grew_or true false m m' n n' k x x' h i e f = omega (arith, h, i, e, f)
grew_or false true m m' n n' k x x' h i e f = omega (arith, h, i, e, f)
grew_or false false m m' n n' k x x' h i e f = omega (arith, h, i, e, f)

-- what grew twice
pub grew_twice : (a b : Bool) (m n k : ℕ) → Grew a m n → Grew b n k → Grew (a || b) m k
grew_twice true true m n k h i = omega (arith, h, i)
grew_twice true false m n k h i = omega (arith, h, i)
grew_twice false true m n k h i = omega (arith, h, i)
grew_twice false false m n k h i = omega (arith, h, i)

pub moved_on_link : (r : Ends) (c : ℕ) (t : There) → r.link ≡ Some (record { client = c; there = t }) → moved r ≡ (drawn r.client c + bytes_down t r.server) + (arrivals r.client + arrivals r.server)
moved_on_link r c t is = ap (λ (l : Option Link). bytes_on l r.client r.server + (arrivals r.client + arrivals r.server)) is

-- ---- what the server gives on a connection

-- it gives these frames now, of which this piece crossed since
pub record Gives (h : Settings) (t t' : There) (S S' : List Entry) (piece : List ℕ) : Type 0 where
  pub more : List Frame
  pub frames_are : frames_down h t' S' ≡ frames_down h t S ++ more
  pub most : bytes_down t S ≤ bytes_down t' S'
  pub gave : take (bytes_down t' S') (framed_all (frames_down h t' S')) ≡ take (bytes_down t S) (framed_all (frames_down h t S)) ++ piece

pub spelled_down : (h : Settings) (t : There) (S : List Entry) → IsChecked h → Legal h S → Fair h S → AreSpellable (frames_down h t S)
spelled_down h There.Nowhere S checked legal fair = tt
spelled_down h (There.Accepted d) S checked legal fair = due_spelled h S d checked legal fair
spelled_down h (There.Refused d n) S checked legal fair = refused_spelled S d

-- what crossed to the client then
pub gives_crosses : (g h : Settings) (c : ℕ) (t t' : There) (C S S' : List Entry) (rest rest' : Rest) (over : Bool) (piece : List ℕ) → IsChecked h → Legal h S' → Fair h S' → Gives h t t' S S' piece → rest' ≡ record rest { bytes = rest.bytes ++ piece }
    → CrossedTo g c (bytes_down t S) (frames_down h t S) C rest over → CrossedTo g c (bytes_down t' S') (frames_down h t' S') C rest' over
gives_crosses g h c t t' C S S' rest rest' over piece checked legal fair u fed x =
    crosses_on g c (bytes_down t S) (bytes_down t' S') (frames_down h t S) (frames_down h t' S') u.more C rest rest' over piece u.frames_are u.most (spelled_down h t' S' checked legal fair) u.gave fed x

pub nothing_fed : (rest : Rest) → rest ≡ record rest { bytes = rest.bytes ++ [] }
nothing_fed rest = ap (λ (l : List ℕ). record rest { bytes = l }) (sym (append-nil rest.bytes))

-- ---- the server goes on, and gives nothing

-- it gives nothing on that connection while it goes on
pub record Keeps (h : Settings) (t t' : There) (S S' : List Entry) : Type 0 where
  pub gives : Gives h t t' S S' []
  pub same : bytes_down t' S' ≡ bytes_down t S

pub kept_all : (h : Settings) (t : There) (S : List Entry) → Keeps h t t S S
kept_all h t S = record {
  gives = record { more = []; frames_are = sym (append-nil (frames_down h t S)); most = omega arith; gave = sym (append-nil (take (bytes_down t S) (framed_all (frames_down h t S)))) };
  same = refl;
}

-- of what it accepted or refused, where nothing was drawn
pub kept_on : (h : Settings) (t : There) (S S' : List Entry) → Legal h S → Goes h S S' → ((d : ℕ) → refused S' d ≡ refused S d) → bytes_down t S' ≡ bytes_down t S → Keeps h t t S S'
kept_on h There.Nowhere S S' legal goes refusals same = record { gives = record { more = []; frames_are = refl; most = omega arith; gave = refl }; same = refl }
kept_on h (There.Accepted d) S S' legal goes refusals same =
    let z = goes.sends d in
    record {
      gives = record { more = z.more; frames_are = z.due_is; most = z.drawn_most; gave = still_given h d S S' z same (drawn_le h S d legal) };
      same = same;
    }
kept_on h (There.Refused d n) S S' legal goes refusals same = record {
  gives = record {
    more = [];
    frames_are = refusals d ∙ sym (append-nil (refused S d));
    most = omega arith;
    gave = ap (λ (fs : List Frame). take n (framed_all fs)) (refusals d) ∙ sym (append-nil (take n (framed_all (refused S d))));
  };
  same = refl;
}

-- before it knows of the connection, it gives none
pub kept_new : (h : Settings) (t : There) (S S' : List Entry) → bytes_down t S' ≡ 0 → Keeps h There.Nowhere t S S'
kept_new h t S S' none = record {
  gives = record { more = frames_down h t S'; frames_are = refl; most = omega (arith, none); gave = ap (λ (n : ℕ). take n (framed_all (frames_down h t S'))) none };
  same = none;
}

-- ---- what comes at the server

drawn_by_opening : (x : Entry) (past : List Entry) (f : Frame) (d : ℕ) → x.event ≡ event.Open (Some f) false → drawn (x ∷ past) d ≡ drawn past d
unfolding drawn
drawn_by_opening x past f d e = grind (arith, common_steps)

none_drawn : (h : Settings) (S : List Entry) (f : Frame) (d : ℕ) → Legal h S → answer.Opened d ≡ answer_to h S (event.Open (Some f) false) → drawn (answered h S (event.Open (Some f) false) ∷ S) d ≡ 0
none_drawn h S f d legal is =
    let number = number_is h S (Some f) d is in
    drawn_by_opening (answered h S (event.Open (Some f) false)) S f d refl ∙ drawn_later h S d legal (omega (arith, number))

-- the link of these ends
abbrev pub IsLinked : Ends → ℕ → There → Type 0
IsLinked r c t = r.link ≡ Some (record { client = c; there = t })

there_is : (c : ℕ) (o : Option Link) (t u : There) → o ≡ Some (record { client = c; there = t }) → o ≡ Some (record { client = c; there = u }) → u ≡ t
there_is c o t u h1 h2 = grind (arith, common_steps)

abbrev pub KeepsTo : Sides → There → Ends → Ends → There → Type 0
KeepsTo s t r r' t' = Keeps s.server t t' r.server r'.server

not_nowhere : (a : Answer) (n : ℕ) → there_of a n ≡ There.Nowhere → ⊥
not_nowhere a n h1 = grind (arith, common_steps)

pub opened_so : (a : Answer) (n d : ℕ) → there_of a n ≡ There.Accepted d → answer.Opened d ≡ a
opened_so a n d h1 = grind (arith, common_steps)

none_offered : (a : Answer) (n d m : ℕ) → there_of a n ≡ There.Refused d m → m ≡ 0
none_offered a n d m h1 = grind (arith, common_steps)

-- where the first frame came
met_keeps : (s : Sides) (c : ℕ) (f : Frame) (t t' : There) (r : Ends) → Legal s.server r.server → there_of (answer_to s.server r.server (event.Open (Some f) false)) (openings r.server + 1) ≡ t
    → IsLinked (hears_if_accepted s c t (opened_by s c f r)) c t' → KeepsTo s There.Nowhere r (hears_if_accepted s c t (opened_by s c f r)) t'
met_keeps s c f There.Nowhere t' r legal is at = absurd (not_nowhere (answer_to s.server r.server (event.Open (Some f) false)) (openings r.server + 1) is)
met_keeps s c f (There.Accepted d) t' r legal is at =
    let S1 = answered s.server r.server (event.Open (Some f) false) ∷ r.server in
    let same : t' ≡ There.Accepted d = there_is c (Some (record { client = c; there = there_of (answer_to s.server r.server (event.Open (Some f) false)) (openings r.server + 1) })) (There.Accepted d) t' (ap (λ (t : There). Some (record { client = c; there = t })) is) at in
    let none : drawn S1 d ≡ 0 = none_drawn s.server r.server f d legal (opened_so (answer_to s.server r.server (event.Open (Some f) false)) (openings r.server + 1) d is) in
    subst (λ (t : There). KeepsTo s There.Nowhere r (hears_up s c d (opened_by s c f r)) t) (sym same)
    (kept_new s.server (There.Accepted d) r.server _ (hears_drawn s.server d d (drawn r.client c) (due s.client r.client c) S1 ∙ none))
met_keeps s c f (There.Refused d m) t' r legal is at =
    let same : t' ≡ There.Refused d m = there_is c (Some (record { client = c; there = there_of (answer_to s.server r.server (event.Open (Some f) false)) (openings r.server + 1) })) (There.Refused d m) t' (ap (λ (t : There). Some (record { client = c; there = t })) is) at in
    subst (λ (t : There). KeepsTo s There.Nowhere r (opened_by s c f r) t) (sym same)
    (kept_new s.server (There.Refused d m) r.server _ (none_offered (answer_to s.server r.server (event.Open (Some f) false)) (openings r.server + 1) d m is))

stays : (s : Sides) (c : ℕ) (t t' : There) (r : Ends) → IsLinked r c t → IsLinked r c t' → KeepsTo s t r r t'
stays s c t t' r is at = subst (λ (u : There). KeepsTo s t r r u) (sym (there_is c r.link t t' is at)) (kept_all s.server t r.server)

meets_keeps : (s : Sides) (c : ℕ) (items : List Arrival) (t' : There) (r : Ends) → Legal s.server r.server → IsLinked r c There.Nowhere → IsLinked (meets s c items r) c t' → KeepsTo s There.Nowhere r (meets s c items r) t'
meets_keeps s c [] t' r legal is at = stays s c There.Nowhere t' r is at
meets_keeps s c (arrival.TooLong ∷ more) t' r legal is at = stays s c There.Nowhere t' r is at
meets_keeps s c (arrival.Whole f ∷ more) t' r legal is at = met_keeps s c f (there_of (answer_to s.server r.server (event.Open (Some f) false)) (openings r.server + 1)) t' r legal refl at

-- the server gives nothing while it hears
pub arrives_keeps : (s : Sides) (c : ℕ) (t t' : There) (r : Ends) → Legal s.server r.server → IsLinked r c t → IsLinked (arrives_up s c t r) c t' → KeepsTo s t r (arrives_up s c t r) t'
arrives_keeps s c There.Nowhere t' r legal is at = meets_keeps s c (crossed_up s c r) t' r legal is at
arrives_keeps s c (There.Accepted d) t' r legal is at =
    let h = hears_on s.server d (drawn r.client c) (due s.client r.client c) r.server in
    subst (λ (u : There). KeepsTo s (There.Accepted d) r (hears_up s c d r) u) (sym (there_is c r.link (There.Accepted d) t' is at))
    (kept_on s.server (There.Accepted d) r.server (hears s.server d (drawn r.client c) (due s.client r.client c) r.server) legal h.goes h.refused_are (hears_drawn s.server d d (drawn r.client c) (due s.client r.client c) r.server))
arrives_keeps s c (There.Refused d n) t' r legal is at = stays s c (There.Refused d n) t' r is at
