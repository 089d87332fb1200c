-- The connection that the client alone gave up, while both ends go on.
use Rattle.std.proofs.lemmas.Grind.{common_steps}
use Rattle.std.proofs.Common.{◌≡◌, ◌≢◌, ◌≤◌, ◌+◌, ℕ, false, List, [], ◌∷◌, Option, Some, None, IfSome, refl, subst, sym, arith}
use Rattle.rs_wire.specs.declared.settings.Settings.{Settings}
use Rattle.rs_frame.specs.declared.frame.Frame.{Frame}
use Rattle.tape.specs.declared.event.Event.TheVariants as event
use Rattle.tape.specs.declared.answer.Answer.{Answer}
use Rattle.tape.specs.declared.answer.Answer.TheVariants as answer
use Rattle.tape.specs.declared.entry.Entry.{Entry}
use Rattle.session_model.specs.Life.{openings}
use Rattle.session_model.specs.Frames.{drawn, due}
use Rattle.session_model.specs.Answers.{answer_to}
use Rattle.session_model.specs.Joined.{IsOpening}
use Rattle.cable.specs.declared.arrival.Arrival.{Arrival}
use Rattle.cable.specs.declared.arrival.Arrival.TheVariants as arrival
use Rattle.cable.specs.declared.carrying.Most.{Most}
use Rattle.cable.specs.Played.{Ends, Gives, Link, Sides, There, arrives_up, crossed_up, hears_if_accepted, link_of, meets, opened_by, there_of}
use Rattle.cable.specs.Wires.{IsLost}
use Rattle.cable.proofs.Grows.{drew_where, hears_on}
use Rattle.cable.proofs.Moving.{opened_so}
use Rattle.cable.proofs.Opening.{first_here, number_is}
use Rattle.cable.proofs.Pairing.{more_opening}

pub lost_as : (o : Option ℕ) (S S' : List Entry) (l l' : Option Link) → ((d : ℕ) → IsLost S l d → IsLost S' l' d) → IfSome o (IsLost S l) → IfSome o (IsLost S' l')
lost_as None S S' l l' f h = tt
lost_as (Some d) S S' l l' f h = f d h

-- the server goes on, and is opened no more
pub lost_more : (S S' : List Entry) (l : Option Link) (d : ℕ) → openings S ≤ openings S' → IsLost S l d → IsLost S' l d
lost_more S S' l d le h = record { opening = more_opening S S' d le h.opening; apart = h.apart }

pub no_link : (c d : ℕ) → ◌≢◌ {A = Option Link} None (Some (record { client = c; there = There.Accepted d }))
no_link c d = λ same. absurd (cc)

-- no connection joins the ends
pub lost_alone : (S S' : List Entry) (l : Option Link) (d : ℕ) → openings S ≤ openings S' → IsLost S l d → IsLost S' None d
lost_alone S S' l d le h = record { opening = more_opening S S' d le h.opening; apart = λ c. no_link c d }

accepted_as : (c e d : ℕ) (t : There) → ◌≡◌ {A = Option Link} (Some (record { client = c; there = t })) (Some (record { client = e; there = There.Accepted d })) → t ≡ There.Accepted d
accepted_as c e d t h1 = grind (arith, common_steps)

-- a connection that the client opens is another one
fresh_link : (a : Answer) (c d : ℕ) → link_of a ≢ Some (record { client = c; there = There.Accepted d })
fresh_link a c d = λ h1. grind (arith, common_steps)

pub lost_opened : (a : Answer) (S : List Entry) (l : Option Link) (d : ℕ) → IsLost S l d → IsLost S (link_of a) d
lost_opened a S l d h = record { opening = h.opening; apart = λ c. fresh_link a c d }

-- ---- the server hears

lost_first : (s : Sides) (c : ℕ) (f : Frame) (r : Ends) (d : ℕ) → IsLost r.server r.link d → IsLost (opened_by s c f r).server (opened_by s c f r).link d
lost_first s c f r d h =
    let a = answer_to s.server r.server (event.Open (Some f) false) in
    let n = openings r.server + 1 in
    let S1 = (opened_by s c f r).server in
    let here : openings S1 ≡ n = (first_here (record { who = 0; event = event.Open (Some f) false; answer = a }) r.server f refl).2 in
    record {
      opening = more_opening r.server S1 d (omega (arith, here)) h.opening;
      apart = λ e same.
          let opened : answer.Opened d ≡ a = opened_so a n d (accepted_as c e d (there_of a n) same) in
          let new : d ≡ n = number_is s.server r.server (Some f) d opened in
          absurd (omega (arith, h.opening.within, new));
    }

lost_met : (s : Sides) (c : ℕ) (t : There) (r : Ends) (d : ℕ) → IsLost r.server r.link d → IsLost (hears_if_accepted s c t r).server (hears_if_accepted s c t r).link d
lost_met s c There.Nowhere r d h = h
lost_met s c (There.Accepted e) r d h =
    let heard = hears_on s.server e (drawn r.client c) (due s.client r.client c) r.server in
    lost_more r.server _ r.link d (omega (arith, heard.openings_are)) h
lost_met s c (There.Refused e n) r d h = h

lost_meets : (s : Sides) (c : ℕ) (items : List Arrival) (r : Ends) (d : ℕ) → IsLost r.server r.link d → IsLost (meets s c items r).server (meets s c items r).link d
lost_meets s c [] r d h = h
lost_meets s c (arrival.TooLong ∷ more) r d h = h
lost_meets s c (arrival.Whole f ∷ more) r d h =
    lost_met s c (there_of (answer_to s.server r.server (event.Open (Some f) false)) (openings r.server + 1)) (opened_by s c f r) d (lost_first s c f r d h)

pub lost_arrives : (s : Sides) (c : ℕ) (t : There) (r : Ends) (d : ℕ) → IsLost r.server r.link d → IsLost (arrives_up s c t r).server (arrives_up s c t r).link d
lost_arrives s c There.Nowhere r d h = lost_meets s c (crossed_up s c r) r d h
lost_arrives s c (There.Accepted e) r d h = lost_met s c (There.Accepted e) r d h
lost_arrives s c (There.Refused e n) r d h = h

pub arrives_dropped : (s : Sides) (c : ℕ) (t : There) (r : Ends) → (arrives_up s c t r).dropped ≡ r.dropped
arrives_dropped s c t r = grind (arith, common_steps)

-- ---- the server gives

refused_link : (c e d n i : ℕ) → ◌≢◌ {A = Option Link} (Some (record { client = c; there = There.Refused d n })) (Some (record { client = e; there = There.Accepted i }))
refused_link c e d n i = λ same. let no : There.Refused d n ≡ There.Accepted i = accepted_as c e i (There.Refused d n) same in absurd (cc)

-- on a connection that joins the ends as before, or that it refused
pub lost_gave : (h : Settings) (m : Most) (t t' : There) (S S' : List Entry) (c d : ℕ) → Gives h m t t' S S' → IsLost S (Some (record { client = c; there = t })) d → IsLost S' (Some (record { client = c; there = t' })) d
lost_gave h m There.Nowhere t' S S' c d u l = subst (λ (x : There). IsLost S' (Some (record { client = c; there = x })) d) (sym u.0) (subst (λ (x : List Entry). IsLost x (Some (record { client = c; there = There.Nowhere })) d) (sym u.1) l)
lost_gave h m (There.Accepted e) t' S S' c d u l =
    subst (λ (x : There). IsLost S' (Some (record { client = c; there = x })) d) (sym u.0) (lost_more S S' (Some (record { client = c; there = There.Accepted e })) d (drew_where _ h e m S S' u.1).1.openings_most l)
lost_gave h m (There.Refused e n) t' S S' c d u l =
    subst (λ (x : There). IsLost S' (Some (record { client = c; there = x })) d) (sym u.0) (record { opening = subst (λ (x : List Entry). IsOpening x d) (sym u.1) l.opening; apart = λ i. refused_link c i e _ d })
