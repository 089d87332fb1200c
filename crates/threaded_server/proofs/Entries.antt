-- What an entry leaves of an opening that was made before it.
use Rattle.std.proofs.Common.{◌≡◌, ◌≢◌, ◌≤◌, ◌+◌, ◌==◌, ℕ, zero, suc, true, false, List, [], ◌∷◌, ◌++◌, length, take, Option, Some, None, refl, ap, sym, ◌∙◌, subst, arith, append-nil}
use Rattle.std.proofs.lemmas.Bool.Decides.{nat_tests}
use Rattle.rs_wire.specs.declared.settings.Settings.{Settings}
use Rattle.rs_frame.specs.declared.frame.Frame.{Frame}
use Rattle.rs_frame.specs.Framed.{framed_all}
use Rattle.tape.specs.declared.event.Event.{Event}
use Rattle.tape.specs.declared.event.Event.TheVariants as event
use Rattle.tape.specs.declared.answer.Answer.{Answer}
use Rattle.tape.specs.declared.answer.Answer.TheVariants as answer
use Rattle.tape.specs.declared.entry.Entry.{Entry}
use Rattle.session_model.specs.Answers.{facts}
use Rattle.session_model.specs.Legal.{Legal}
use Rattle.session_model.specs.Means.{Means}
use Rattle.session_model.specs.Lists.{IsPrefix}
use Rattle.session_model.specs.Life.{is_live, live, live_after, openings, openings_in}
use Rattle.session_model.specs.Frames.{came, drawn, due, owes, first_bad, was_opened}
use Rattle.session_model.specs.Joined.{IsOpening, offered, refused, refuses, unless_refused}
use Rattle.session_model.proofs.Meaning.{last_means}
use Rattle.session_laws.proofs.Prefixes.{prefix_cons, prefix_refl, prefix_trans}
use Rattle.link_model.specs.Carrying.{is_of}
use Rattle.link_model.specs.Reading.{HasRead}
use Rattle.link_model.proofs.Same.{bad_other, came_other, due_more}
use Rattle.ring.specs.declared.item.Item.{Item}
use Rattle.ring.specs.Parts.{part}
use Rattle.threaded_model.specs.Handed.{IsReadOn}
use Rattle.threaded_server.specs.Serving.{IsServed}

-- ---- openings

pub opening_on : (past : List Entry) (x : Entry) (d : ℕ) → IsOpening past d → IsOpening (x ∷ past) d
unfolding openings
opening_on past x d o = let w = o.within in record { above = o.above; within = omega (arith, w) }

pub opening_back : (past : List Entry) (x : Entry) (d : ℕ) → openings_in x.event ≡ 0 → IsOpening (x ∷ past) d → IsOpening past d
unfolding openings
opening_back past x d none o = let w = o.within in record { above = o.above; within = omega (arith, w, none) }

pub opened_by : (past : List Entry) (d : ℕ) → IsOpening past d → was_opened past d ≡ true
opened_by past d o = let a = o.above in let w = o.within in grind (arith, nat_tests, a, w)

-- ---- the refusal

not_next : (past : List Entry) (d : ℕ) → IsOpening past d → (openings past + 1 == d) ≡ false
not_next past d o = let w = o.within in grind (arith, nat_tests, w)

refuses_none : (past : List Entry) (d : ℕ) (a : Answer) (e : Event) → IsOpening past d → refuses past d a e ≡ []
refuses_none past d a (event.Open (Some f) taken) o = rw (not_next past d o) refl
refuses_none past d a (event.Open None taken) o = refl
refuses_none past d a e o = refl

pub refused_on : (past : List Entry) (x : Entry) (d : ℕ) → IsOpening past d → refused (x ∷ past) d ≡ refused past d
unfolding refused
refused_on past x d o = ap (λ (fs : List Frame). refused past d ++ fs) (refuses_none past d x.answer x.event o) ∙ append-nil (refused past d)

-- ---- what is offered

take_grows : (n m : ℕ) (xs ys : List ℕ) → n ≤ m → IsPrefix xs ys → IsPrefix (take n xs) (take m ys)
take_grows zero m xs ys le p = (take m ys, refl)
take_grows (suc n) m [] ys le p = (take m ys, refl)
take_grows (suc n) zero (x ∷ xs) ys le p = absurd (omega (arith, le))
take_grows (suc n) (suc m) (x ∷ xs) [] le p = absurd (cc (p.1))
take_grows (suc n) (suc m) (x ∷ xs) (y ∷ ys) le p =
    let q = prefix_cons x y xs ys p in
    let r = take_grows n m xs ys (omega (arith, le)) q.1 in
    let same : x ≡ y = q.0 in
    (r.0, ap (λ (z : ℕ). z ∷ (take n xs ++ r.0)) same ∙ ap (λ (l : List ℕ). y ∷ l) r.1)

pub drawn_on : (past : List Entry) (x : Entry) (d : ℕ) → drawn past d ≤ drawn (x ∷ past) d
unfolding drawn
drawn_on past x d = omega arith

offers : (g : Settings) (past : List Entry) (x : Entry) (d : ℕ) (fs : List Frame) → IsPrefix (take (unless_refused fs (drawn past d) (length (framed_all fs))) (framed_all (unless_refused fs (due g past d) fs))) (take (unless_refused fs (drawn (x ∷ past) d) (length (framed_all fs))) (framed_all (unless_refused fs (due g (x ∷ past) d) fs)))
offers g past x d [] = take_grows (drawn past d) (drawn (x ∷ past) d) (framed_all (due g past d)) (framed_all (due g (x ∷ past) d)) (drawn_on past x d) (framed_all (owes g past d x.answer x.event), sym (due_more g past x d))
offers g past x d (f ∷ fs) = prefix_refl (take (length (framed_all (f ∷ fs))) (framed_all (f ∷ fs)))

pub offered_on : (g : Settings) (past : List Entry) (x : Entry) (d : ℕ) → IsOpening past d → IsPrefix (offered g past d) (offered g (x ∷ past) d)
offered_on g past x d o = subst (λ (fs : List Frame). IsPrefix (offered g past d) (take (unless_refused fs (drawn (x ∷ past) d) (length (framed_all fs))) (framed_all (unless_refused fs (due g (x ∷ past) d) fs)))) (sym (refused_on past x d o)) (offers g past x d (refused past d))

-- ---- what came

pub read_on : (g : Settings) (past : List Entry) (x : Entry) (d : ℕ) (taken : List ℕ) → IsOpening past d → is_of d x.event ≡ false → IsReadOn g past d taken → IsReadOn g (x ∷ past) d taken
read_on g past x d taken o apart r =
    let same = came_other past x d (opened_by past d o) apart in
    let bad = bad_other past x d apart in
    record {
      rest = r.rest;
      read = subst (λ (fs : List Frame). HasRead fs (first_bad (x ∷ past) d) g.max_in r.rest taken) (sym same) (subst (λ (b : Option ℕ). HasRead (came past d) b g.max_in r.rest taken) (sym bad) r.read);
    }

longer : (xs ys : List Frame) → xs ≢ [] → xs ++ ys ≢ []
longer [] ys some none = some refl
longer (x ∷ xs) ys some none = absurd (cc (none))

pub first_on : (past : List Entry) (x : Entry) (d : ℕ) → came past d ≢ [] → came (x ∷ past) d ≢ []
unfolding came
first_on past x d some = longer (came past d) _ some

pub served_on : (g : Settings) (past : List Entry) (x : Entry) (d k : ℕ) (sent received : List Item) → IsOpening past d → is_of d x.event ≡ false → IsServed g past d k sent received → IsServed g (x ∷ past) d k sent received
served_on g past x d k sent received o apart s = record {
  gave = prefix_trans (part k sent) (offered g past d) (offered g (x ∷ past) d) s.gave (offered_on g past x d o);
  read = read_on g past x d (part k received) o apart s.read;
  first = first_on past x d s.first;
}

-- ---- one that is not live

-- an opening that is not live stays so
pub off_on : (g : Settings) (past : List Entry) (x : Entry) (d : ℕ) → Legal g (x ∷ past) → IsOpening past d → is_live (live past) d ≡ false → is_live (live (x ∷ past)) d ≡ false
unfolding live facts
off_on g past x d legal o off = stays x.answer x.event (last_means g x past legal)
  where
    stays : (a : Answer) (e : Event) → Means g (facts g past) e a → is_live (live_after a (live past)) d ≡ false
    stays (answer.Opened n) (event.Open first taken) means = let next = means.next in let w = o.within in grind (arith, nat_tests, next, w)
    stays (answer.Opened n) e means = absurd means
    stays answer.Parted e means = grind (arith, nat_tests)
    stays (answer.Dead last) e means = grind (arith, nat_tests)
    stays a e means = off
