-- What an entry changes of a connection, and what it leaves.
use Rattle.std.proofs.lemmas.Bool.Decides.{nat_tests}
use Rattle.std.proofs.Common.{◌≡◌, ◌≤◌, ◌+◌, ◌-◌, ◌==◌, ◌∙◌, ℕ, true, false, List, [], ◌∷◌, ◌++◌, length, Option, Some, None, refl, sym, ap, subst, arith, append-nil}
use Rattle.rs_wire.specs.declared.settings.Settings.{Settings}
use Rattle.rs_frame.specs.declared.frame.Frame.{Frame}
use Rattle.rs_frame.specs.Framed.{framed_all}
use Rattle.tape.specs.Told.{entry_of}
use Rattle.tape.specs.declared.entry.Entry.{Entry}
use Rattle.tape.specs.declared.event.Event.{Event}
use Rattle.tape.specs.declared.event.Event.TheVariants as event
use Rattle.tape.specs.declared.answer.Answer.{Answer}
use Rattle.tape.specs.declared.answer.Answer.TheVariants as answer
use Rattle.session_model.specs.Lists.{first_of}
use Rattle.session_model.specs.Life.{live, openings}
use Rattle.session_model.specs.Frames.{bad_in, brings, came, drawn, draws, due, first_bad, owes, queued, was_opened}
use Rattle.session_model.specs.Answers.{facts, answer_to}
use Rattle.session_model.specs.Means.{Means}
use Rattle.session_model.proofs.Meaning.{meaning}
use Rattle.session_model.proofs.Queue.{framed_all-append}
use Rattle.link_model.specs.Giving.{drawn_before, is_draw_of}
use Rattle.link_model.specs.Carrying.{is_of}

draws_none : (c : ℕ) (a : Answer) (e : Event) → is_of c e ≡ false → draws c a e ≡ 0
draws_none c (answer.Drawn n) (event.Draw conn room) is = rw is refl
draws_none c _ e is = grind arith

pub drawn_same : (past : List Entry) (x : Entry) (c : ℕ) → is_of c x.event ≡ false → drawn (x ∷ past) c ≡ drawn past c
unfolding drawn
drawn_same past x c is = let none = draws_none c x.answer x.event is in omega arith

is_draw_none : (c : ℕ) (e : Event) → is_of c e ≡ false → is_draw_of c e ≡ false
is_draw_none c (event.Draw conn room) is = is
is_draw_none c _ is = refl

pub before_same : (past : List Entry) (x : Entry) (c : ℕ) → is_draw_of c x.event ≡ false → drawn_before (x ∷ past) c ≡ drawn_before past c
unfolding drawn_before
before_same past x c is = rw is refl

pub before_other : (past : List Entry) (x : Entry) (c : ℕ) → is_of c x.event ≡ false → drawn_before (x ∷ past) c ≡ drawn_before past c
before_other past x c is = before_same past x c (is_draw_none c x.event is)

pub before_draw : (past : List Entry) (x : Entry) (c : ℕ) → is_draw_of c x.event ≡ true → drawn_before (x ∷ past) c ≡ drawn past c
unfolding drawn_before
before_draw past x c is = rw is refl

first_none : (o : Option ℕ) → first_of o None ≡ o
first_none None = refl
first_none (Some k) = refl

bad_none : (past : List Entry) (c : ℕ) (e : Event) → is_of c e ≡ false → bad_in past c e ≡ None
bad_none past c (event.Bad conn rule) is = rw is refl
bad_none past c _ is = refl

pub bad_same : (past : List Entry) (x : Entry) (c : ℕ) → bad_in past c x.event ≡ None → first_bad (x ∷ past) c ≡ first_bad past c
unfolding first_bad
bad_same past x c is = ap (first_of (first_bad past c)) is ∙ first_none (first_bad past c)

pub bad_other : (past : List Entry) (x : Entry) (c : ℕ) → is_of c x.event ≡ false → first_bad (x ∷ past) c ≡ first_bad past c
bad_other past x c is = bad_same past x c (bad_none past c x.event is)

brings_none : (past : List Entry) (c : ℕ) (e : Event) → was_opened past c ≡ true → is_of c e ≡ false → brings past c e ≡ []
brings_none past c (event.Open (Some f) taken) o is = let later : (openings past + 1 == c) ≡ false = grind (arith, nat_tests) in rw later refl
brings_none past c (event.Came conn f) o is = rw is refl
brings_none past c _ o is = refl

pub came_same : (past : List Entry) (x : Entry) (c : ℕ) → brings past c x.event ≡ [] → came (x ∷ past) c ≡ came past c
unfolding came
came_same past x c is = ap (λ fs. came past c ++ fs) is ∙ append-nil (came past c)

pub came_other : (past : List Entry) (x : Entry) (c : ℕ) → was_opened past c ≡ true → is_of c x.event ≡ false → came (x ∷ past) c ≡ came past c
came_other past x c o is = came_same past x c (brings_none past c x.event o is)

pub opened_on : (past : List Entry) (x : Entry) (c : ℕ) → was_opened past c ≡ true → was_opened (x ∷ past) c ≡ true
unfolding openings
opened_on past x c o = grind (arith, nat_tests)

-- more may be due
pub due_more : (g : Settings) (past : List Entry) (x : Entry) (c : ℕ) → framed_all (due g (x ∷ past) c) ≡ framed_all (due g past c) ++ framed_all (owes g past c x.answer x.event)
unfolding due
due_more g past x c = framed_all-append (due g past c) (owes g past c x.answer x.event)

-- a draw draws no more than is due
pub drawable : (g : Settings) (past : List Entry) (c room n : ℕ) → answer.Drawn n ≡ answer_to g past (event.Draw c room) → drawn past c ≤ length (framed_all (due g past c)) → drawn past c + n ≤ length (framed_all (due g past c))
unfolding facts queued
drawable g past c room n is within =
    let m : Means g (facts g past) (event.Draw c room) (answer.Drawn n) = subst (Means g (facts g past) (event.Draw c room)) (sym is) (meaning g (facts g past) (event.Draw c room)) in
    let here : live past ≡ c = grind (arith, nat_tests, m.here) in
    let fits : n ≤ length (framed_all (due g past c)) - drawn past c = subst (λ (k : ℕ). n ≤ length (framed_all (due g past k)) - drawn past k) here m.fits in
    omega arith

pub came_draws : (past : List Entry) (who : ℕ) (f : Frame) (a : Answer) (c : ℕ) → drawn (entry_of who (event.Came c f) a ∷ past) c ≡ drawn past c
unfolding drawn
came_draws past who f (answer.Drawn n) c = omega arith
came_draws past who f a c = omega arith

pub bad_draws : (past : List Entry) (who rule : ℕ) (a : Answer) (c : ℕ) → drawn (entry_of who (event.Bad c rule) a ∷ past) c ≡ drawn past c
unfolding drawn
bad_draws past who rule (answer.Drawn n) c = omega arith
bad_draws past who rule a c = omega arith

-- a frame that comes before any bytes that are none is among those that came
pub brought : (past : List Entry) (c : ℕ) (f : Frame) → was_opened past c ≡ true → first_bad past c ≡ None → brings past c (event.Came c f) ≡ f ∷ []
brought past c f o none = let same : (c == c) ≡ true = grind (arith, nat_tests) in rw (none, o, same) refl

pub first_is : (past : List Entry) (who : ℕ) (a : Answer) (c rule : ℕ) → was_opened past c ≡ true → first_bad past c ≡ None → first_bad (entry_of who (event.Bad c rule) a ∷ past) c ≡ Some rule
unfolding first_bad
first_is past who a c rule o none = let same : (c == c) ≡ true = grind (arith, nat_tests) in rw (none, o, same) refl
