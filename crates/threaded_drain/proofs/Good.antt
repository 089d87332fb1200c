-- On the live connection of a session that is not closed no bytes came that are no frame.
use Rattle.std.proofs.Common.{◌≡◌, ◌<◌, ℕ, true, false, List, [], ◌∷◌, Option, None, refl, arith}
use Rattle.std.proofs.lemmas.Grind.{common_steps}
use Rattle.rs_wire.specs.declared.settings.Settings.{Settings}
use Rattle.tape.specs.declared.event.Event.{Event}
use Rattle.tape.specs.declared.event.Event.TheVariants as event
use Rattle.tape.specs.declared.answer.Answer.{Answer}
use Rattle.tape.specs.declared.answer.Answer.TheVariants as answer
use Rattle.tape.specs.declared.entry.Entry.{Entry}
use Rattle.session_model.specs.Lists.{first_of}
use Rattle.session_model.specs.Life.{closed, closes, is_live, live, live_after, openings}
use Rattle.session_model.specs.Frames.{bad_in, first_bad}
use Rattle.session_model.specs.Answers.{facts}
use Rattle.session_model.specs.Legal.{LeavesEntry, Legal}
use Rattle.session_model.specs.Means.{Means}
use Rattle.session_model.proofs.Meaning.{last_means}
use Rattle.session_laws.proofs.Quiet.{first_none, is_handled, quiet}
use Rattle.session_laws.proofs.Life.{bad_later}

handled_is : (a : Answer) → is_handled a ≡ true → a ≡ answer.Handled
handled_is answer.Handled h = refl
handled_is a h = absurd (cc)

-- nothing bad is handled
never_handled : (g : Settings) (past : List Entry) (conn rule : ℕ) (a : Answer) → Means g (facts g past) (event.Bad conn rule) a → is_handled a ≡ false
never_handled g past conn rule answer.Handled means = absurd means
never_handled g past conn rule a means = refl

-- bytes that are no frame close the session
bad_closes : (g : Settings) (past : List Entry) (c : ℕ) (a : Answer) (e : Event) → Legal g past → LeavesEntry a → Means g (facts g past) e a → is_live (live past) c ≡ true → first_of (closed g past) (closes g past a e) ≡ None → bad_in past c e ≡ None
bad_closes g past c a (event.Bad conn rule) legal leaves means here free = (quiet g past c a (event.Bad conn rule) legal leaves means (never_handled g past conn rule a means) here free).bytes
bad_closes g past c a e legal leaves means here free = refl

opened_bad : (past : List Entry) (c n : ℕ) (e : Event) → openings past < n → is_live n c ≡ true → first_bad past c ≡ None
opened_bad past c n e later here = bad_later past c (grind (arith, common_steps))

both_none : (a b : Option ℕ) → a ≡ None → b ≡ None → first_of a b ≡ None
both_none a b h k = rw h k

pub good_now : (g : Settings) (past : List Entry) (c : ℕ) → Legal g past → is_live (live past) c ≡ true → closed g past ≡ None → first_bad past c ≡ None
unfolding Legal live closed first_bad facts
good_now g [] c legal here free = refl
good_now g (x ∷ past) c legal here free =
    let both = first_none (closed g past) (closes g past x.answer x.event) free in
    step (good_now g past c legal.0) x.answer x.event (last_means g x past legal) legal.1.leaves here free both.0
  where
    step : (is_live (live past) c ≡ true → closed g past ≡ None → first_bad past c ≡ None) → (a : Answer) (e : Event) → Means g (facts g past) e a → LeavesEntry a → is_live (live_after a (live past)) c ≡ true → first_of (closed g past) (closes g past a e) ≡ None → closed g past ≡ None → first_of (first_bad past c) (bad_in past c e) ≡ None
    step before (answer.Opened n) (event.Open first taken) means leaves here' free' was =
        both_none (first_bad past c) None (opened_bad past c n (event.Open first taken) (let next = means.next in omega (arith, next)) here') refl
    step before (answer.Opened n) e means leaves here' free' was = absurd means
    step before answer.Parted e means leaves here' free' was = absurd (grind (arith, common_steps))
    step before (answer.Dead last) e means leaves here' free' was = absurd (grind (arith, common_steps))
    step before a e means leaves here' free' was = both_none (first_bad past c) (bad_in past c e) (before here' was) (bad_closes g past c a e legal.0 leaves means here' free')
