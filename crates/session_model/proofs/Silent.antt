-- When an entry makes no frame: before the session is begun, and after it is closed.
use Rattle.std.proofs.Common.{◌≡◌, ℕ, false, [], Option, Some, None, refl, arith}
use Rattle.std.proofs.lemmas.Grind.{common_steps}
use Rattle.rs_wire.specs.declared.call.Call.{Call}
use Rattle.rs_wire.specs.declared.call.Call.TheVariants as call
use Rattle.rs_wire.specs.declared.fault.Cause.{Cause}
use Rattle.rs_wire.specs.declared.settings.Settings.{Settings}
use Rattle.rs_frame.specs.declared.frame.Frame.{Frame}
use Rattle.tape.specs.declared.event.Event.{Event}
use Rattle.tape.specs.declared.event.Event.TheVariants as event
use Rattle.tape.specs.declared.answer.Answer.{Answer}
use Rattle.tape.specs.declared.answer.Answer.TheVariants as answer
use Rattle.session_model.specs.Frames.{in_fragments, makes, sent_as, spoken}
use Rattle.session_model.specs.Answers.{Facts, by_closed, covered_by, refused_sending}
use Rattle.session_model.specs.Means.{Means}
use Rattle.session_model.proofs.Refusals.{can_send, unrefused}
use Rattle.session_model.proofs.Spelled.{done_passes, done_sends}

-- no call sends before the session is begun
unsent : (g : Settings) (t : Facts) (o : Option Frame) → refused_sending g t o ≡ None → t.begun ≡ false → sent_as g o ≡ []
unsent g t None none fresh = refl
unsent g t (Some f) none fresh = let begun = (can_send g t (in_fragments g.mtu f) none).begun in absurd (cc)

pub silent_before : (g : Settings) (t : Facts) (e : Event) (a : Answer) → Means g t e a → t.begun ≡ false → t.live ≡ 0 → makes g (covered_by g t) t.streams a e ≡ []
silent_before g t (event.Asked (call.Request kind initial message complete)) (answer.Started id) means fresh none =
    let asked = call.Request kind initial message complete in
    let sends = (unrefused g t asked means.accepted).sending in
    grind (arith, common_steps)
silent_before g t e (answer.Started id) means fresh none = absurd means
silent_before g t (event.Asked asked) answer.Done means fresh none = unsent g t (spoken t.streams 0 asked) (done_sends g t asked means) fresh
silent_before g t e answer.Done means fresh none = absurd means
silent_before g t (event.Came conn f) answer.Handled means fresh none = let here = means.here in grind (arith, common_steps)
silent_before g t e answer.Handled means fresh none = absurd means
silent_before g t e a means fresh none = refl

-- nor after it is closed
closed_unsent : (g : Settings) (t : Facts) (asked : Call) (id : ℕ) (why : Cause) → by_closed t asked ≡ None → t.closed ≡ Some why → sent_as g (spoken t.streams id asked) ≡ []
closed_unsent g t asked id why none is = grind (arith, common_steps)

pub silent_closed : (g : Settings) (t : Facts) (e : Event) (a : Answer) (why : Cause) → Means g t e a → t.closed ≡ Some why → makes g (covered_by g t) t.streams a e ≡ []
silent_closed g t (event.Asked (call.Request kind initial message complete)) (answer.Started id) why means is =
    let asked = call.Request kind initial message complete in
    closed_unsent g t asked id why (unrefused g t asked means.accepted).open_session is
silent_closed g t e (answer.Started id) why means is = absurd means
silent_closed g t (event.Asked asked) answer.Done why means is = closed_unsent g t asked 0 why (done_passes g t asked means).open_session is
silent_closed g t e answer.Done why means is = absurd means
silent_closed g t (event.Came conn f) answer.Handled why means is = let free = means.free in absurd (cc)
silent_closed g t e answer.Handled why means is = absurd means
silent_closed g t e a why means is = refl
