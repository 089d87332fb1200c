-- A tick before the moment at which something is due.
use Rattle.std.proofs.Common.{◌≡◌, ◌<◌, ◌||◌, ◌==◌, ℕ, Bool, true, false, cond, min, max, refl, ap, arith}
use Rattle.std.specs.Prelude.{is_some}
use Rattle.keepalive.specs.Times.{due_at}
use Rattle.keepalive.specs.declared.timer.Due.TheVariants.{Nothing}
use Rattle.rs_wire.specs.declared.settings.Settings.{Settings}
use Rattle.tape.specs.declared.answer.Answer.{Answer}
use Rattle.tape.specs.declared.answer.Answer.TheVariants as answer
use Rattle.tape.specs.declared.event.Event.TheVariants as event
use Rattle.session_model.specs.Moments.{moment_with}
use Rattle.session_model.specs.Answers.{Facts, to_due, to_tick}

either_quiet : (b : Bool) (next : Answer) → next ≡ answer.Quiet → cond b answer.Quiet next ≡ answer.Quiet
either_quiet true next is = refl
either_quiet false next is = is

-- the moment that counts is no later than the one that a tick tells, or the one before it
no_later : (before now last at : ℕ) → max before now < at → max before (min now last) < at
no_later before now last at early = omega arith

pub quiet_before : (g : Settings) (t : Facts) (at now : ℕ) → ((n : ℕ) → n < at → due_at t.times n ≡ Nothing) → max t.times.moment now < at → to_tick g t now ≡ answer.Quiet
quiet_before g t at now nothing early =
    let due = nothing (moment_with t.times.moment (event.Tick now)) (no_later t.times.moment now _ at early) in
    either_quiet ((t.live == 0) || is_some t.closed) (to_due g t (due_at t.times (moment_with t.times.moment (event.Tick now)))) (ap (to_due g t) due)

-- a tick is Quiet without a live connection, and once the session is closed
pub quiet_where : (g : Settings) (t : Facts) (now : ℕ) → ((t.live == 0) || is_some t.closed) ≡ true → to_tick g t now ≡ answer.Quiet
quiet_where g t now idle = ap (λ (b : Bool). cond b answer.Quiet (to_due g t (due_at t.times (moment_with t.times.moment (event.Tick now))))) idle
