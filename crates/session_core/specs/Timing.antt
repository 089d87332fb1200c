-- The timer of the live connection after an event and its answer (RSocket 1.0, "KEEPALIVE Frame").
use Rattle.std.specs.Prelude.{ℕ, if◌then◌else◌, Option}
use Rattle.rs_wire.specs.Settings.{is_client}
use Rattle.rs_wire.specs.declared.settings.Settings.{Settings}
use Rattle.rs_frame.specs.declared.frame.Setup.{Setup}
use Rattle.keepalive.specs.Times.{Times}
use Rattle.tape.specs.declared.event.Event.{Event}
use Rattle.tape.specs.declared.event.Event.TheVariants as event
use Rattle.tape.specs.declared.answer.Answer.{Answer}
use Rattle.tape.specs.declared.answer.Answer.TheVariants as answer
use Rattle.session_model.specs.Life.{is_live}
use Rattle.session_model.specs.Moments.{interval_by, lifetime_by, moment_with}

-- the times of a connection that is opened at a moment, by the SETUP that was accepted
abbrev pub begun_at : Settings → Option Setup → ℕ → Times
begun_at g accepted now = record {
  interval = interval_by g accepted;
  lifetime = lifetime_by g accepted;
  sends = is_client g.side;
  arrival = now;
  sending = now;
  moment = now;
}

-- the times after a tick: a KEEPALIVE that is sent is sent at its moment
abbrev pub ticked_to : ℕ → Answer → Times → Times
ticked_to now answer.Sent t = record t { sending = moment_with t.moment (event.Tick now); moment = moment_with t.moment (event.Tick now) }
ticked_to now a t = record t { moment = moment_with t.moment (event.Tick now) }

-- the times after an event and its answer, where that connection was live
abbrev pub times_after : Settings → Option Setup → ℕ → Answer → Event → Times → Times
times_after g accepted live (answer.Opened n) e t = begun_at g accepted t.moment
times_after g accepted live a (event.Tick now) t = ticked_to now a t
times_after g accepted live a (event.Came conn f) t = if is_live live conn then record t { arrival = t.moment } else t
times_after g accepted live a e t = t
