-- Moments of a session, in milliseconds, over its entries, the newest first, and what keeps a connection alive (RSocket 1.0, "KEEPALIVE Frame").
use Rattle.std.specs.Prelude.{ℕ, min, max, if◌then◌else◌, List, [], ◌∷◌, Option, Some, None}
use Rattle.rs_wire.specs.Settings.{is_client}
use Rattle.rs_wire.specs.declared.settings.Settings.{Settings}
use Rattle.rs_frame.specs.declared.frame.Setup.{Setup}
use Rattle.tape.specs.declared.event.Event.{Event}
use Rattle.tape.specs.declared.event.Event.TheVariants as event
use Rattle.tape.specs.declared.answer.Answer.{Answer}
use Rattle.tape.specs.declared.answer.Answer.TheVariants as answer
use Rattle.tape.specs.declared.entry.Entry.{Entry}
use Rattle.keepalive.specs.Times.{Times}
use Rattle.session_model.specs.declared.numbers.TheConstants.{LAST_MOMENT}
use Rattle.session_model.specs.Life.{is_live, live, setup}

-- ---- the moment

-- a tick tells its moment, and no other event tells one
abbrev pub moment_in : Event → ℕ
moment_in (event.Tick now) = min now LAST_MOMENT
moment_in e = 0

-- the moment with an event, where it was this one before: it never falls
abbrev pub moment_with : ℕ → Event → ℕ
moment_with before e = max before (moment_in e)

-- the moment: the largest that a tick told, 0 where none did
unfoldable pub moment : List Entry → ℕ
moment [] = 0
moment (x ∷ past) = moment_with (moment past) x.event

-- ---- the live connection

-- an accepted opening counts as an arrival, and so does each frame that comes on the live connection, whatever is answered
abbrev pub arrival_after : ℕ → ℕ → Answer → Event → ℕ → ℕ
arrival_after now live (answer.Opened n) e before = now
arrival_after now live a (event.Came conn f) before = if is_live live conn then now else before
arrival_after now live a e before = before

-- the moment of the live opening, or of the last frame that came on it
unfoldable pub last_arrival : List Entry → ℕ
last_arrival [] = 0
last_arrival (x ∷ past) = arrival_after (moment past) (live past) x.answer x.event (last_arrival past)

-- an accepted opening counts as a sending, and so does each KEEPALIVE that is sent
abbrev pub sending_after : ℕ → Answer → ℕ → ℕ
sending_after now (answer.Opened n) before = now
sending_after now answer.Sent before = now
sending_after now a before = before

-- the moment of the live opening, or of the last KEEPALIVE that was sent on it
unfoldable pub last_sending : List Entry → ℕ
last_sending [] = 0
last_sending (x ∷ past) = sending_after (moment_with (moment past) x.event) x.answer (last_sending past)

-- ---- the timer (RSocket 1.0, "SETUP Frame": "Time Between KEEPALIVE Frames", "Max Lifetime")

-- the span between two KEEPALIVEs: as the SETUP says that a server accepted, and as a client is set
abbrev pub interval_by : Settings → Option Setup → ℕ
interval_by g None = g.keepalive_ms
interval_by g (Some accepted) = accepted.keepalive

-- the span without an arrival after which the peer counts as dead, likewise
abbrev pub lifetime_by : Settings → Option Setup → ℕ
lifetime_by g None = g.lifetime_ms
lifetime_by g (Some accepted) = accepted.lifetime

-- the times by which a peer counts as dead, and a KEEPALIVE is due; a client sends them, and a server answers them
abbrev pub times : Settings → List Entry → Times
times g past = record {
  interval = interval_by g (setup past);
  lifetime = lifetime_by g (setup past);
  sends = is_client g.side;
  arrival = last_arrival past;
  sending = last_sending past;
  moment = moment past;
}
