-- A message that came whole, on a stream where no part of one was gathered: a payload's, or that of a request that is admitted.
use Rattle.std.specs.Prelude.{◌≡◌, true, false, Option, Some, None}
use Rattle.rs_wire.specs.declared.settings.Settings.{Settings}
use Rattle.rs_frame.specs.declared.frame.Frame.TheVariants as frame
use Rattle.rs_frame.specs.declared.frame.Request.{Request}
use Rattle.tape.specs.declared.event.Event.{Event}
use Rattle.tape.specs.declared.event.Event.TheVariants as event
use Rattle.stream_model.specs.declared.arrival.Arrival.{Arrival}
use Rattle.stream_model.specs.declared.arrival.Arrival.TheVariants as arrival
use Rattle.fragment.specs.Joining.{nothing}
use Rattle.session_model.specs.Answers.{Facts, leases_by}
use Rattle.session_model.specs.Streams.{turned_away_for}

-- a request is admitted with its whole message: it needs no lease, nothing was gathered on its stream, and no ERROR turns it away
pub record IsAdmitted (g : Settings) (t : Facts) (r : Request) : Type 0 where
  pub whole : r.follows ≡ false
  pub unleased : leases_by g t ≡ false
  pub fresh : t.unfinished r.stream ≡ nothing
  pub no_error : turned_away_for g true t.streams r ≡ None

-- a message came whole, and nothing was gathered on its stream: a payload's, or that of a request that is admitted
abbrev pub IsAlone : Settings → Facts → Event → Type 0
IsAlone g t (event.Came conn (frame.Payload s false complete next message)) = t.unfinished s ≡ nothing
IsAlone g t (event.Came conn (frame.Request r)) = IsAdmitted g t r
IsAlone g t _ = ⊥

-- what such a message says
abbrev pub said_alone : Event → Option Arrival
said_alone (event.Came conn (frame.Payload s false complete next message)) = Some (arrival.Whole s message complete next)
said_alone (event.Came conn (frame.Request r)) = Some (arrival.Asked r.stream r.kind r.initial (Some (r.message, r.complete)))
said_alone _ = None
