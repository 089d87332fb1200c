-- The bytes that an event and its answer put in line.
use Rattle.std.specs.Prelude.{ℕ, List, ◌++◌}
use Rattle.rs_wire.specs.declared.settings.Settings.{Settings}
use Rattle.rs_frame.specs.Framed.{framed_all}
use Rattle.tape.specs.declared.event.Event.{Event}
use Rattle.tape.specs.declared.answer.Answer.{Answer}
use Rattle.interactions.specs.Seen.{known_to}
use Rattle.session_model.specs.Frames.{if_carrying, makes}
use Rattle.session_core.specs.Fits.{facts_of}
use Rattle.session_core.specs.Leasing.{covers_next}
use Rattle.session_core.specs.Kept.{again_from, sent_again}
use Rattle.session_core.specs.Outgoing.{notices}
use Rattle.session_core.specs.declared.state.State.{State}

-- frames of the connection, then frames that are sent again, then those that are made, where they go out at once
abbrev pub line_of : Settings → State → Answer → Event → List ℕ
line_of g s a e =
    framed_all (notices g (facts_of s) a e)
    ++ (sent_again s.outbox.held (again_from a e)
    ++ framed_all (if_carrying s.carrying (makes g (covers_next g s) (known_to s.streams) a e)))
