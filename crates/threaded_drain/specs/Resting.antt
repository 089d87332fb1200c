-- When nothing is left to cross. Entries stand newest first.
use Rattle.std.specs.Prelude.{◌≡◌, ◌≢◌, ◌⊎◌, List, length, Option, Some}
use Rattle.rs_wire.specs.declared.settings.Settings.{Settings}
use Rattle.rs_chunk.specs.Stream.{IsTooLong}
use Rattle.tape.specs.declared.entry.Entry.{Entry}
use Rattle.session_model.specs.Life.{live}
use Rattle.session_model.specs.Frames.{queued}
use Rattle.link_model.specs.Carrying.{Between}
use Rattle.pump.specs.Turns.{IsEmptied}
use Rattle.threaded_server.specs.declared.knows.Knows.{Knows}
use Rattle.threaded_server.specs.declared.knows.Knows.TheVariants as knows

-- All is done at the server on the connection that joins the ends: a length that is too long stands where its first frame is awaited; or it was accepted, and is live no more, or nothing is queued there and
-- nothing stands in front at either end; or it was refused, and the refusal was pushed whole and was brought.
abbrev pub IsDoneThere : Settings → List Entry → Between → Knows → Type 0
IsDoneThere h S b (knows.Nothing reader) = IsTooLong reader.bytes reader.max_in
IsDoneThere h S b (knows.Accepted conn there) = (live S ≢ conn) ⊎ ((queued h S ≡ 0) × IsEmptied b × IsEmptied there)
IsDoneThere h S b (knows.Refused bytes pushed) = (pushed ≡ length bytes) × IsEmptied b

-- this connection is the client's live one, and all is done there at both ends
pub record IsDoneOn (g h : Settings) (C S : List Entry) (b : Between) (kn : Knows) : Type 0 where
  pub live_is : live C ≡ b.conn
  pub none_waits : queued g C ≡ 0
  pub there : IsDoneThere h S b kn

-- the client has no live connection, or it is the one that joins the ends, and all is done there
abbrev pub IsAtRest : Settings → Settings → List Entry → List Entry → Option Between → Knows → Type 0
IsAtRest g h C S p kn = (live C ≡ 0) ⊎ ((b : Between) × (p ≡ Some b) × IsDoneOn g h C S b kn)
