-- How a connection is opened by its first frame.
use Rattle.std.specs.Prelude.{◌≡◌, ◌++◌, ◌∷◌, ℕ, false, List, [], Some, None}
use Rattle.rs_wire.specs.declared.settings.Settings.{Settings}
use Rattle.rs_frame.specs.declared.frame.Frame.{Frame}
use Rattle.rs_frame.specs.Framed.{framed_all}
use Rattle.rs_frame.specs.Spelling.{IsSpellable, Spells}
use Rattle.rs_chunk.specs.Rest.{Rest}
use Rattle.rs_chunk.specs.Stream.{IsCut, IsWhole, first_frame}
use Rattle.tape.specs.declared.answer.Answer.{Answer}
use Rattle.tape.specs.declared.answer.Answer.TheVariants as answer
use Rattle.tape.specs.declared.event.Event.{Event}
use Rattle.tape.specs.declared.event.Event.TheVariants as event
use Rattle.session_model.specs.Frames.{refusal}
use Rattle.session_model.specs.Joined.{only}
use Rattle.conn_shared.specs.Members.{Knowledge}
use Rattle.threaded_model.specs.Threaded.{made_by}
use Rattle.carriers.specs.Moves.{HasTold}
use Rattle.threaded_server.specs.declared.knows.Knows.{Knows}
use Rattle.threaded_server.specs.declared.knows.Knows.TheVariants as knows

-- the frame stands in front
abbrev pub IsFirst : Rest → Frame → Type 0
IsFirst reader f = IsWhole reader.bytes reader.max_in × Spells f (first_frame reader.bytes) × IsSpellable f

-- the rest is what follows the frame in front of the bytes
abbrev pub Passes : List ℕ → List ℕ → Type 0
Passes bytes rest = (fed : List ℕ) (passed : List (List ℕ)) → IsCut fed passed bytes → IsCut fed (passed ++ first_frame bytes ∷ []) rest

-- what the server knows of a connection whose opening was so answered, with this rest of the bytes after the first frame
abbrev pub IsBegun : ℕ → Answer → List ℕ → Knows → Type 0
IsBegun most a rest (knows.Nothing reader) = ⊥
IsBegun most a rest (knows.Accepted conn b) = (a ≡ answer.Opened conn) × (b ≡ record { conn = conn; left = []; rest = rest; max_in = most; bad = false })
IsBegun most a rest (knows.Refused bytes pushed) = (made_by a ≡ None) × (bytes ≡ framed_all (only (refusal a))) × (pushed ≡ 0)

-- an event opened a connection, and so the server knows of it
abbrev pub HasOpened : Settings → Knowledge → Knowledge → Event → Rest → Knows → Type 0
HasOpened g was now e rest kn = (a : Answer) × HasTold g was now e a × IsBegun rest.max_in a rest.bytes kn

-- the first frame of these bytes opened a connection, and so the server knows of it
pub record HasBegun (g : Settings) (was now : Knowledge) (reader : Rest) (kn : Knows) : Type 0 where
  pub frame : Frame
  pub rest : List ℕ
  pub answer : Answer
  pub told : HasTold g was now (event.Open (Some frame) false) answer
  pub spells : Spells frame (first_frame reader.bytes)
  pub passes : Passes reader.bytes rest
  pub is : IsBegun reader.max_in answer rest kn
