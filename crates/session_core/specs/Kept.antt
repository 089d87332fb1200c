-- What is kept of the frames made, for a resumption (RSocket 1.0, "Resuming Operation").
use Rattle.std.specs.Prelude.{◌≡◌, ◌≤◌, ◌<◌, ◌-◌, ◌^◌, ◌&&◌, ℕ, Bool, nat_le, max, List, [], ◌++◌, length, map, Option, Some, None}
use Rattle.rs_wire.specs.declared.settings.Settings.{Settings}
use Rattle.rs_frame.specs.declared.frame.Frame.{Frame}
use Rattle.rs_frame.specs.declared.frame.Frame.TheVariants as frame
use Rattle.rs_frame.specs.Spelling.{canonical}
use Rattle.tape.specs.declared.event.Event.{Event}
use Rattle.tape.specs.declared.event.Event.TheVariants as event
use Rattle.tape.specs.declared.answer.Answer.{Answer}
use Rattle.tape.specs.declared.answer.Answer.TheVariants as answer
use Rattle.position.specs.Boundaries.{is_boundary_by, pos, pos_by}
use Rattle.replay_buffer.specs.Held.{Held, IsHeldOf, Spare, framed_from}
use Rattle.session_model.specs.Life.{agrees_resumption}
use Rattle.session_model.specs.Frames.{if_agreed, makes}
use Rattle.interactions.specs.Seen.{known_to}
use Rattle.session_core.specs.Leasing.{covers_next}
use Rattle.session_core.specs.declared.state.State.{State}

-- a held frame begins or ends at the position
abbrev pub has_boundary : Held → ℕ → Bool
has_boundary h p = nat_le h.first p && is_boundary_by length h.frames (p - h.first)

-- the frames that are kept of those that an event so answered makes
abbrev pub keeps : Settings → State → Answer → Event → List Frame
keeps g s a e = if_agreed (agrees_resumption g s.setup) (makes g (covers_next g s) (known_to s.streams) a e)

-- frames of these bytes can be kept without memory
pub record FindsSpare (s : Spare) (spelled : List (List ℕ)) : Type 0 where
  pub frames : length spelled ≤ s.frames
  pub bytes : pos_by length spelled ≤ s.bytes

-- a frame has its header, and a length of 24 bits
abbrev pub HasFrameLength : List ℕ → Type 0
HasFrameLength frame = (6 ≤ length frame) × (length frame < 2 ^ 24)

-- what was held of any frames is held of them and of frames of these bytes
abbrev pub KeepsAll : Held → List (List ℕ) → Held → Type 0
KeepsAll old frames new =
    (made : List Frame) (told : ℕ) (more : List Frame) → IsHeldOf made told old → told ≤ pos made → frames ≡ map canonical more → IsHeldOf (made ++ more) told new

-- what was held of any frames is held of them and of these as well, where the peer told this position
abbrev pub HoldsMore : Held → List Frame → ℕ → Held → Type 0
HoldsMore old frames position new =
    (made : List Frame) (told : ℕ) → IsHeldOf made told old → told ≤ pos made → IsHeldOf (made ++ frames) (max told position) new

-- the position from which on an event so answered sends frames again
abbrev pub again_from : Answer → Event → Option ℕ
again_from (answer.Opened n) (event.Open (Some (frame.Resume r)) taken) = Some r.server_position
again_from answer.Handled (event.Came conn (frame.ResumeOk position)) = Some position
again_from _ _ = None

-- the bytes of the frames that are sent again
abbrev pub sent_again : Held → Option ℕ → List ℕ
sent_again h None = []
sent_again h (Some p) = framed_from h p
