-- The parts of a payload.
use Rattle.std.specs.Prelude.{◌≡◌, ℕ, Bool}
use Rattle.rs_wire.specs.declared.message.Message.{Message}
use Rattle.rs_frame.specs.declared.frame.Frame.{Frame}
use Rattle.rs_frame.specs.declared.frame.Frame.TheVariants as frame

-- a frame is a payload of these parts
abbrev pub IsPayload : Frame → ℕ → Bool → Bool → Message → Type 0
IsPayload f stream follows next message = (complete : Bool) × (f ≡ frame.Payload stream follows complete next message)
