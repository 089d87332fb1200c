-- Borrowed messages and frames, as the values that they represent.
use Rattle.std.specs.Prelude.{false, Bool, Option, Some, None}
use Rattle.std.specs.Option.{option_map}
use Rattle.rs_wire.specs.declared.message.Message.{Message}
use Rattle.rs_frame.specs.declared.frame.Frame.{Frame}
use Rattle.rs_frame.specs.declared.frame.Frame.TheVariants as frames
use Rattle.fragment.specs.declared.parts.Parts.{Parts}
use Rattle.fragment.specs.declared.splitting.Opening.{Opening}
use Rattle.fragment.specs.declared.splitting.Rest.{Rest}

abbrev pub message_in : Parts → Message
message_in parts = record { metadata = option_map (λ x. x.now) parts.metadata; content = parts.content.now }

abbrev pub carried : Rest → Message
carried rest = record { metadata = option_map (λ x. x.now) rest.metadata; content = rest.content.now }

-- a request where it opens a stream, else a payload, with these flags F and C, and this message
abbrev pub frame_by : Option Opening → Rest → Bool → Bool → Message → Frame
frame_by None rest follows complete message = frames.Payload rest.stream follows complete rest.next message
frame_by (Some opening) rest follows complete message = frames.Request (record {
  stream = rest.stream;
  kind = opening.kind;
  follows = follows;
  complete = complete;
  initial = opening.initial;
  message = message;
})

abbrev pub frame_in : Rest → Frame
frame_in rest = frame_by rest.opening rest false rest.complete (carried rest)
