-- Requests whose message is whole.
use Rattle.std.specs.Prelude.{ℕ, Bool, false, Option}
use Rattle.rs_wire.specs.declared.message.Message.{Message}
use Rattle.rs_wire.specs.declared.words.Kind.{Kind}
use Rattle.rs_frame.specs.declared.frame.Frame.{Frame}
use Rattle.rs_frame.specs.declared.frame.Frame.TheVariants as frames

-- the frame of a request whose message is whole
abbrev pub request_frame : ℕ → Kind → Option ℕ → Message → Bool → Frame
request_frame stream kind initial message complete = frames.Request (record {
  stream = stream;
  kind = kind;
  follows = false;
  complete = complete;
  initial = initial;
  message = message;
})
