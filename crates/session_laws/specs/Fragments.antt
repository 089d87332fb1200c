-- How long the frames are that an end makes.
use Rattle.std.specs.Prelude.{◌≤◌, ℕ}
use Rattle.rs_frame.specs.declared.frame.Frame.{Frame}
use Rattle.rs_frame.specs.declared.frame.Frame.TheVariants as frame
use Rattle.rs_frame.specs.Spelling.{length_of}

-- a request or a payload is no longer than the mtu; other frames are never split
abbrev pub FitsMtu : ℕ → Frame → Type 0
FitsMtu mtu (frame.Request r) = length_of (frame.Request r) ≤ mtu
FitsMtu mtu (frame.Payload s follows complete next message) = length_of (frame.Payload s follows complete next message) ≤ mtu
FitsMtu mtu _ = Unit {0}
