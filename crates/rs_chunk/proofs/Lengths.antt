-- The canonical bytes of a frame are as many as its length says.
use Rattle.std.proofs.Common.{◌≡◌, ◌+◌, length, arith}
use Rattle.rs_frame.specs.declared.frame.Frame.{Frame}
use Rattle.rs_frame.specs.Spelling.{canonical, length_of}
use Rattle.rs_frame.specs.Framed.{framed_frame}

pub length-canonical : (frame : Frame) → length (canonical frame) ≡ length_of frame
length-canonical frame = omega arith

pub length-framed_frame : (frame : Frame) → length (framed_frame frame) ≡ length_of frame + 3
length-framed_frame frame = omega arith
