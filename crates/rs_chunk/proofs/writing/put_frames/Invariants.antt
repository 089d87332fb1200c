use Rattle.std.proofs.Common.{◌≡◌, ◌++◌, take}
use Rattle.rs_frame.specs.Framed.{framed_all}
use Rattle.rs_chunk.proofs.writing.put_frames.Given as goal

abbrev pub invariant-loop-frame : goal.invariant-loop-frame
invariant-loop-frame l = l.out.items ≡ l.fn.out.items ++ framed_all (take l.frame-index l.frames)
