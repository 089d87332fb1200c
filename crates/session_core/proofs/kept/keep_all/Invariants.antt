use Rattle.std.proofs.Common.{take}
use Rattle.session_core.proofs.Keeping.{IsKeeping}
use Rattle.session_core.proofs.kept.keep_all.Given as goal

abbrev pub invariant-loop-frame : goal.invariant-loop-frame
invariant-loop-frame l = IsKeeping l.fn.outbox l.outbox (take l.frame-index l.frames)
