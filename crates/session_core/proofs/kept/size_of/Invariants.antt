use Rattle.std.proofs.Common.{◌≡◌, length, take}
use Rattle.position.specs.Boundaries.{pos_by}
use Rattle.session_core.proofs.kept.size_of.Given as goal

abbrev pub invariant-loop-frame : goal.invariant-loop-frame
invariant-loop-frame l = l.size ≡ pos_by length (take l.frame-index l.frames)
