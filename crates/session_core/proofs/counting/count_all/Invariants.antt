use Rattle.std.proofs.Common.{◌≡◌, take}
use Rattle.session_core.specs.After.{more_counted}
use Rattle.session_core.proofs.counting.count_all.Given as goal

abbrev pub invariant-loop-frame : goal.invariant-loop-frame
invariant-loop-frame l = l.counted ≡ more_counted l.fn.counted (take l.frame-index l.frames)
