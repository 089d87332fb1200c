use Rattle.std.proofs.Common.{◌+◌}
use Rattle.outbox.proofs.Drawn.{Cuts}
use Rattle.outbox.proofs.drawing.truncate.Given as goal

abbrev pub invariant-loop-left : goal.invariant-loop-left
invariant-loop-left l = Cuts l.fn.outbox l.outbox (l.count + l.left)

abbrev pub decreases-loop-left : goal.decreases-loop-left
decreases-loop-left l = l.left
