use Rattle.std.proofs.Common.{◌-◌, ◌≤◌}
use Rattle.outbox.proofs.Drawn.{Drops}
use Rattle.outbox.proofs.drawing.drop_front.Given as goal

abbrev pub invariant-loop-left : goal.invariant-loop-left
invariant-loop-left l = Drops l.fn.outbox l.outbox (l.count - l.left) × (l.left ≤ l.count)

abbrev pub decreases-loop-left : goal.decreases-loop-left
decreases-loop-left l = l.left
