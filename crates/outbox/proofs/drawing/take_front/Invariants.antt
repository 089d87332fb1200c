use Rattle.std.proofs.Common.{◌-◌, length}
use Rattle.outbox.proofs.Drawn.{Drops, Fills}
use Rattle.outbox.proofs.drawing.take_front.Given as goal

abbrev pub invariant-loop-filled : goal.invariant-loop-filled
invariant-loop-filled l = Drops l.fn.outbox l.outbox l.filled × Fills l.fn.outbox.queue l.fn.buffer l.buffer l.filled

abbrev pub decreases-loop-filled : goal.decreases-loop-filled
decreases-loop-filled l = length l.buffer - l.filled
