use Rattle.std.proofs.Common.{◌≡◌}
use Rattle.replay_buffer.proofs.InBlocks.{IsLeft}
use Rattle.replay_buffer.proofs.blocks.let_go.Given as goal

abbrev pub invariant-loop-gone : goal.invariant-loop-gone
invariant-loop-gone l = IsLeft l.initial.full.items l.full.items l.initial.gone l.gone × (l.full.capacity ≡ l.initial.full.capacity)

abbrev pub decreases-loop-gone : goal.decreases-loop-gone
decreases-loop-gone l = l.gone
