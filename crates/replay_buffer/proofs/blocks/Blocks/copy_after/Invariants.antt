use Rattle.std.proofs.Common.{◌-◌, drop}
use Rattle.replay_buffer.proofs.InBlocks.{IsCopied}
use Rattle.replay_buffer.proofs.blocks.Blocks.copy_after.Given as goal

abbrev pub invariant-loop-written : goal.invariant-loop-written
invariant-loop-written l = IsCopied (drop l.skip l.self.items) l.initial.buffer l.buffer l.count l.written

abbrev pub decreases-loop-written : goal.decreases-loop-written
decreases-loop-written l = l.count - l.written
