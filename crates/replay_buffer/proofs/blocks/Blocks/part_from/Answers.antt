use Rattle.std.proofs.Common.{arith}
use Rattle.replay_buffer.proofs.InBlocks.{sized}
use Rattle.replay_buffer.proofs.blocks.Blocks.part_from.Goals as goal

pub overflow_add-self-inside : goal.overflow_add-self-inside
overflow_add-self-inside c = omega (arith, (sized _ _ c.self.invariant c.self.view_is).top, c.requires)
