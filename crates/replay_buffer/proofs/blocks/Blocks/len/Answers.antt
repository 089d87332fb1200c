use Rattle.std.proofs.Common.{arith}
use Rattle.replay_buffer.proofs.InBlocks.{sized}
use Rattle.replay_buffer.proofs.blocks.Blocks.len.Goals as goal

pub returns-clause-value : goal.returns-clause-value
returns-clause-value c = omega (arith, (sized _ _ c.self.invariant c.self.view_is).size, c.len.ensures.len, c.len-2.ensures)
