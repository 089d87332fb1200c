use Rattle.std.proofs.Common.{ℕ, List, ap, ◌∙◌}
use Rattle.circular_buffer.specs.Buffer.{Buffer}
use Rattle.replay_buffer.proofs.InBlocks.{one_less}
use Rattle.replay_buffer.proofs.blocks.let_go.Goals as goal

pub loop-gone-preserved : goal.loop-gone-preserved
loop-gone-preserved c =
    let items = c.in-Some.ensures.items in (
      one_less _ _ _ _ _ c.in-Some.block c.loop-gone.invariant.0 c.in-Some.ensures.value (ap (λ (b : Buffer (List ℕ)). b.items) items) c.loop-gone-test.true,
      ap (λ (b : Buffer (List ℕ)). b.capacity) items ∙ c.loop-gone.invariant.1,
    )
