use Rattle.std.proofs.Common.{arith}
use Rattle.rs_chunk.proofs.Fronts.{first_short}
use Rattle.rs_chunk.proofs.front.front_view_of.Goals as goal

pub view-requires : goal.view-requires
view-requires c = rw c.in-Whole.ensures.front.1 (first_short c.args.bytes.now (λ i. omega (arith, c.type_inv.bytes i)))
