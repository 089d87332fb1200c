use Rattle.std.proofs.Common.{◌-◌, ◌≤◌, List, ℕ, length, max}
use Rattle.std.specs.List.{AllByRecursion}
use Rattle.replay_buffer.specs.Blocks.{IsEmpty}
use Rattle.replay_buffer.proofs.blocks.make_spare.Given as goal

-- empty blocks, of which there may be more than before
pub record IsMore (old new : List (List ℕ)) (count : ℕ) : Type 0 where
  pub spare : AllByRecursion IsEmpty new
  pub more : length old ≤ length new
  pub most : length new ≤ max (length old) count

abbrev pub invariant-loop-alloc : goal.invariant-loop-alloc
invariant-loop-alloc l = IsMore l.initial.spare.items l.spare.items l.count

abbrev pub decreases-loop-alloc : goal.decreases-loop-alloc
decreases-loop-alloc l = l.count - length l.spare.items
