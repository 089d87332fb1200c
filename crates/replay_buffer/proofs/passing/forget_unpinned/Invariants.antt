use Rattle.std.proofs.Common.{◌-◌}
use Rattle.replay_buffer.specs.Stored.{floor_of}
use Rattle.replay_buffer.proofs.Passed.{Forgets}
use Rattle.replay_buffer.proofs.passing.forget_unpinned.Given as goal

abbrev pub invariant-loop-store : goal.invariant-loop-store
invariant-loop-store l = Forgets l.fn.store l.store l.low

abbrev pub decreases-loop-store : goal.decreases-loop-store
decreases-loop-store l = l.low - floor_of l.store
