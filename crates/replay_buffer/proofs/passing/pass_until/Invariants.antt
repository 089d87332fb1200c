use Rattle.std.proofs.Common.{◌-◌}
use Rattle.replay_buffer.specs.Held.{from_least}
use Rattle.replay_buffer.proofs.Passed.{Passes}
use Rattle.replay_buffer.proofs.passing.pass_until.Given as goal

abbrev pub invariant-loop-store : goal.invariant-loop-store
invariant-loop-store l = Passes (λ h. from_least h l.low) l.fn.store l.store

abbrev pub decreases-loop-store : goal.decreases-loop-store
decreases-loop-store l = l.low - l.store.first
