use Rattle.std.proofs.Common.{◌≡◌, ◌-◌, ◌≤◌, ◌++◌, length}
use Rattle.replay_buffer.proofs.blocks.Blocks.put_across.Given as goal

abbrev pub invariant-loop-rest : goal.invariant-loop-rest
invariant-loop-rest l = (l.self.items ++ l.rest ≡ l.initial.self.items ++ l.bytes) × (length l.rest ≤ l.self.free) × (l.self.free - length l.rest ≡ l.initial.self.free - length l.bytes)

abbrev pub decreases-loop-rest : goal.decreases-loop-rest
decreases-loop-rest l = length l.rest
