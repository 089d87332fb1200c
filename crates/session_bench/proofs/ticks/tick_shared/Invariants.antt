use Rattle.std.proofs.Common.{◌≡◌}
use Rattle.conn_lock.specs.Callers.{all_parts}
use Rattle.session_bench.proofs.ticks.tick_shared.Given as goal

abbrev pub invariant-loop : goal.invariant-loop
invariant-loop g l = (l.caller.of ≡ l.connection) × (l.caller.parts ≡ all_parts)
