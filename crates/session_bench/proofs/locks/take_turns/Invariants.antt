use Rattle.std.proofs.Common.{◌≡◌}
use Rattle.session_bench.proofs.locks.take_turns.Given as goal

abbrev pub invariant-loop : goal.invariant-loop
invariant-loop g l = l.seat.lock ≡ l.lock
