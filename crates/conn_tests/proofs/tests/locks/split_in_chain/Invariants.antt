use Rattle.std.proofs.Common.{◌≡◌}
use Rattle.conn_tests.proofs.tests.locks.split_in_chain.Given as goal

abbrev pub invariant-loop-kept : goal.invariant-loop-kept
invariant-loop-kept g l = l.seat.lock ≡ l.lock
