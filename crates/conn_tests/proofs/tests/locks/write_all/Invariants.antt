use Rattle.std.proofs.Common.{◌≡◌}
use Rattle.conn_tests.proofs.tests.locks.write_all.Given as goal

abbrev pub invariant-loop-place : goal.invariant-loop-place
invariant-loop-place g l = l.seat.lock ≡ l.lock
