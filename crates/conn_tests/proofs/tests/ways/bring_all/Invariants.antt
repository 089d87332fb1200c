use Rattle.std.proofs.Common.{◌≡◌}
use Rattle.conn_tests.proofs.tests.ways.bring_all.Given as goal

abbrev pub invariant-loop : goal.invariant-loop
invariant-loop g l = l.bringer.of ≡ l.to
