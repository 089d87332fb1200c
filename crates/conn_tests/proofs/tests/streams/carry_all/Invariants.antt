use Rattle.std.proofs.Common.{◌≡◌}
use Rattle.conn_tests.proofs.tests.streams.carry_all.Given as goal

abbrev pub invariant-loop : goal.invariant-loop
invariant-loop g l = (l.near.of ≡ l.client) × (l.far.of ≡ l.server)
