use Rattle.std.proofs.Common.{◌≡◌}
use Rattle.conn_tests.proofs.tests.streams.grant_all.Given as goal

abbrev pub invariant-loop-round : goal.invariant-loop-round
invariant-loop-round g l = l.granter.of ≡ l.client
