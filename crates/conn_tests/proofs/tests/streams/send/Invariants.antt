use Rattle.std.proofs.Common.{◌≡◌}
use Rattle.conn_tests.proofs.tests.streams.send.Given as goal

abbrev pub invariant-loop : goal.invariant-loop
invariant-loop g l = l.answerer.of ≡ l.server
