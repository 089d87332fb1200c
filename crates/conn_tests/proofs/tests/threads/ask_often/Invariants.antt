use Rattle.std.proofs.Common.{◌≡◌}
use Rattle.conn_tests.proofs.tests.threads.ask_often.Given as goal

abbrev pub invariant-loop : goal.invariant-loop
invariant-loop g l = l.caller.of ≡ l.connection
