use Rattle.std.proofs.Common.{◌≡◌}
use Rattle.conn_tests.proofs.tests.tokens.check_tokens.Given as goal

abbrev pub invariant-loop-row : goal.invariant-loop-row
invariant-loop-row g l = l.caller.of ≡ l.connection
