use Rattle.std.proofs.Common.{◌≡◌}
use Rattle.conn_tests.proofs.tests.streams.send_items.Given as goal

abbrev pub invariant-loop-number : goal.invariant-loop-number
invariant-loop-number g l = l.answerer.of ≡ l.server
