use Rattle.server.specs.Opening.{AreOf}
use Rattle.server_tests.proofs.tests.tokens.share_token.Given as goal

abbrev pub invariant-loop-row : goal.invariant-loop-row
invariant-loop-row g l = AreOf l.shared.settings l.connections l.callers
