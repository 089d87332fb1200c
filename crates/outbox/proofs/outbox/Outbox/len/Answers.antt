use Rattle.std.proofs.Common.{◌≡◌, ◌+◌, length, ap, arith}
use Rattle.outbox.specs.Waiting.{Waiting}
use Rattle.outbox.proofs.Woven.{in_all}
use Rattle.outbox.proofs.outbox.Outbox.len.Goals as goal

pub returns-clause-value : goal.returns-clause-value
returns-clause-value c = omega (arith, in_all c.self.inside c.self.invariant, c.held.ensures, c.len.ensures.value, ap (λ (w : Waiting). length w.queue) c.self.view_is)
