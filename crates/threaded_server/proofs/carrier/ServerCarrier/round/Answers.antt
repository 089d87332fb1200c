use Rattle.threaded_server.proofs.Steps.{if_on}
use Rattle.threaded_server.proofs.carrier.ServerCarrier.round.Goals as goal

pub returns-clause-kept : goal.returns-clause-kept
returns-clause-kept g c = if_on c.is_more.result _ (λ lines k. c.in_ok-again.ensures.kept lines (c.in_ok-step.ensures.kept lines (c.in_ok-down.ensures.kept lines (c.in_ok-came.ensures.kept lines k))))
