use Rattle.threaded_server.proofs.Steps.{on_ok}
use Rattle.threaded_server.proofs.carrier.ServerCarrier.line_down.Goals as goal

pub returns-clause-kept : goal.returns-clause-kept
returns-clause-kept g c = on_ok c.step.result _ _ (λ kept lines k. kept lines (c.in_ok-down.ensures.kept lines k)) c.step.ensures.kept
