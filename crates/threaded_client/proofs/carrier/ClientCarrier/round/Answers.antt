use Rattle.threaded_client.proofs.carrier.ClientCarrier.round.Goals as goal

pub returns-clause-kept : goal.returns-clause-kept
returns-clause-kept g c done k = c.in_ok-step-2.ensures.kept done (c.in_ok-came.ensures.kept done (c.in_ok-step.ensures.kept done (c.in_ok-gave.ensures.kept done k)))
