use Rattle.session_core.proofs.gathering.take_frame.Goals as goal

pub returns-in-Payload-clause-arrival : goal.returns-in-Payload-clause-arrival
returns-in-Payload-clause-arrival c = rw c.in-Payload.is (c.join.ensures.arrival c.args.incoming.now.covered)
