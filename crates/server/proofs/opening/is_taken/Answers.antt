use Rattle.server.proofs.Places.{back_same}
use Rattle.server.proofs.opening.is_taken.Goals as goal

pub returns-in_default-clause-back : goal.returns-in_default-clause-back
returns-in_default-clause-back g c = back_same c.args.callers.now

pub returns-in_default-2-clause-back : goal.returns-in_default-2-clause-back
returns-in_default-2-clause-back g c = back_same c.args.callers.now
