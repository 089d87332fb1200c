use Rattle.session_laws.proofs.Crossing.{drained_up, drained_down}
use Rattle.session_laws.proofs.two_ends.drained_is_equal.Goals as goal

pub returns-clause-up : goal.returns-clause-up
returns-clause-up c = drained_up

pub returns-clause-down : goal.returns-clause-down
returns-clause-down c = drained_down
