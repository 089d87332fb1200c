use Rattle.session_laws.proofs.Crossing.{handled_up, handled_down}
use Rattle.session_laws.proofs.two_ends.handled_begins_made.Goals as goal

pub returns-clause-up : goal.returns-clause-up
returns-clause-up c = handled_up

pub returns-clause-down : goal.returns-clause-down
returns-clause-down c = handled_down
