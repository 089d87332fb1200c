use Rattle.session_model.specs.Frames.{handled, made}
use Rattle.session_laws.proofs.Crossing.{boundary, handled_down, handled_up}
use Rattle.session_laws.proofs.two_ends.handled_is_a_boundary.Goals as goal

pub returns-clause-up : goal.returns-clause-up
returns-clause-up c = λ g h C S pair j. boundary (handled S) (made g C) (handled_up g h C S pair j)

pub returns-clause-down : goal.returns-clause-down
returns-clause-down c = λ g h C S pair j. boundary (handled C) (made h S) (handled_down g h C S pair j)
