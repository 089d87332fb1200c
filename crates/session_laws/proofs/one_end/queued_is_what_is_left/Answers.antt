use Rattle.session_model.proofs.Queue.{drawn_le, queued_exact}
use Rattle.session_laws.proofs.one_end.queued_is_what_is_left.Goals as goal

pub returns-clause-exact : goal.returns-clause-exact
returns-clause-exact c = queued_exact

pub returns-clause-never_past : goal.returns-clause-never_past
returns-clause-never_past c = drawn_le
