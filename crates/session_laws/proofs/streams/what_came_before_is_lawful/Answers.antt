use Rattle.session_laws.proofs.Lawful.{before_lawful}
use Rattle.session_laws.proofs.streams.what_came_before_is_lawful.Goals as goal

pub returns : goal.returns
returns c = before_lawful
