use Rattle.session_laws.proofs.Lawful.{over_later}
use Rattle.session_laws.proofs.streams.over_is_for_good.Goals as goal

pub returns : goal.returns
returns c = over_later
