use Rattle.session_laws.proofs.Growth.{stays_closed}
use Rattle.session_laws.proofs.one_end.closed_stays_closed.Goals as goal

pub returns : goal.returns
returns c = record { stays = stays_closed }
