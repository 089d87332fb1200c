use Rattle.session_laws.proofs.OpenedOnce.{setup_stays}
use Rattle.session_laws.proofs.openings.the_accepted_setup_stays.Goals as goal

pub returns : goal.returns
returns c = setup_stays
