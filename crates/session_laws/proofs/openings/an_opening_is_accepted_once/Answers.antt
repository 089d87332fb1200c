use Rattle.session_laws.proofs.OpenedOnce.{opened_once}
use Rattle.session_laws.proofs.openings.an_opening_is_accepted_once.Goals as goal

pub returns : goal.returns
returns c = opened_once
