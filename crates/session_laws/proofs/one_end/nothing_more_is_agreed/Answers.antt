use Rattle.session_model.proofs.Agreed.{no_resumption, no_leases}
use Rattle.session_laws.proofs.one_end.nothing_more_is_agreed.Goals as goal

pub returns-clause-resumption : goal.returns-clause-resumption
returns-clause-resumption c = no_resumption

pub returns-clause-leases : goal.returns-clause-leases
returns-clause-leases c = no_leases
