use Rattle.session_laws.proofs.WithinLeases.{covered_within}
use Rattle.session_laws.proofs.leases.covered_requests_stay_within_the_sum.Goals as goal

pub returns : goal.returns
returns c = covered_within
