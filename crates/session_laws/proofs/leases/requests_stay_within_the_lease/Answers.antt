use Rattle.session_laws.proofs.WithinLeases.{made_while_usable, within_count}
use Rattle.session_laws.proofs.leases.requests_stay_within_the_lease.Goals as goal

pub returns : goal.returns
returns c = record { count = within_count; usable = made_while_usable }
