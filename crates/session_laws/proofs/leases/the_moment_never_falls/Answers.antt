use Rattle.session_laws.proofs.WithinLeases.{moment_grows, moment_within}
use Rattle.session_laws.proofs.leases.the_moment_never_falls.Goals as goal

pub returns : goal.returns
returns c = record { grows = moment_grows; within = moment_within }
