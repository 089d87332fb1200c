use Rattle.session_laws.proofs.Told.{acked_grows, first_grows, told_grows}
use Rattle.session_laws.proofs.resumption.positions_never_fall.Goals as goal

pub returns : goal.returns
returns c = record { told = told_grows; acked = acked_grows; first = first_grows }
