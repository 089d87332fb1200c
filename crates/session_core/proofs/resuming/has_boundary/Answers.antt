use Rattle.session_core.proofs.Keeping.{boundary_is}
use Rattle.session_core.proofs.resuming.has_boundary.Goals as goal

pub returns : goal.returns
returns c = boundary_is c.is_boundary.result c.args.state.now.outbox.held c.args.position c.is_boundary.ensures
