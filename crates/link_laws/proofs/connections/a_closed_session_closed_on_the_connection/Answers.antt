use Rattle.link_laws.proofs.Ended.{closed_on}
use Rattle.link_laws.proofs.connections.a_closed_session_closed_on_the_connection.Goals as goal

pub returns : goal.returns
returns u = closed_on
