use Rattle.link_laws.proofs.Opened.{just_opened}
use Rattle.link_laws.proofs.connections.a_just_opened_connection_is_fresh.Goals as goal

pub returns : goal.returns
returns c = just_opened
