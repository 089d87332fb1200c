use Rattle.link_laws.proofs.Ending.{stays_held}
use Rattle.link_laws.proofs.connections.a_held_connection_stays.Goals as goal

pub returns : goal.returns
returns c = stays_held
