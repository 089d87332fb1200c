use Rattle.threaded_server.proofs.Kept.{server_hands, server_joined}
use Rattle.threaded_server.proofs.laws.server_laws.Goals as goal

pub returns : goal.returns
returns c = record { joined = server_joined; hands = server_hands }
