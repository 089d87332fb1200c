use Rattle.threaded_client.proofs.Carrying.{carrying_hands, client_joined}
use Rattle.threaded_client.proofs.laws.client_laws.Goals as goal

pub returns : goal.returns
returns c = record { joined = client_joined; hands = carrying_hands }
