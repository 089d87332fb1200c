use Rattle.honest_laws.proofs.Honest.{client_accuses_nobody, server_accuses_nobody}
use Rattle.honest_laws.proofs.accusing.honest_ends_accuse_nobody.Goals as goal

pub returns-clause-client : goal.returns-clause-client
returns-clause-client c = client_accuses_nobody

pub returns-clause-server : goal.returns-clause-server
returns-clause-server c = server_accuses_nobody
