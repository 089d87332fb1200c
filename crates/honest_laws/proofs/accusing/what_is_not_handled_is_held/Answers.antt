use Rattle.honest_laws.proofs.Told.{client_holds, goes_on_from, server_holds}
use Rattle.honest_laws.proofs.accusing.what_is_not_handled_is_held.Goals as goal

pub returns : goal.returns
returns c = record { server = server_holds; client = client_holds; on = goes_on_from }
