use Rattle.serve_told.proofs.Whole.{served}
use Rattle.serve_told.proofs.laws.a_server_that_tells_has_served.Goals as goal

pub returns : goal.returns
returns c = served
