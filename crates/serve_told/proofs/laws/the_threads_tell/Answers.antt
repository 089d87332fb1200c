use Rattle.serve_told.proofs.Whole.{told}
use Rattle.serve_told.proofs.laws.the_threads_tell.Goals as goal

pub returns : goal.returns
returns g c = told
