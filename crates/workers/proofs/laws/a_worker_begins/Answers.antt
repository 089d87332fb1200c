use Rattle.workers.proofs.Calling.{serving_begins}
use Rattle.workers.proofs.laws.a_worker_begins.Goals as goal

pub returns : goal.returns
returns c = serving_begins
