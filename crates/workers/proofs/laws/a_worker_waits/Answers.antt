use Rattle.workers.proofs.Waiting.{serving_waits}
use Rattle.workers.proofs.laws.a_worker_waits.Goals as goal

pub returns : goal.returns
returns c = serving_waits
