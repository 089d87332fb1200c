use Rattle.workers.proofs.Waiting.{serving_joined}
use Rattle.workers.proofs.laws.serving_joined.Goals as goal

pub returns : goal.returns
returns c = serving_joined
