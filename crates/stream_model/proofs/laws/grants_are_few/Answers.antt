use Rattle.stream_model.proofs.Granted.{grants_few}
use Rattle.stream_model.proofs.laws.grants_are_few.Goals as goal

pub returns : goal.returns
returns c = grants_few
