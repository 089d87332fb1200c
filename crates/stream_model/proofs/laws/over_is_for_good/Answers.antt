use Rattle.stream_model.proofs.ForGood.{over_for_good}
use Rattle.stream_model.proofs.laws.over_is_for_good.Goals as goal

pub returns : goal.returns
returns c = over_for_good
