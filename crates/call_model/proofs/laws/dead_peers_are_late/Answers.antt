use Rattle.call_model.proofs.Ending.{dead_late}
use Rattle.call_model.proofs.laws.dead_peers_are_late.Goals as goal

pub returns : goal.returns
returns c = dead_late
