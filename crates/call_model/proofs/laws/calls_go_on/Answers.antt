use Rattle.call_model.proofs.Standing.{arrivals_stand}
use Rattle.call_model.proofs.laws.calls_go_on.Goals as goal

pub returns : goal.returns
returns c = arrivals_stand
