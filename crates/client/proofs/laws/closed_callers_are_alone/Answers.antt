use Rattle.client.proofs.Whole.{closed_own}
use Rattle.client.proofs.laws.closed_callers_are_alone.Goals as goal

pub returns : goal.returns
returns c = closed_own
