use Rattle.client.proofs.Whole.{whole_call}
use Rattle.client.proofs.laws.calls_are_whole.Goals as goal

pub returns : goal.returns
returns c = whole_call
