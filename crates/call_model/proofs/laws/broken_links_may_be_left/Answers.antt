use Rattle.call_model.proofs.Present.{left_here}
use Rattle.call_model.proofs.laws.broken_links_may_be_left.Goals as goal

pub returns : goal.returns
returns c = left_here
