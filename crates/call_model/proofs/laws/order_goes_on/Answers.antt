use Rattle.call_model.proofs.Ordering.{got_none, next_none}
use Rattle.call_model.proofs.laws.order_goes_on.Goals as goal

pub returns : goal.returns
returns c = record { next = next_none; nothing = got_none }
