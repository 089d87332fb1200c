use Rattle.call_model.proofs.Links.{are_carried_more, are_left_more, are_timely_more}
use Rattle.call_model.proofs.laws.links_stay_left.Goals as goal

pub returns : goal.returns
returns c = record { left = are_left_more; carried = are_carried_more; timely = are_timely_more }
