use Rattle.serve_model.proofs.Order.{no_close_first, opens_first}
use Rattle.serve_model.proofs.laws.openings_stand_before_the_first_close.Goals as goal

pub returns : goal.returns
returns c = λ more past none closes. opens_first more past none (no_close_first past closes)
