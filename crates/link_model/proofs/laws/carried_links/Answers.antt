use Rattle.link_model.proofs.Fresh.{fresh_keeps, is_carried}
use Rattle.link_model.proofs.laws.carried_links.Goals as goal

pub returns : goal.returns
returns c = record { kept = is_carried; fresh = fresh_keeps }
