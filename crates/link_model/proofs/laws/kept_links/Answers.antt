use Rattle.link_model.proofs.Kept.{keeps_other}
use Rattle.link_model.proofs.laws.kept_links.Goals as goal

pub returns : goal.returns
returns c = keeps_other
