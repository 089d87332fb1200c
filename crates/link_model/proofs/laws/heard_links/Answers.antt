use Rattle.link_model.proofs.Heard.{keeps_heard}
use Rattle.link_model.proofs.laws.heard_links.Goals as goal

pub returns : goal.returns
returns c = keeps_heard
