use Rattle.link_laws.proofs.Fresh.{opened_fresh}
use Rattle.link_laws.proofs.links.new_links_are_fresh.Goals as goal

pub returns : goal.returns
returns u = opened_fresh
