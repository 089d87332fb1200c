use Rattle.link_laws.proofs.Ending.{left_later}
use Rattle.link_laws.proofs.links.left_links_stay_left.Goals as goal

pub returns : goal.returns
returns u = left_later
