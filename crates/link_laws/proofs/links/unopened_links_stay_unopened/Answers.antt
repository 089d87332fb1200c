use Rattle.link_laws.proofs.Unopened.{unopened_later}
use Rattle.link_laws.proofs.links.unopened_links_stay_unopened.Goals as goal

pub returns : goal.returns
returns u = unopened_later
