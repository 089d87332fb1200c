use Rattle.link_laws.proofs.StaysGood.{carried_on, heard_on}
use Rattle.link_laws.proofs.links.links_stay_good.Goals as goal

pub returns : goal.returns
returns u = record { carried = carried_on; heard = heard_on }
