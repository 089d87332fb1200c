use Rattle.serve_laws.proofs.Served.{link_is}
use Rattle.serve_laws.proofs.laws.a_link_is_served.Goals as goal

pub returns : goal.returns
returns c = link_is
