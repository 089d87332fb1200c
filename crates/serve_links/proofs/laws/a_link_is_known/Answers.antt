use Rattle.serve_links.proofs.Linking.{link_known}
use Rattle.serve_links.proofs.laws.a_link_is_known.Goals as goal

pub returns : goal.returns
returns c = link_known
