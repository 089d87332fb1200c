use Rattle.serve_model.proofs.Linked.{is_linked}
use Rattle.serve_model.proofs.laws.a_link_is_known_when_all_are_taken_in.Goals as goal

pub returns : goal.returns
returns c = is_linked
