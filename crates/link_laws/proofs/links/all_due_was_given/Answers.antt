use Rattle.link_laws.proofs.Leaving.{all_given}
use Rattle.link_laws.proofs.links.all_due_was_given.Goals as goal

pub returns : goal.returns
returns u = all_given
