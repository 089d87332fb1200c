use Rattle.honest_laws.proofs.Told.{told_down, told_up}
use Rattle.honest_laws.proofs.accusing.what_is_told_was_handled.Goals as goal

pub returns : goal.returns
returns c = record { server = told_up; client = told_down }
