use Rattle.cable_script.proofs.OneLine.{one, spoken}
use Rattle.cable_script.proofs.laws.line_laws.Goals as goal

pub returns : goal.returns
returns c = record { one = one; spoken = spoken }
