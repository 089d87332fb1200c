use Rattle.cable_script.proofs.OneScript.{none_wrong, one_number, one_script}
use Rattle.cable_script.proofs.laws.script_laws.Goals as goal

pub returns : goal.returns
returns c = record { one = one_script; right = λ text a number s. none_wrong a _ number s.lines_are; number = one_number }
