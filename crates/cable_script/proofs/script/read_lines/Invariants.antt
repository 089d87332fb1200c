use Rattle.std.proofs.Common.{◌≤◌, ◌+◌, length}
use Rattle.cable_script.proofs.Reading.{SoFar}
use Rattle.cable_script.proofs.script.read_lines.Given as goal

abbrev pub invariant-loop-rest : goal.invariant-loop-rest
invariant-loop-rest l = record {
  far : SoFar l.text l.rest l.number l.reading.acted l.reading.script;
  counted : l.number + length l.rest ≤ length l.text;
}

abbrev pub decreases-loop-rest : goal.decreases-loop-rest
decreases-loop-rest l = length l.rest
