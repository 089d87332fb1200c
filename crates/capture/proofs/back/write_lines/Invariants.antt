use Rattle.std.proofs.Common.{◌≤◌, ◌+◌, length}
use Rattle.capture.proofs.Progress.{SoFar}
use Rattle.capture.proofs.back.write_lines.Given as goal

abbrev pub invariant-loop-line : goal.invariant-loop-line
invariant-loop-line l = record {
  far : SoFar l.text l.rest l.number l.fn.out.items l.out.items;
  counted : l.number + length l.rest ≤ 67108865;
}

abbrev pub decreases-loop-line : goal.decreases-loop-line
decreases-loop-line l = length l.rest
