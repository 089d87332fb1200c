use Rattle.std.proofs.Common.{◌≡◌, ℕ, List, length, false}
use Rattle.rs_frame.specs.declared.frame.Frame.{Frame}
use Rattle.cable.specs.Hearing.{Crosses}
use Rattle.cable.proofs.Heard.{SoFar}
use Rattle.cable.proofs.hearing.hear.Given as goal

abbrev pub invariant-loop-next : goal.invariant-loop-next
invariant-loop-next g l = record {
  end : l.end ≡ record l.fn.end { entries = l.end.entries; spare = l.end.spare };
  over : l.crossing.over ≡ false;
  heard : (n : ℕ) (frames : List Frame) → Crosses l.conn n frames l.fn.end l.fn.crossing → SoFar l.fn.end.settings l.conn n frames l.fn.end.entries l.end.entries l.crossing.rest l.came;
}

abbrev pub decreases-loop-next : goal.decreases-loop-next
decreases-loop-next g l = length l.crossing.rest.bytes
