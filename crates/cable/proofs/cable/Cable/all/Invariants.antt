use Rattle.cable.specs.Played.{Ends}
use Rattle.cable.specs.Wires.{At, IsAt, Keeps, Reaches, sides_of}
use Rattle.cable.proofs.Playing.{IsLeft}
use Rattle.cable.proofs.cable.Cable.all.Given as goal

abbrev pub invariant-loop-line : goal.invariant-loop-line
invariant-loop-line g l = record {
  at : IsAt l.self;
  ends : Keeps l.fn.self l.self;
  played : (r : Ends) → At l.fn.self r → Reaches l.self (IsLeft (sides_of l.fn.self) l.lines l.line-index r);
}
