use Rattle.cable.specs.Played.{Ends}
use Rattle.cable.specs.Wires.{At, IsAt, Keeps, Reaches, sides_of}
use Rattle.cable.proofs.Rounds.{IsLeft}
use Rattle.cable.proofs.cable.Cable.drain.Given as goal

abbrev pub invariant-loop : goal.invariant-loop
invariant-loop g l = record {
  at : IsAt l.self;
  ends : Keeps l.fn.self l.self;
  played : (r : Ends) → At l.fn.self r → Reaches l.self (IsLeft l.counter (sides_of l.fn.self) r);
}
