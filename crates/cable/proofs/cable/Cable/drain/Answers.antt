use Rattle.std.proofs.Common.{Bool, true, false, arith, subst}
use Rattle.cable.specs.Played.{Round, Sides}
use Rattle.cable.specs.Wires.{IsMoved, Reaches, sides_of}
use Rattle.cable.proofs.Rounds.{drain_begins, drain_ends, drain_on, drain_stops, keeps_none, keeps_on, sides_kept, still_at}
use Rattle.cable.proofs.cable.Cable.drain.Goals as goal

pub loop-init : goal.loop-init
loop-init g c = record { at = c.requires.at; ends = keeps_none c.args.self.now; played = λ r at. drain_begins (sides_of c.args.self.now) c.args.self.now r at }

pub returns-then-not-branch-clause-ends : goal.returns-then-not-branch-clause-ends
returns-then-not-branch-clause-ends g c = keeps_on c.args.self.now c.loop.self c.round.new.self c.loop.invariant.ends c.round.ensures.ends

pub returns-then-not-branch-clause-played : goal.returns-then-not-branch-clause-played
returns-then-not-branch-clause-played g c = λ r at.
    drain_stops (sides_of c.args.self.now) c.loop.self c.round.new.self r c.loop.counter (omega (arith, c.loop-test.true)) (c.loop.invariant.played r at)
    (λ now here. subst (λ (q : Sides). Reaches c.round.new.self (λ r'. Round q now r' × IsMoved false now r')) (sides_kept c.args.self.now c.loop.self c.loop.invariant.ends)
    (subst (λ (b : Bool). Reaches c.round.new.self (λ r'. Round (sides_of c.loop.self) now r' × IsMoved b now r')) c.if-not-branch.true (c.in_ok-round.ensures.played now here)))

pub loop-preserved : goal.loop-preserved
loop-preserved g c = record {
  at = still_at c.loop.self c.round.new.self _ c.loop.invariant.at c.in_ok-round.ensures.played;
  ends = keeps_on c.args.self.now c.loop.self c.round.new.self c.loop.invariant.ends c.in_ok-round.ensures.ends;
  played = λ r at. drain_on (sides_of c.args.self.now) c.loop.self c.round.new.self r c.loop.counter (omega (arith, c.loop-test.true)) (c.loop.invariant.played r at)
      (λ now here. subst (λ (q : Sides). Reaches c.round.new.self (λ r'. Round q now r' × IsMoved true now r')) (sides_kept c.args.self.now c.loop.self c.loop.invariant.ends)
      (subst (λ (b : Bool). Reaches c.round.new.self (λ r'. Round (sides_of c.loop.self) now r' × IsMoved b now r')) c.if-not-branch.false (c.in_ok-round.ensures.played now here)));
}

pub returns-clause-played : goal.returns-clause-played
returns-clause-played g c = λ r at. drain_ends (sides_of c.args.self.now) c.loop.self r c.loop.counter (omega (arith, c.loop-test.false)) (c.loop.invariant.played r at)
