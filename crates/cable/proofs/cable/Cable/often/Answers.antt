use Rattle.std.proofs.Common.{◌≡◌, arith, subst}
use Rattle.cable.specs.Played.{Sides, asks}
use Rattle.cable.specs.Wires.{Reaches, sides_of}
use Rattle.cable.proofs.Rounds.{keeps_none, keeps_on, often_begins, often_ends, often_on, sides_kept, still_at}
use Rattle.cable.proofs.cable.Cable.often.Goals as goal

pub loop-init : goal.loop-init
loop-init g c = record { at = c.requires.at; ends = keeps_none c.args.self.now; played = λ r at. often_begins c.args.n (sides_of c.args.self.now) c.args.side c.args.call.now c.args.self.now r at }

pub loop-preserved : goal.loop-preserved
loop-preserved g c =
    let was = c.args.self.now in
    let old = c.loop.self in
    let new = c.call.new.self in
    let i = c.loop.invariant in
    let one = c.in_ok-call.ensures.played in
    record {
      at = still_at old new _ i.at one;
      ends = keeps_on was old new i.ends c.in_ok-call.ensures.ends;
      played = λ r at.
          let b = i.played r at in
          often_on c.args.n c.loop.counter (sides_of was) c.args.side c.args.call.now old new r (omega (arith, c.loop-test.true)) b (subst (λ (s : Sides). Reaches new (λ r'. r' ≡ asks s c.args.side c.args.call.now b.ends)) (sides_kept was old i.ends) (one b.ends b.at));
    }

pub returns-clause-played : goal.returns-clause-played
returns-clause-played g c = λ r at. often_ends c.args.n c.loop.counter (sides_of c.args.self.now) c.args.side c.args.call.now c.loop.self r (omega (arith, c.loop-test.false)) (c.loop.invariant.played r at)
