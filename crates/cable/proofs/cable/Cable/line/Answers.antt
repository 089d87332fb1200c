use Rattle.std.proofs.Common.{◌≡◌, ℕ, sym, subst, OnOk}
use Rattle.rs_wire.specs.declared.call.Call.{Call}
use Rattle.cable_script.specs.declared.line.Line.{Line}
use Rattle.cable.specs.declared.carrying.Most.TheVariants as most
use Rattle.cable.specs.Played.{Downs, Lates, PlaysLine, Ups, an_item, asks_often}
use Rattle.cable.specs.Wires.{Reaches, sides_of}
use Rattle.cable.proofs.Rounds.{first_holds}
use Rattle.cable.proofs.cable.Cable.line.Goals as goal

pub returns-in_ok-up-in-Up-clause-played : goal.returns-in_ok-up-in-Up-clause-played
returns-in_ok-up-in-Up-clause-played g c = λ r at.
    let s = sides_of c.args.self.now in
    subst (λ (l : Line). Reaches c.up.new.self (PlaysLine s l r)) (sym c.in-Up.is)
    (subst (λ (n : ℕ). Reaches c.up.new.self (Ups s (most.Bytes n) r)) c.get-in-Up.ensures.value (first_holds c.up.new.self (Ups s (most.Bytes c.get-in-Up.result) r) _ (c.in_ok-up-in-Up.ensures.played r at)))

pub returns-in_ok-down-in-Down-clause-played : goal.returns-in_ok-down-in-Down-clause-played
returns-in_ok-down-in-Down-clause-played g c = λ r at.
    let s = sides_of c.args.self.now in
    subst (λ (l : Line). Reaches c.down.new.self (PlaysLine s l r)) (sym c.in-Down.is)
    (subst (λ (n : ℕ). Reaches c.down.new.self (Downs s (most.Bytes n) r)) c.get-in-Down.ensures.value (first_holds c.down.new.self (Downs s (most.Bytes c.get-in-Down.result) r) _ (c.in_ok-down-in-Down.ensures.played r at)))

pub returns-in_ok-item-in-Many-clause-played : goal.returns-in_ok-item-in-Many-clause-played
returns-in_ok-item-in-Many-clause-played g c = λ r at.
    let s = sides_of c.args.self.now in
    let new = c.often.new.self in
    let side = c.in-Many.side in
    subst (λ (l : Line). OnOk c.often.result (Reaches new (PlaysLine s l r))) (sym c.in-Many.is)
    (subst (λ (n : ℕ). OnOk c.often.result (Reaches new (λ r'. r' ≡ asks_often n s side (an_item c.in-Many.stream c.in-Many.size) r))) c.get.ensures.value
    (subst (λ (a : Call). OnOk c.often.result (Reaches new (λ r'. r' ≡ asks_often c.get.result s side a r))) c.in_ok-item-in-Many.ensures (c.often.ensures.played r at)))

pub returns-in-Ask-clause-played : goal.returns-in-Ask-clause-played
returns-in-Ask-clause-played g c = λ r at. subst (λ (l : Line). OnOk c.call.result (Reaches c.call.new.self (PlaysLine (sides_of c.args.self.now) l r))) (sym c.in-Ask.is) (c.call.ensures.played r at)

pub returns-in-Drain-clause-played : goal.returns-in-Drain-clause-played
returns-in-Drain-clause-played g c = λ r at. subst (λ (l : Line). OnOk c.drain.result (Reaches c.drain.new.self (PlaysLine (sides_of c.args.self.now) l r))) (sym c.in-Drain.is) (c.drain.ensures.played r at)

pub returns-in-Cut-clause-played : goal.returns-in-Cut-clause-played
returns-in-Cut-clause-played g c = λ r at. subst (λ (l : Line). OnOk c.cut.result (Reaches c.cut.new.self (PlaysLine (sides_of c.args.self.now) l r))) (sym c.in-Cut.is) (c.cut.ensures.played r at)

pub returns-in-Open-clause-played : goal.returns-in-Open-clause-played
returns-in-Open-clause-played g c = λ r at. subst (λ (l : Line). OnOk c.open.result (Reaches c.open.new.self (PlaysLine (sides_of c.args.self.now) l r))) (sym c.in-Open.is) (c.open.ensures.played r at)

pub returns-in-Drop-clause-played : goal.returns-in-Drop-clause-played
returns-in-Drop-clause-played g c = λ r at. subst (λ (l : Line). OnOk c.give_up.result (Reaches c.give_up.new.self (PlaysLine (sides_of c.args.self.now) l r))) (sym c.in-Drop.is) (c.give_up.ensures.played r at)

pub returns-in-Late-clause-played : goal.returns-in-Late-clause-played
returns-in-Late-clause-played g c = λ r at.
    let s = sides_of c.args.self.now in
    subst (λ (l : Line). OnOk c.late.result (Reaches c.late.new.self (PlaysLine s l r))) (sym c.in-Late.is)
    (subst (λ (n : ℕ). OnOk c.late.result (Reaches c.late.new.self (Lates s (most.Bytes n) r))) c.get-in-Late.ensures.value (c.late.ensures.played r at))

pub returns-in-Tick-clause-played : goal.returns-in-Tick-clause-played
returns-in-Tick-clause-played g c = λ r at. subst (λ (l : Line). OnOk c.tick.result (Reaches c.tick.new.self (PlaysLine (sides_of c.args.self.now) l r))) (sym c.in-Tick.is) (c.tick.ensures.played r at)
