use Rattle.std.proofs.Common.{sym, subst, Bool}
use Rattle.cable.specs.Played.{Downs, Round, Sides}
use Rattle.cable.specs.Wires.{IsMoved, Reaches, sides_of}
use Rattle.cable.specs.declared.carrying.Most.TheVariants as most
use Rattle.cable.proofs.Rounds.{keeps_on, round_played, sides_kept, still_at}
use Rattle.cable.proofs.cable.Cable.round.Goals as goal

pub down-requires-clause-at : goal.down-requires-clause-at
down-requires-clause-at g c = still_at c.args.self.now c.up.new.self _ c.requires.at c.in_ok-up.ensures.played

pub returns-clause-ends : goal.returns-clause-ends
returns-clause-ends g c = keeps_on c.args.self.now c.up.new.self c.down.new.self c.in_ok-up.ensures.ends c.in_ok-down.ensures.ends

pub returns-clause-played : goal.returns-clause-played
returns-clause-played g c = λ r at.
    let s = sides_of c.args.self.now in
    subst (λ (b : Bool). Reaches c.down.new.self (λ r'. Round s r r' × IsMoved b r r')) (sym c.any.ensures)
    (round_played s c.up.new.self c.down.new.self r c.in_ok-up.up c.in_ok-down.down (c.in_ok-up.ensures.played r at)
    (λ between here. subst (λ (q : Sides). Reaches c.down.new.self (λ r'. Downs q most.All between r' × IsMoved c.in_ok-down.down between r')) (sides_kept c.args.self.now c.up.new.self c.in_ok-up.ensures.ends) (c.in_ok-down.ensures.played between here)))
