use Rattle.std.proofs.Common.{subst}
use Rattle.cable.specs.declared.hearing.Known.{Known}
use Rattle.cable.specs.Wires.{Gave}
use Rattle.cable.proofs.Results.{if_ok}
use Rattle.cable.proofs.Wiring.{accepted_number, gave_draws, gave_nothing, gave_refusal, left_within}
use Rattle.cable.proofs.wire.give.Goals as goal

pub carry-requires-clause-number : goal.carry-requires-clause-number
carry-requires-clause-number g c =
    let at = c.requires.at in
    accepted_number at.0 at.1 at.2 c.args.server.now c.args.wire.now _ c.in-Accepted.is at.3

pub offer-requires : goal.offer-requires
offer-requires g c =
    let at = c.requires.at in
    record { within = left_within at.0 at.1 at.2 c.args.server.now c.args.wire.now _ c.in-Refused.is at.3 }

pub returns-in-Nothing-clause-gave : goal.returns-in-Nothing-clause-gave
returns-in-Nothing-clause-gave g c = λ h r t at. gave_nothing c.args.most h r t c.args.server.now c.args.wire.now c.in-Nothing.is at

pub returns-in-Accepted-clause-gave : goal.returns-in-Accepted-clause-gave
returns-in-Accepted-clause-gave g c = λ h r t at.
    let w = c.args.wire.now in
    if_ok c.carry.result c.carry.ensures.carried
    (λ some k. subst (λ (known : Known). Gave c.args.most h r t c.args.server.now c.carry.new.end w (record w { known = known; down = record w.down { rest = c.carry.new.rest } }) some) c.in-Accepted.is
    (gave_draws c.args.most h r t c.args.server.now c.carry.new.end w c.carry.new.rest c.in-Accepted.conn some c.carry.ensures.end c.in-Accepted.is at k))

pub returns-in-Refused-clause-gave : goal.returns-in-Refused-clause-gave
returns-in-Refused-clause-gave g c = λ h r t at.
    if_ok c.offer.result c.offer.ensures.offered (λ some k. gave_refusal c.args.most h r t c.args.server.now c.args.wire.now _ _ _ some c.in-Refused.is at k)
