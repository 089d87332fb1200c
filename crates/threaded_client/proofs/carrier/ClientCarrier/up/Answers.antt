use Rattle.std.proofs.Common.{Option, subst}
use Rattle.rtrb.specs.Ring.{received, sent}
use Rattle.link_model.specs.Carrying.{Between}
use Rattle.threaded_client.specs.Carrying.{IsAny, IsCarrying}
use Rattle.threaded_client.proofs.Answering.{on_ok_one, on_ok_two}
use Rattle.threaded_client.proofs.Carrying.{carrying_given}
use Rattle.pump.specs.Turns.{Names}
use Rattle.pump.proofs.Adding.{goes_as, goes_none}
use Rattle.threaded_client.proofs.carrier.ClientCarrier.up.Goals as goal

pub returns-in-Some-clause-kept : goal.returns-in-Some-clause-kept
returns-in-Some-clause-kept g c =
    let me = c.args.self.now in
    on_ok_two c.send.result (λ gave left done k.
    carrying_given me.caller c.send.new.caller done c.in-Some.pump c.send.new.pump (sent me.out) (sent c.send.new.out) (received me.from) c.send.ensures.same gave left
    (subst (λ (p : Option Between). IsCarrying me.caller done p (sent me.out) (received me.from)) c.in-Some.is k)) c.send.ensures.gave c.send.ensures.left

pub returns-in-None-clause-goes : goal.returns-in-None-clause-goes
returns-in-None-clause-goes g c = goes_none IsAny c.args.self.now.caller

pub returns-in-Some-clause-goes : goal.returns-in-Some-clause-goes
returns-in-Some-clause-goes g c = on_ok_one c.send.result (λ gave. goes_as (Names c.in-Some.pump.conn) IsAny c.args.self.now.caller c.send.new.caller.front (λ e names. tt) gave.goes) c.send.ensures.gave
