use Rattle.std.proofs.Common.{Option, subst}
use Rattle.rtrb.specs.Ring.{received, sent}
use Rattle.link_model.specs.Carrying.{Between}
use Rattle.threaded_client.specs.Carrying.{IsAny, IsCarrying}
use Rattle.threaded_client.proofs.Answering.{on_ok}
use Rattle.threaded_client.proofs.Carrying.{carrying_heard}
use Rattle.pump.specs.Turns.{Arrives}
use Rattle.pump.proofs.Adding.{goes_as, goes_none}
use Rattle.threaded_client.proofs.carrier.ClientCarrier.heard.Goals as goal

pub returns-in-Some-clause-kept : goal.returns-in-Some-clause-kept
returns-in-Some-clause-kept g c =
    let me = c.args.self.now in
    on_ok c.heard_before.result (λ done k.
    carrying_heard me.caller c.heard_before.new.caller done c.in-Some.pump c.heard_before.new.pump (sent me.out) (received me.from) c.heard_before.ensures.same c.heard_before.ensures.heard
    (subst (λ (p : Option Between). IsCarrying me.caller done p (sent me.out) (received me.from)) c.in-Some.is k))

pub returns-in-None-clause-goes : goal.returns-in-None-clause-goes
returns-in-None-clause-goes g c = goes_none IsAny c.args.self.now.caller

pub returns-in-Some-clause-goes : goal.returns-in-Some-clause-goes
returns-in-Some-clause-goes g c = on_ok c.heard_before.result (goes_as (Arrives c.in-Some.pump.conn) IsAny c.args.self.now.caller c.heard_before.new.caller.front (λ e came. tt) c.heard_before.ensures.heard.goes)
