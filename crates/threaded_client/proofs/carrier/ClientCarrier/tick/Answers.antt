use Rattle.rtrb.specs.Ring.{received, sent}
use Rattle.threaded_client.proofs.Carrying.{carrying_ticked}
use Rattle.threaded_client.proofs.carrier.ClientCarrier.tick.Goals as goal

pub returns-clause-kept : goal.returns-clause-kept
returns-clause-kept g c done k =
    let me = c.args.self.now in
    carrying_ticked c.args.connection.now.settings me.caller c.tell.new.caller c.in_ok-tell.field-0 done me.pump c.args.now (sent me.out) (received me.from) c.tell.ensures.same c.in_ok-tell.ensures.told k
