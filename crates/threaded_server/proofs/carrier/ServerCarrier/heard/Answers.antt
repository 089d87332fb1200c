use Rattle.rtrb.specs.Ring.{received, sent}
use Rattle.pump.specs.Turns.{Arrives}
use Rattle.threaded_server.proofs.Steps.{adds, hears, if_on}
use Rattle.threaded_server.proofs.carrier.ServerCarrier.heard.Goals as goal

pub returns-in-Accepted-clause-kept : goal.returns-in-Accepted-clause-kept
returns-in-Accepted-clause-kept g c =
    let self = c.args.self.now in
    if_on c.heard_before.result _ (λ u. hears u self.caller c.heard_before.new.caller self.knows c.in-Accepted.conn c.in-Accepted.pump c.heard_before.new.pump (sent self.out) (received self.from) c.heard_before.ensures.same c.in-Accepted.is c.heard_before.ensures.heard)

pub returns-in-Accepted-clause-goes : goal.returns-in-Accepted-clause-goes
returns-in-Accepted-clause-goes g c = if_on c.heard_before.result _ (adds (Arrives c.in-Accepted.pump.conn) c.args.self.now.caller c.heard_before.new.caller.front c.heard_before.ensures.heard.goes)
