use Rattle.rtrb.specs.Ring.{received, sent}
use Rattle.threaded_server.proofs.Kept.{kept_tick}
use Rattle.threaded_server.proofs.carrier.ServerCarrier.tick.Goals as goal

pub returns-clause-kept : goal.returns-clause-kept
returns-clause-kept g c =
    let self = c.args.self.now in
    λ lines l tells k. kept_tick _ self.caller c.tell.new.caller c.args.now _ 0 lines l self.knows (sent self.out) (received self.from) c.tell.ensures.same tells c.in_ok-tell.ensures.told k
