use Rattle.std.proofs.Common.{ap}
use Rattle.rs_chunk.specs.Rest.{Rest}
use Rattle.rtrb.specs.Ring.{received, sent}
use Rattle.threaded_server.proofs.Kept.{kept_answered}
use Rattle.threaded_server.proofs.carrier.ServerCarrier.forget.Goals as goal

pub returns-clause-kept : goal.returns-clause-kept
returns-clause-kept g c =
    let self = c.args.self.now in
    λ lines k. kept_answered self.caller lines self.knows c.new.result (sent self.out) (sent c.push_mark.new.out) (received self.from) c.in_ok-push_mark.ensures.ok (ap (λ (x : Rest). x.bytes) c.new.ensures) k
