use Rattle.rtrb.specs.Ring.{received, sent}
use Rattle.threaded_server.proofs.Steps.{marks, on_ok}
use Rattle.threaded_server.proofs.carrier.ServerCarrier.step.Goals as goal

pub returns-clause-kept : goal.returns-clause-kept
returns-clause-kept g c =
    let self = c.args.self.now in
    on_ok c.push_mark.result _ _ (λ pushed. marks 0 self.caller self.knows c.args.more c.between.result (sent self.out) (sent c.push_mark.new.out) (received self.from) c.between.ensures pushed) c.push_mark.ensures.ok
