use Rattle.rtrb.specs.Ring.{received, sent}
use Rattle.threaded_server.proofs.Steps.{cut_is, on_ok, plain_is}
use Rattle.threaded_server.proofs.carrier.ServerCarrier.cut.Goals as goal

pub returns-then-cut-clause-kept : goal.returns-then-cut-clause-kept
returns-then-cut-clause-kept g c =
    let self = c.args.self.now in
    let now = c.read.new.self in
    on_ok c.answer.result _ _ (λ kept lines k. kept lines (cut_is c.in_ok-heard.heard.mark self.caller now.caller self.knows now.knows (sent self.out) (sent now.out) (received self.from) (received now.from) (c.is_cut-cut.ensures c.if-cut.true) c.in_ok-heard.ensures.kept lines k))
    c.answer.ensures.kept

pub returns-clause-kept : goal.returns-clause-kept
returns-clause-kept g c =
    let self = c.args.self.now in
    let now = c.read.new.self in
    λ lines k. plain_is c.in_ok-is_more.field-0 c.in_ok-heard.heard.mark self.caller now.caller self.knows now.knows (sent self.out) (sent now.out) (received self.from) (received now.from) c.in_ok-is_more.ensures c.in_ok-heard.ensures.kept lines k
