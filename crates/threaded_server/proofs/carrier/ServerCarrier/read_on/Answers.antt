use Rattle.std.proofs.lemmas.Result.{IfOk-weaker}
use Rattle.rtrb.specs.Ring.{received, sent}
use Rattle.pump.specs.Turns.{Arrives}
use Rattle.threaded_server.proofs.Steps.{adds, adds_none, fills, if_on, if_to_on, passes, takes}
use Rattle.threaded_server.proofs.carrier.ServerCarrier.read_on.Goals as goal

pub returns-in-Nothing-clause-kept : goal.returns-in-Nothing-clause-kept
returns-in-Nothing-clause-kept g c =
    let self = c.args.self.now in
    IfOk-weaker c.fill.result _ _ (λ h f. fills self.caller self.knows c.in-Nothing.reader c.fill.new.reader h.mark (sent self.out) (received self.from) (received c.fill.new.from) c.in-Nothing.is f) c.fill.ensures.filled

pub returns-in-Accepted-clause-kept : goal.returns-in-Accepted-clause-kept
returns-in-Accepted-clause-kept g c =
    let self = c.args.self.now in
    IfOk-weaker c.take.result _ _ (λ h f. takes self.caller c.take.new.caller self.knows c.in-Accepted.conn c.in-Accepted.pump c.take.new.pump h.mark (sent self.out) (received self.from) (received c.take.new.from) c.take.ensures.same c.in-Accepted.is f) c.take.ensures.took

pub returns-in-Refused-clause-kept : goal.returns-in-Refused-clause-kept
returns-in-Refused-clause-kept g c =
    let self = c.args.self.now in
    IfOk-weaker c.pass_over.result _ _ (λ h f. passes self.caller self.knows c.in-Refused.bytes c.in-Refused.pushed h.mark (sent self.out) (received self.from) (received c.pass_over.new.from) c.in-Refused.is f) c.pass_over.ensures.passed

pub returns-in-Nothing-clause-goes : goal.returns-in-Nothing-clause-goes
returns-in-Nothing-clause-goes g c = if_on c.fill.result _ (adds_none c.args.self.now.caller)

pub returns-in-Accepted-clause-goes : goal.returns-in-Accepted-clause-goes
returns-in-Accepted-clause-goes g c = if_to_on c.take.result _ _ (λ h t. adds (Arrives c.in-Accepted.pump.conn) c.args.self.now.caller c.take.new.caller.front t.goes) c.take.ensures.took

pub returns-in-Refused-clause-goes : goal.returns-in-Refused-clause-goes
returns-in-Refused-clause-goes g c = if_on c.pass_over.result _ (adds_none c.args.self.now.caller)
