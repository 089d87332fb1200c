use Rattle.rtrb.specs.Ring.{received, sent}
use Rattle.pump.specs.Turns.{Names}
use Rattle.threaded_server.proofs.Steps.{adds, adds_none, gives, if_on, on_ok, pushes}
use Rattle.threaded_server.proofs.carrier.ServerCarrier.down.Goals as goal

pub returns-in_ok-send-in-Accepted-clause-kept : goal.returns-in_ok-send-in-Accepted-clause-kept
returns-in_ok-send-in-Accepted-clause-kept g c =
    let self = c.args.self.now in
    gives self.caller c.send.new.caller self.knows c.in-Accepted.conn c.in-Accepted.pump c.send.new.pump (sent self.out) (sent c.send.new.out) (received self.from) c.send.ensures.same c.in-Accepted.is c.in_ok-send-in-Accepted.ensures.gave c.in_ok-send-in-Accepted.ensures.left

pub returns-in-Refused-clause-kept : goal.returns-in-Refused-clause-kept
returns-in-Refused-clause-kept g c =
    let self = c.args.self.now in
    on_ok c.push_refusal.result _ _ (λ f. pushes self.caller self.knows c.in-Refused.bytes c.in-Refused.pushed c.push_refusal.new.pushed (sent self.out) (sent c.push_refusal.new.out) (received self.from) c.in-Refused.is f) c.push_refusal.ensures.pushed

pub returns-in_ok-send-in-Accepted-clause-goes : goal.returns-in_ok-send-in-Accepted-clause-goes
returns-in_ok-send-in-Accepted-clause-goes g c = adds (Names c.in-Accepted.pump.conn) c.args.self.now.caller c.send.new.caller.front c.in_ok-send-in-Accepted.ensures.gave.goes

pub returns-in-Refused-clause-goes : goal.returns-in-Refused-clause-goes
returns-in-Refused-clause-goes g c = if_on c.push_refusal.result _ (adds_none c.args.self.now.caller)
