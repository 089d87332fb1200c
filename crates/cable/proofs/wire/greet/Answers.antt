use Rattle.session_model.specs.Frames.{drawn, due}
use Rattle.cable.proofs.Wiring.{greets_heard, greets_nothing, greets_refused, met_accepted, nears_of}
use Rattle.cable.proofs.wire.greet.Goals as goal

pub hear-requires : goal.hear-requires
hear-requires g c =
    let at = c.requires.at in
    let v = c.args.server.now in
    let w = c.args.wire.now in
    let n = drawn at.1.client w.client in
    let frames = due at.0 at.1.client w.client in
    let met = c.in_ok-wire.ensures.met n frames (nears_of at.0 at.1 v w at.2) in
    record { crossing = record { n = n; frames = frames; crosses = (met_accepted n frames v c.meet.new.end c.meet.new.crossing c.in_ok-wire.field-0 c.in-Accepted.conn c.in_ok-wire.ensures.end c.in-Accepted.is met).crosses } }

pub returns-in-Nothing-clause-arrived : goal.returns-in-Nothing-clause-arrived
returns-in-Nothing-clause-arrived g c = λ h r at.
    let w = c.args.wire.now in
    greets_nothing h r c.args.server.now c.meet.new.end w c.meet.new.crossing c.in_ok-wire.field-0 c.in-Nothing.is at (c.in_ok-wire.ensures.met (drawn r.client w.client) (due h r.client w.client) (nears_of h r c.args.server.now w at))

pub returns-in_ok-hear-in-Accepted-clause-arrived : goal.returns-in_ok-hear-in-Accepted-clause-arrived
returns-in_ok-hear-in-Accepted-clause-arrived g c = λ h r at.
    let v = c.args.server.now in
    let w = c.args.wire.now in
    let n = drawn r.client w.client in
    let frames = due h r.client w.client in
    let k = c.in_ok-wire.field-0 in
    let met = met_accepted n frames v c.meet.new.end c.meet.new.crossing k c.in-Accepted.conn c.in_ok-wire.ensures.end c.in-Accepted.is (c.in_ok-wire.ensures.met n frames (nears_of h r v w at)) in
    greets_heard h r v c.meet.new.end c.hear.new.end w c.meet.new.crossing c.hear.new.crossing k c.in-Accepted.conn _ c.in_ok-wire.ensures.end c.hear.ensures.end c.in-Accepted.is at met (c.in_ok-hear-in-Accepted.ensures.heard n frames met.crosses)

pub returns-in-Refused-clause-arrived : goal.returns-in-Refused-clause-arrived
returns-in-Refused-clause-arrived g c = λ h r at.
    let w = c.args.wire.now in
    greets_refused h r c.args.server.now c.meet.new.end w c.meet.new.crossing c.in_ok-wire.field-0 _ c.in-Refused.is at (c.in_ok-wire.ensures.met (drawn r.client w.client) (due h r.client w.client) (nears_of h r c.args.server.now w at))
