use Rattle.std.proofs.Common.{sym, subst, IfOk}
use Rattle.session_model.specs.Frames.{drawn, due}
use Rattle.cable.specs.Played.{There}
use Rattle.cable.specs.Wires.{Arrives, ServerAt}
use Rattle.cable.proofs.Results.{if_ok}
use Rattle.cable.proofs.Wiring.{accepted_crosses, arrives_heard, arrives_refused, is_nowhere}
use Rattle.cable.proofs.wire.arrive.Goals as goal

pub greet-requires-clause-at : goal.greet-requires-clause-at
greet-requires-clause-at g c =
    let at = c.requires.at in
    let v = c.args.server.now in
    let w = c.args.wire.now in
    (at.0, at.1, subst (λ (t : There). ServerAt at.0 at.1 t v w) (is_nowhere at.0 at.1 at.2 v w c.in-Nothing.is at.3) at.3)

pub hear-requires : goal.hear-requires
hear-requires g c =
    let at = c.requires.at in
    let w = c.args.wire.now in
    record { crossing = record { n = drawn at.1.client w.client; frames = due at.0 at.1.client w.client; crosses = accepted_crosses at.0 at.1 at.2 c.args.server.now w c.in-Accepted.conn c.in-Accepted.is at.3 } }

pub returns-in-Nothing-clause-arrived : goal.returns-in-Nothing-clause-arrived
returns-in-Nothing-clause-arrived g c = λ h r t at.
    let v = c.args.server.now in
    let w = c.args.wire.now in
    let is = is_nowhere h r t v w c.in-Nothing.is at in
    subst (λ (u : There). IfOk c.greet.result (Arrives h r u v c.greet.new.server w c.greet.new.wire)) (sym is) (c.greet.ensures.arrived h r (subst (λ (u : There). ServerAt h r u v w) is at))

pub returns-in-Accepted-clause-arrived : goal.returns-in-Accepted-clause-arrived
returns-in-Accepted-clause-arrived g c = λ h r t at.
    let v = c.args.server.now in
    let w = c.args.wire.now in
    if_ok c.hear.result (c.hear.ensures.heard (drawn r.client w.client) (due h r.client w.client) (accepted_crosses h r t v w c.in-Accepted.conn c.in-Accepted.is at))
    (λ some heard. arrives_heard h r t v c.hear.new.end w c.hear.new.crossing c.in-Accepted.conn some c.hear.ensures.end c.in-Accepted.is at heard)

pub returns-in-Refused-clause-arrived : goal.returns-in-Refused-clause-arrived
returns-in-Refused-clause-arrived g c = λ h r t at. arrives_refused h r t c.args.server.now c.args.wire.now _ _ c.in-Refused.is at
