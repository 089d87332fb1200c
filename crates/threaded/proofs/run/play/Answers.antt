use Rattle.std.proofs.Common.{inr, ◌∷◌}
use Rattle.rtrb.specs.Ring.{received, sent}
use Rattle.cable_script.specs.declared.line.Line.TheVariants as line
use Rattle.threaded_client.specs.Carrying.{IsCarrying as IsCarryingNear}
use Rattle.threaded_server.specs.Carrying.{IsCarrying}
use Rattle.threaded.specs.Threads.{AreParts, FarHands, IsOn, NearHands}
use Rattle.threaded.proofs.Ended.{err_map, ok_both, ok_map, parts_on}
use Rattle.threaded.proofs.run.play.Goals as goal

pub finish-requires-clause-near : goal.finish-requires-clause-near
finish-requires-clause-near g c =
    let me = c.args.client in
    let b = c.in-Ok.returned in
    ok_map b.near (λ x. IsOn me.carrier x.caller) (λ x. AreParts me.connection x.caller b.client_asked.caller) (λ x h. parts_on me.connection me.carrier me.asker x.caller b.client_asked.caller c.requires.client h c.in-Ok.ensures.client_asked.same) c.in-Ok.ensures.near_same

pub finish-requires-clause-near_stopped : goal.finish-requires-clause-near_stopped
finish-requires-clause-near_stopped g c =
    let me = c.args.client in
    let b = c.in-Ok.returned in
    err_map b.near (λ k. IsOn me.carrier k) (λ k. AreParts me.connection k b.client_asked.caller) (λ k h. parts_on me.connection me.carrier me.asker k b.client_asked.caller c.requires.client h c.in-Ok.ensures.client_asked.same) c.in-Ok.ensures.near_stopped

pub finish-requires-clause-far : goal.finish-requires-clause-far
finish-requires-clause-far g c =
    let me = c.args.server in
    let b = c.in-Ok.returned in
    ok_map b.far (λ x. IsOn me.carrier x.caller) (λ x. AreParts me.connection x.caller b.server_asked.caller) (λ x h. parts_on me.connection me.carrier me.asker x.caller b.server_asked.caller c.requires.server h c.in-Ok.ensures.server_asked.same) c.in-Ok.ensures.far_same

pub finish-requires-clause-far_stopped : goal.finish-requires-clause-far_stopped
finish-requires-clause-far_stopped g c =
    let me = c.args.server in
    let b = c.in-Ok.returned in
    err_map b.far (λ k. IsOn me.carrier k) (λ k. AreParts me.connection k b.server_asked.caller) (λ k h. parts_on me.connection me.carrier me.asker k b.server_asked.caller c.requires.server h c.in-Ok.ensures.server_asked.same) c.in-Ok.ensures.far_stopped

pub returns-in-Ok-clause-played : goal.returns-in-Ok-clause-played
returns-in-Ok-clause-played g c =
    let lines = c.args.script.now.lines in
    let me = c.args.client in
    let you = c.args.server in
    let b = c.in-Ok.returned in
    λ went. inr (c.finish.ensures.played lines c.requires.client_side c.requires.client_checked c.requires.server_checked
    (ok_both b.near (λ x. IsOn me.carrier x.caller) (λ x. IsCarryingNear x.caller (line.Open ∷ lines) x.pump (sent x.out) (received x.from))
    (λ x. NearHands lines me.connection b.client_asked.caller b.client_asked.want x.caller x.pump (sent x.out) (received x.from)) (λ x h k. record { first = me.carrier; second = me.asker; shared = c.requires.client; carried = h; made = c.in-Ok.ensures.client_asked; carrying = k })
    c.in-Ok.ensures.near_same c.in-Ok.ensures.near)
    (ok_both b.far (λ x. IsOn you.carrier x.caller) (λ x. IsCarrying x.caller lines x.knows (sent x.out) (received x.from))
    (λ x. FarHands lines you.connection b.server_asked.caller b.server_asked.want x.caller x.knows (sent x.out) (received x.from)) (λ x h k. record { first = you.carrier; second = you.asker; shared = c.requires.server; carried = h; made = c.in-Ok.ensures.server_asked; carrying = k })
    c.in-Ok.ensures.far_same c.in-Ok.ensures.far) went)
