use Rattle.std.proofs.Common.{◌∷◌, [], IfOk, subst}
use Rattle.rtrb.specs.Ring.{IsPair, SameConsumer, SameProducer, received, sent}
use Rattle.cable_script.specs.declared.line.Line.TheVariants as line
use Rattle.conn_shared.specs.Members.{Knowledge}
use Rattle.threaded_client.specs.Carrying.{IsCarrying as IsCarryingNear, IsSound as IsSoundNear}
use Rattle.threaded_server.specs.Carrying.{IsCarrying, IsSound}
use Rattle.threaded.specs.Threads.{FarFollows, IsOn, NearFollows}
use Rattle.threaded.proofs.Ended.{ok_map}
use Rattle.threaded.proofs.Followed.{ring_both}
use Rattle.threaded.proofs.running.run.Goals as goal

pub returns-in-Ok-clause-near_same : goal.returns-in-Ok-clause-near_same
returns-in-Ok-clause-near_same g c =
    let w = c.in_ok-work.work in
    let lines = c.args.script.now.lines in
    ok_map c.in-Ok.returned.near
    (λ x. IsOn w.near.caller x.caller × SameProducer w.near.out x.out × SameConsumer w.near.from x.from × IsSoundNear c.args.client.now.settings x.conn x.pump × NearFollows (line.Open ∷ lines) w.near.caller x.caller w.near.pump x.pump (sent w.near.out) (sent x.out) (received w.near.from) (received x.from))
    (λ x. IsOn c.args.callers.client_carries x.caller) (λ x h. subst (λ (k : Knowledge). IsOn k x.caller) c.in_ok-work.ensures.near_caller h.0) c.in-Ok.ensures.near

pub returns-in-Ok-clause-near_sound : goal.returns-in-Ok-clause-near_sound
returns-in-Ok-clause-near_sound g c =
    let w = c.in_ok-work.work in
    let lines = c.args.script.now.lines in
    ok_map c.in-Ok.returned.near
    (λ x. IsOn w.near.caller x.caller × SameProducer w.near.out x.out × SameConsumer w.near.from x.from × IsSoundNear c.args.client.now.settings x.conn x.pump × NearFollows (line.Open ∷ lines) w.near.caller x.caller w.near.pump x.pump (sent w.near.out) (sent x.out) (received w.near.from) (received x.from))
    (λ x. IsSoundNear c.args.client.now.settings x.conn x.pump) (λ x h. h.3) c.in-Ok.ensures.near

pub returns-in-Ok-clause-near : goal.returns-in-Ok-clause-near
returns-in-Ok-clause-near g c =
    let w = c.in_ok-work.work in
    let lines = c.args.script.now.lines in
    ok_map c.in-Ok.returned.near
    (λ x. IsOn w.near.caller x.caller × SameProducer w.near.out x.out × SameConsumer w.near.from x.from × IsSoundNear c.args.client.now.settings x.conn x.pump × NearFollows (line.Open ∷ lines) w.near.caller x.caller w.near.pump x.pump (sent w.near.out) (sent x.out) (received w.near.from) (received x.from))
    (λ x. IsCarryingNear x.caller (line.Open ∷ lines) x.pump (sent x.out) (received x.from)) (λ x h. h.4 [] c.in_ok-work.ensures.near) c.in-Ok.ensures.near

pub returns-in-Ok-clause-far_same : goal.returns-in-Ok-clause-far_same
returns-in-Ok-clause-far_same g c =
    let w = c.in_ok-work.work in
    let lines = c.args.script.now.lines in
    ok_map c.in-Ok.returned.far
    (λ x. IsOn w.far.caller x.caller × SameProducer w.far.out x.out × SameConsumer w.far.from x.from × IsSound c.args.server.now.settings x.knows × FarFollows lines w.far.caller x.caller w.far.knows x.knows (sent w.far.out) (sent x.out) (received w.far.from) (received x.from))
    (λ x. IsOn c.args.callers.server_carries x.caller) (λ x h. subst (λ (k : Knowledge). IsOn k x.caller) c.in_ok-work.ensures.far_caller h.0) c.in-Ok.ensures.far

pub returns-in-Ok-clause-far_sound : goal.returns-in-Ok-clause-far_sound
returns-in-Ok-clause-far_sound g c =
    let w = c.in_ok-work.work in
    let lines = c.args.script.now.lines in
    ok_map c.in-Ok.returned.far
    (λ x. IsOn w.far.caller x.caller × SameProducer w.far.out x.out × SameConsumer w.far.from x.from × IsSound c.args.server.now.settings x.knows × FarFollows lines w.far.caller x.caller w.far.knows x.knows (sent w.far.out) (sent x.out) (received w.far.from) (received x.from))
    (λ x. IsSound c.args.server.now.settings x.knows) (λ x h. h.3) c.in-Ok.ensures.far

pub returns-in-Ok-clause-far : goal.returns-in-Ok-clause-far
returns-in-Ok-clause-far g c =
    let w = c.in_ok-work.work in
    let lines = c.args.script.now.lines in
    ok_map c.in-Ok.returned.far
    (λ x. IsOn w.far.caller x.caller × SameProducer w.far.out x.out × SameConsumer w.far.from x.from × IsSound c.args.server.now.settings x.knows × FarFollows lines w.far.caller x.caller w.far.knows x.knows (sent w.far.out) (sent x.out) (received w.far.from) (received x.from))
    (λ x. IsCarrying x.caller lines x.knows (sent x.out) (received x.from)) (λ x h. h.4 [] c.in_ok-work.ensures.far) c.in-Ok.ensures.far

pub returns-in-Ok-clause-up : goal.returns-in-Ok-clause-up
returns-in-Ok-clause-up g c =
    let w = c.in_ok-work.work in
    let lines = c.args.script.now.lines in
    let b = c.in-Ok.returned in
    ok_map b.near
    (λ x. IsOn w.near.caller x.caller × SameProducer w.near.out x.out × SameConsumer w.near.from x.from × IsSoundNear c.args.client.now.settings x.conn x.pump × NearFollows (line.Open ∷ lines) w.near.caller x.caller w.near.pump x.pump (sent w.near.out) (sent x.out) (received w.near.from) (received x.from))
    (λ n. IfOk b.far (λ f. IsPair n.out f.from)) (λ n h. ok_map b.far
    (λ x. IsOn w.far.caller x.caller × SameProducer w.far.out x.out × SameConsumer w.far.from x.from × IsSound c.args.server.now.settings x.knows × FarFollows lines w.far.caller x.caller w.far.knows x.knows (sent w.far.out) (sent x.out) (received w.far.from) (received x.from))
    (λ f. IsPair n.out f.from) (λ f k. ring_both w.near.out.end w.far.from.end n.out.end f.from.end c.in_ok-work.ensures.up h.1.0 k.2.0) c.in-Ok.ensures.far) c.in-Ok.ensures.near

pub returns-in-Ok-clause-down : goal.returns-in-Ok-clause-down
returns-in-Ok-clause-down g c =
    let w = c.in_ok-work.work in
    let lines = c.args.script.now.lines in
    let b = c.in-Ok.returned in
    ok_map b.near
    (λ x. IsOn w.near.caller x.caller × SameProducer w.near.out x.out × SameConsumer w.near.from x.from × IsSoundNear c.args.client.now.settings x.conn x.pump × NearFollows (line.Open ∷ lines) w.near.caller x.caller w.near.pump x.pump (sent w.near.out) (sent x.out) (received w.near.from) (received x.from))
    (λ n. IfOk b.far (λ f. IsPair f.out n.from)) (λ n h. ok_map b.far
    (λ x. IsOn w.far.caller x.caller × SameProducer w.far.out x.out × SameConsumer w.far.from x.from × IsSound c.args.server.now.settings x.knows × FarFollows lines w.far.caller x.caller w.far.knows x.knows (sent w.far.out) (sent x.out) (received w.far.from) (received x.from))
    (λ f. IsPair f.out n.from) (λ f k. ring_both w.far.out.end w.near.from.end f.out.end n.from.end c.in_ok-work.ensures.down k.1.0 h.2.0) c.in-Ok.ensures.far) c.in-Ok.ensures.near
