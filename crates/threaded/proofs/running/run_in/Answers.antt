use Rattle.std.proofs.Common.{◌≡◌, ◌∷◌, ◌++◌, [], List, Ok, Err, IfOk, ◌∙◌}
use Rattle.rtrb.specs.Ring.{SameConsumer, SameProducer, received, sent}
use Rattle.cable_script.specs.declared.line.Line.{Line}
use Rattle.cable_script.specs.declared.line.Line.TheVariants as line
use Rattle.pump.proofs.Adding.{on_both}
use Rattle.threaded_client.specs.Carrying.{IsCarrying as IsCarryingNear, IsSound as IsSoundNear}
use Rattle.threaded.specs.Threads.{IsOn, NearFollows}
use Rattle.threaded.proofs.Ended.{on_ok}
use Rattle.threaded.proofs.Followed.{near_follows, ring_on}
use Rattle.threaded.proofs.running.run_in.Goals as goal

pub returns-clause-near : goal.returns-clause-near
returns-clause-near g c =
    let lines = c.args.stage.script.now.lines in
    let was = c.args.work.near in
    let opened = c.open-opened in
    let mid = opened.new.self in
    let e = c.carry_near-near.ensures in
    elim c.carry_near-near.result as (λ r. IfOk r (λ x. opened.result ≡ Ok tt) → IfOk r (λ x. IsOn mid.caller x.caller) → IfOk r (λ x. SameProducer mid.out x.out) → IfOk r (λ x. SameConsumer mid.from x.from) → IfOk r (λ x. IsSoundNear c.args.stage.client.now.settings x.conn x.pump)
    → IfOk r (λ x. NearFollows lines mid.caller x.caller mid.pump x.pump (sent mid.out) (sent x.out) (received mid.from) (received x.from))
    → IfOk r (λ x. IsOn was.caller x.caller × SameProducer was.out x.out × SameConsumer was.from x.from × IsSoundNear c.args.stage.client.now.settings x.conn x.pump × NearFollows (line.Open ∷ lines) was.caller x.caller was.pump x.pump (sent was.out) (sent x.out) (received was.from) (received x.from))) [
      | Ok x ↦ λ is same out from sound followed. (
        on_both was.caller mid.caller x.caller opened.ensures.same same,
        (ring_on was.out.end mid.out.end x.out.end opened.ensures.out.0 out.0, out.1 ∙ opened.ensures.out.1),
        (ring_on was.from.end mid.from.end x.from.end opened.ensures.from.0 from.0, from.1 ∙ opened.ensures.from.1),
        sound,
        near_follows lines was.caller mid.caller x.caller was.pump mid.pump x.pump (sent was.out) (sent mid.out) (sent x.out) (received was.from) (received mid.from) (received x.from)
            (on_ok opened.result tt ((done : List Line) → IsCarryingNear was.caller done was.pump (sent was.out) (received was.from) → IsCarryingNear mid.caller (done ++ line.Open ∷ []) mid.pump (sent mid.out) (received mid.from)) is opened.ensures.kept) followed,
      )
      | Err k ↦ λ is same out from sound followed. tt
    ] e.opened e.same e.out e.from e.sound e.followed
