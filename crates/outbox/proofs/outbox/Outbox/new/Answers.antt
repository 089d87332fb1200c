use Rattle.std.proofs.Common.{◌≡◌, ◌-◌, [], length, ap, ◌∙◌, arith}
use Rattle.byte_queue.specs.Contents.{Contents}
use Rattle.outbox.specs.Line.{own_in, weave}
use Rattle.outbox.proofs.Weaving.{weave-nil}
use Rattle.outbox.proofs.outbox.Outbox.new.Goals as goal

pub returns-clause-nothing : goal.returns-clause-nothing
returns-clause-nothing c =
    let n = c.in_ok-new.ensures.nothing in
    let own = ap (λ (q : Contents). q.bytes) c.new.ensures in
    let loose : length c.new.result.bytes - own_in c.in_ok-new.field-0.bytes ≡ 0 = omega (arith, ap length own) in
    λ i. record {
      queue = (ap (λ bs. weave bs c.new.result.bytes) n.0 ∙ weave-nil c.new.result.bytes ∙ own) i;
      held = n.1 i;
      room = record { spare = n.2 i; loose = loose i };
    }
