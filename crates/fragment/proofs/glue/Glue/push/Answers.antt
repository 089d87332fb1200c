use Rattle.std.proofs.Common.{◌≤◌, ap, ◌∙◌, arith}
use Rattle.rs_wire.specs.Message.{size_of}
use Rattle.fragment.specs.Joining.{Holding, grown}
use Rattle.fragment.proofs.Joins.{size-join, taken}
use Rattle.fragment.proofs.glue.Glue.push.Goals as goal

pub returns-clause-in_turn : goal.returns-clause-in_turn
returns-clause-in_turn c =
    let sum = grown c.args.self.now c.args.message.now c.args.complete c.args.next in
    let limit = ap (λ (h : Holding). h.max_payload) c.self.view_is in
    let fits : size_of sum.message ≤ c.args.self.now.max_payload =
    omega (arith, limit, size-join c.args.self.now.held.message c.args.message.now, c.size.ensures.value, c.size-2.ensures, c.from.ensures, c.if-size-from.false) in
    λ f fs part other.
    let turn = taken c.args.self.now c.give.new.self c.args.follows c.args.message.now c.args.complete c.args.next f fs part fits
    (cc (c.give.ensures.empty, c.if-follows.false)) (c.give.ensures.limit ∙ c.in_ok-append.ensures.limit) in
    cc (c.if-follows.false, c.give.ensures.whole, c.in_ok-append.ensures.grown)
