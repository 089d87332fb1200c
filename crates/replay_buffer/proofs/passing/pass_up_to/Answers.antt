use Rattle.std.proofs.Common.{◌-◌, length, sym, ap, subst, ◌∙◌, arith}
use Rattle.replay_buffer.specs.Stored.{Stored, IsPassed}
use Rattle.replay_buffer.proofs.Acked.{none_acked, passed_acked}
use Rattle.replay_buffer.proofs.Passed.{passed_to-same}
use Rattle.replay_buffer.proofs.passing.pass_up_to.Goals as goal

pub returns-then-spot-passed-clause-held : goal.returns-then-spot-passed-clause-held
returns-then-spot-passed-clause-held c = λ hold.
    let e = c.find-spot.ensures in
    let first = ap (λ (v : Stored). v.first) c.pass_to.ensures.passed in
    passed_acked c.args.store.now c.pass_to.new.self c.find-spot.result c.args.position hold c.passed.ensures.within e.at e.low e.next (omega (arith, c.if-spot-passed.true, c.passed.ensures.value)) first c.pass_to.ensures.first c.pass_to.ensures.rest

pub returns-then-spot-passed-clause-all : goal.returns-then-spot-passed-clause-all
returns-then-spot-passed-clause-all c =
    let v = c.args.store.now in
    let first = ap (λ (v : Stored). v.first) c.pass_to.ensures.passed in
    subst (IsPassed v) (sym c.pass_to.ensures.passed) (passed_to-same v (c.find-spot.result.index - length v.below) c.find-spot.result.position (sym first ∙ c.pass_to.ensures.first))

pub returns-else-spot-passed-clause-held : goal.returns-else-spot-passed-clause-held
returns-else-spot-passed-clause-held c = λ hold.
    none_acked c.args.store.now c.find-spot.result.index c.args.position hold c.passed.ensures.within c.find-spot.ensures.next (omega (arith, c.if-spot-passed.false, c.passed.ensures.value))
