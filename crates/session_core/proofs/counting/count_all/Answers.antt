use Rattle.std.proofs.Common.{arith, ap}
use Rattle.session_model.specs.declared.facts.Counted.{Counted}
use Rattle.session_core.proofs.Sums.{none_counted, one_counted, pos_take}
use Rattle.session_core.proofs.counting.count_all.Goals as goal

pub loop-frame-init : goal.loop-frame-init
loop-frame-init c = none_counted c.args.counted.now

pub count-requires-clause-position : goal.count-requires-clause-position
count-requires-clause-position c =
    let p = pos_take c.args.frames.now c.loop-frame.frame-index in
    let i = ap (λ (t : Counted). t.position) c.loop-frame.invariant in
    omega (arith, c.requires.position)

pub loop-frame-preserved : goal.loop-frame-preserved
loop-frame-preserved c = rw c.count.ensures (one_counted c.args.counted.now c.loop-frame.counted c.args.frames.now c.loop-frame.frame-index c.frame-item.result c.loop-frame-test.true c.frame-item.is c.loop-frame.invariant)
