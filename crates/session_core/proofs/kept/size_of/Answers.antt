use Rattle.std.proofs.Common.{refl, arith}
use Rattle.std.proofs.lemmas.Grind.{common_steps}
use Rattle.position.specs.Boundaries.{pos_by}
use Rattle.session_core.proofs.Keeping.{next_size}
use Rattle.session_core.proofs.kept.size_of.Goals as goal

pub loop-frame-init : goal.loop-frame-init
unfolding pos_by
loop-frame-init c = refl

pub loop-frame-preserved : goal.loop-frame-preserved
loop-frame-preserved c =
    next_size c.args.frames.now c.loop-frame.frame-index c.loop-frame.size c.in_ok-size.size c.frame-item.result c.loop-frame-test.true c.frame-item.is c.loop-frame.invariant (grind (arith, common_steps))
