use Rattle.std.proofs.Common.{refl, arith}
use Rattle.replay_buffer.specs.Stored.{floor_of, frames_of}
use Rattle.replay_buffer.proofs.Known.{known, stepped}
use Rattle.replay_buffer.proofs.Walked.{all_reached, not_reached, walks}
use Rattle.replay_buffer.proofs.store.Store.place_after.Goals as goal

pub overflow_sub-framed : goal.overflow_sub-framed
overflow_sub-framed c =
    let v = c.args.self.now in
    let k = known _ _ c.self.invariant c.self.view_is in
    let to = c.in-Some.ensures.at (floor_of v) v.base (frames_of v) k.marked in
    (stepped _ v _ _ _ _ k c.loop-next.invariant.at.start to.start (omega (arith, c.in-Some.ensures.later)) to.within).rises

pub overflow_mul-framed : goal.overflow_mul-framed
overflow_mul-framed c =
    let v = c.args.self.now in
    let k = known _ _ c.self.invariant c.self.view_is in
    let to = c.in-Some.ensures.at (floor_of v) v.base (frames_of v) k.marked in
    let far = stepped _ v _ _ _ _ k c.loop-next.invariant.at.start to.start (omega (arith, c.in-Some.ensures.later)) to.within in
    omega (arith, far.top)

pub overflow_add-framed : goal.overflow_add-framed
overflow_add-framed c =
    let v = c.args.self.now in
    let k = known _ _ c.self.invariant c.self.view_is in
    let to = c.in-Some.ensures.at (floor_of v) v.base (frames_of v) k.marked in
    let far = stepped _ v _ _ _ _ k c.loop-next.invariant.at.start to.start (omega (arith, c.in-Some.ensures.later)) to.within in
    omega (arith, far.top)

pub loop-next-preserved : goal.loop-next-preserved
loop-next-preserved c =
    let v = c.args.self.now in
    let k = known _ _ c.self.invariant c.self.view_is in
    let to = c.in-Some.ensures.at (floor_of v) v.base (frames_of v) k.marked in
    let far = stepped _ v _ _ _ _ k c.loop-next.invariant.at.start to.start (omega (arith, c.in-Some.ensures.later)) to.within in
    walks v c.args.from c.args.count c.loop-next.spot c.in-Some.next c.loop-next.skip _ k.longer c.loop-next.invariant
    (omega (arith, c.in-Some.ensures.later)) to refl (omega (arith, c.if-framed-skip.false)) far.rises

pub next-next-requires-clause-at : goal.next-next-requires-clause-at
next-next-requires-clause-at c = c.loop-spot.invariant.at

pub overflow_add-framed-in-loop-spot : goal.overflow_add-framed-in-loop-spot
overflow_add-framed-in-loop-spot c =
    let v = c.args.self.now in
    let k = known _ _ c.self.invariant c.self.view_is in
    let e = c.next-next.ensures in
    let s = stepped _ v _ _ _ _ k c.loop-spot.invariant.at.start e.at.start (omega (arith, e.index)) e.at.within in
    omega (arith, s.top, e.index)

pub loop-spot-preserved : goal.loop-spot-preserved
loop-spot-preserved c =
    let v = c.args.self.now in
    let k = known _ _ c.self.invariant c.self.view_is in
    let e = c.next-next.ensures in
    walks v c.args.from c.args.count c.loop-spot.spot c.next-next.result c.loop-spot.skip _ k.longer c.loop-spot.invariant
    (omega (arith, e.index)) e.at (omega (arith, e.index)) (omega (arith, c.if-skip-framed.false)) (omega (arith, e.later))

pub returns-after-loop-spot-clause-last : goal.returns-after-loop-spot-clause-last
returns-after-loop-spot-clause-last c = λ p start above.
    let v = c.args.self.now in
    let k = known _ _ c.self.invariant c.self.view_is in
    absurd (omega (arith, above, all_reached v c.loop-spot.spot.index c.loop-spot.spot.position p c.loop-spot.invariant.at.start (omega (arith, k.many, c.frames.ensures)) start))

pub returns-then-skip-framed-clause-last : goal.returns-then-skip-framed-clause-last
returns-then-skip-framed-clause-last c =
    let v = c.args.self.now in
    let k = known _ _ c.self.invariant c.self.view_is in
    let e = c.next-next.ensures in
    not_reached v c.args.from c.args.count c.loop-spot.spot c.next-next.result c.loop-spot.skip _ k.longer c.loop-spot.invariant e.at e.index refl c.if-skip-framed.true
