use Rattle.std.proofs.Common.{◌-◌, length, arith}
use Rattle.position.proofs.Boundaries.{boundary-le}
use Rattle.replay_buffer.specs.Stored.{floor_of, frames_of}
use Rattle.replay_buffer.proofs.Boundaries.{rising_more}
use Rattle.replay_buffer.proofs.Found.{boundary_is, last_here}
use Rattle.replay_buffer.proofs.Known.{first_here, known}
use Rattle.replay_buffer.proofs.Shown.{next}
use Rattle.replay_buffer.proofs.store.Store.find.Goals as goal

pub returns-then-position-self-clause-start : goal.returns-then-position-self-clause-start
returns-then-position-self-clause-start c = λ start.
    let v = c.args.self.now in
    let k = known _ _ c.self.invariant c.self.view_is in
    omega (arith, k.whole, boundary-le length (frames_of v) (c.args.position - floor_of v) start.1, start.0, c.if-position-self.true)

pub returns-then-position-self-2-clause-at : goal.returns-then-position-self-2-clause-at
returns-then-position-self-2-clause-at c = first_here _ _ c.first.result (known _ _ c.self.invariant c.self.view_is) c.first.ensures

pub returns-then-position-self-2-clause-next : goal.returns-then-position-self-2-clause-next
returns-then-position-self-2-clause-next c = λ j more le.
    let v = c.args.self.now in
    let k = known _ _ c.self.invariant c.self.view_is in
    last_here (floor_of v) (frames_of v) 0 c.args.position (omega (arith, c.if-position-self-2.true, k.floor, rising_more (frames_of v) 0 k.longer (omega (arith, more, le)))) j (omega (arith, more)) le

pub returns-then-position-self-3-clause-at : goal.returns-then-position-self-3-clause-at
returns-then-position-self-3-clause-at c = (known _ _ c.self.invariant c.self.view_is).near

pub returns-then-position-self-3-clause-next : goal.returns-then-position-self-3-clause-next
returns-then-position-self-3-clause-next c = λ j more le.
    let v = c.args.self.now in
    let k = known _ _ c.self.invariant c.self.view_is in
    let i = c.self.inside.near.index in
    last_here (floor_of v) (frames_of v) i c.args.position (omega (arith, c.if-position-self-3.true, k.near.start, rising_more (frames_of v) i k.longer (omega (arith, more, le)), (next (frames_of v) i).same)) j more le

pub returns-clause-start : goal.returns-clause-start
returns-clause-start c = λ start.
    let v = c.args.self.now in
    boundary_is (floor_of v) v.base (frames_of v) c.walk.result c.args.position c.walk.ensures.at (λ some. c.walk.ensures.low) c.walk.ensures.next start.0 start.1
