use Rattle.std.proofs.Common.{length, take, ap, arith}
use Rattle.position.specs.Boundaries.{pos_by}
use Rattle.replay_buffer.specs.Stored.{frames_of}
use Rattle.replay_buffer.proofs.Found.{last_here}
use Rattle.replay_buffer.proofs.store.Store.walk.Goals as goal

pub returns-then-next-position-clause-next : goal.returns-then-next-position-clause-next
returns-then-next-position-clause-next c =
    let e = c.next-next.ensures in
    let same = ap (λ k. pos_by length (take k (frames_of c.args.self.now))) e.index in
    last_here _ _ c.loop-spot.spot.index c.args.position (omega (arith, c.if-next-position.true, e.at.start, same))
