use Rattle.std.proofs.Common.{arith}
use Rattle.replay_buffer.specs.Stored.{frames_of}
use Rattle.replay_buffer.proofs.Known.{known}
use Rattle.replay_buffer.proofs.Stored.{length-framed_all}
use Rattle.replay_buffer.proofs.store.Store.framed_total.Goals as goal

pub returns-clause-value : goal.returns-clause-value
returns-clause-value c =
    let k = known _ _ c.self.invariant c.self.view_is in
    omega (arith, length-framed_all (frames_of c.args.self.now), k.whole, k.many, k.floor, c.frames.ensures)
