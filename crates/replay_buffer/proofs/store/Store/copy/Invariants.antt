use Rattle.std.proofs.Common.{◌-◌, length}
use Rattle.replay_buffer.specs.Stored.{frames_of}
use Rattle.replay_buffer.proofs.Copied.{Copies}
use Rattle.replay_buffer.proofs.store.Store.copy.Given as goal

abbrev pub invariant-loop-spot : goal.invariant-loop-spot
invariant-loop-spot l = Copies l.self l.from l.fn.skip l.fn.buffer l.buffer l.spot l.skip l.written

abbrev pub decreases-loop-spot : goal.decreases-loop-spot
decreases-loop-spot l = length (frames_of l.self) - l.spot.index
