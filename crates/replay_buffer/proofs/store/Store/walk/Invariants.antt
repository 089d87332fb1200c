use Rattle.std.proofs.Common.{◌-◌, ◌≤◌, length}
use Rattle.replay_buffer.specs.Marked.{IsAt}
use Rattle.replay_buffer.specs.Stored.{floor_of, frames_of}
use Rattle.replay_buffer.proofs.store.Store.walk.Given as goal

abbrev pub invariant-loop-spot : goal.invariant-loop-spot
invariant-loop-spot l = IsAt (floor_of l.self) l.self.base (frames_of l.self) l.spot × (l.spot.position ≤ l.position)

abbrev pub decreases-loop-spot : goal.decreases-loop-spot
decreases-loop-spot l = length (frames_of l.self) - l.spot.index
