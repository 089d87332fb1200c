use Rattle.replay_buffer.proofs.Walked.{Walks}
use Rattle.replay_buffer.proofs.store.Store.place_after.Given as goal

abbrev pub invariant-loop-next : goal.invariant-loop-next
invariant-loop-next l = Walks l.self l.from l.count l.spot l.skip

abbrev pub decreases-loop-next : goal.decreases-loop-next
decreases-loop-next l = l.skip

abbrev pub invariant-loop-spot : goal.invariant-loop-spot
invariant-loop-spot l = Walks l.self l.from l.count l.spot l.skip

abbrev pub decreases-loop-spot : goal.decreases-loop-spot
decreases-loop-spot l = l.skip
