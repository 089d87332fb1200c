use Rattle.std.proofs.Common.{◌≡◌, List, ◌++◌, length}
use Rattle.std.specs.List.{AllByRecursion}
use Rattle.serve_slots.specs.Callers.{AreCallersOf, IsAtSlot, Placed, TookIn}
use Rattle.serve_threads.specs.Making.{working}
use Rattle.serve.proofs.putting.take_in_workers.Given as goal

abbrev pub invariant-loop-worker : goal.invariant-loop-worker
invariant-loop-worker g l = (done : List Placed) × TookIn l.fn.mains done l.mains
    × (working l.fn.workers.items ≡ done ++ working l.workers.items)
    × AreCallersOf l.connections l.mains
    × AllByRecursion (IsAtSlot l.connections) (working l.workers.items)

abbrev pub decreases-loop-worker : goal.decreases-loop-worker
decreases-loop-worker g l = length l.workers.items
