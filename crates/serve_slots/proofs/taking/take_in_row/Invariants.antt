use Rattle.std.proofs.Common.{◌≡◌, List, ◌++◌, length}
use Rattle.std.specs.List.{AllByRecursion}
use Rattle.serve_slots.specs.Callers.{AreCallersOf, IsAtSlot, Placed, TookIn, placed}
use Rattle.serve_slots.proofs.taking.take_in_row.Given as goal

abbrev pub invariant-loop-caller : goal.invariant-loop-caller
invariant-loop-caller g l = (done : List Placed) × TookIn l.fn.mains done l.mains
    × (placed 0 l.fn.row.items ≡ done ++ placed 0 l.row.items)
    × AreCallersOf l.connections l.mains
    × AllByRecursion (IsAtSlot l.connections) (placed 0 l.row.items)

abbrev pub decreases-loop-caller : goal.decreases-loop-caller
decreases-loop-caller g l = length l.row.items
