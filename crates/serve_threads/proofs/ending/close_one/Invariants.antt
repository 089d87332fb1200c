use Rattle.std.proofs.Common.{◌≡◌}
use Rattle.pump.specs.Turns.{GoesOn}
use Rattle.serve_threads.specs.Ending.{IsEnding}
use Rattle.serve_threads.proofs.ending.close_one.Given as goal

abbrev pub invariant-loop : goal.invariant-loop
invariant-loop g l = l.caller ≡ record l.fn.caller { front = l.caller.front; note = l.caller.note }
    × GoesOn IsEnding l.fn.caller l.caller.front
