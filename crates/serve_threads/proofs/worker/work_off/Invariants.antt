use Rattle.std.proofs.Common.{◌≡◌, true}
use Rattle.pump.specs.Turns.{GoesOn}
use Rattle.workers.specs.Serving.{AreRouted, Serving}
use Rattle.server.specs.Attending.{IsHelped}
use Rattle.serve_threads.proofs.worker.work_off.Given as goal

abbrev pub invariant-loop : goal.invariant-loop
invariant-loop g l = l.caller ≡ record l.fn.caller { front = l.caller.front; note = l.caller.note }
    × GoesOn (IsHelped true) l.fn.caller l.caller.front
    × AreRouted l.fn.routes l.work
    × (Serving l.fn.caller.names l.fn.caller.front l.fn.routes l.fn.work → Serving l.fn.caller.names l.caller.front l.fn.routes l.work)
