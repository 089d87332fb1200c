use Rattle.std.proofs.Common.{◌≡◌, length}
use Rattle.workers.specs.Causes.{IsHindered, IsWaiting}
use Rattle.workers.specs.Courses.{GoesOn, IsWorkersCall}
use Rattle.workers.specs.Serving.{AreRouted, Serving}
use Rattle.workers.specs.declared.job.OpenJob.{OpenJob}
use Rattle.workers.specs.Going.{Keeps, StoodIn}
use Rattle.workers.proofs.AtWork.{AreFirst}
use Rattle.workers.proofs.serve.serve.Given as goal

abbrev pub invariant-loop-place : goal.invariant-loop-place
invariant-loop-place g l = record {
  same : l.caller ≡ record l.fn.caller { front = l.caller.front; note = l.caller.note };
  quiet : GoesOn IsWorkersCall l.fn.caller.names l.fn.caller.number l.fn.caller.front l.caller.front 0;
  routed : AreRouted l.tools.routes.now l.jobs.items;
  kept : Keeps l.fn.caller.names l.tools.routes.now l.fn.caller.front l.caller.front l.fn.jobs.items l.jobs.items;
  many : length l.jobs.items ≡ l.count;
  tried : AreFirst (IsHindered l.tools.connection.now.settings l.tools.routes.now l.fn.caller.number l.fn.caller.front l.caller.front) l.place l.jobs.items;
  waits : Serving l.fn.caller.names l.fn.caller.front l.tools.routes.now l.fn.jobs.items
      → AreFirst (IsWaiting l.tools.connection.now.settings l.tools.routes.now l.fn.caller.names l.fn.caller.number l.fn.caller.front l.caller.front) l.place l.jobs.items;
  stood : (x : OpenJob) → StoodIn l.jobs.items x → StoodIn l.fn.jobs.items x;
}
