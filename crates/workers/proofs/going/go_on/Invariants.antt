use Rattle.std.proofs.Common.{◌≡◌, [], ◌∷◌}
use Rattle.std.specs.Prelude.{IfSome}
use Rattle.workers.specs.Courses.{HasSent}
use Rattle.workers.specs.Going.{HasGone, HasWorked, IsSameJob}
use Rattle.workers.proofs.Within.{HasRoom}
use Rattle.workers.proofs.going.go_on.Given as goal

abbrev pub invariant-loop : goal.invariant-loop
invariant-loop g l = record {
  same : l.caller ≡ record l.fn.caller { front = l.caller.front; note = l.caller.note };
  job : IsSameJob l.fn.job l.job;
  worked : HasWorked l.fn.caller.names l.fn.caller.number l.fn.caller.front l.caller.front l.fn.job l.job;
  sent : HasSent l.fn.caller.names l.fn.caller.front l.caller.front l.sent;
  room : IfSome l.tools.most (λ most. HasRoom l.fn.caller.names most l.fn.caller.front l.caller.front l.sent);
  gone : HasGone l.fn.caller.names l.tools.routes.now l.fn.caller.front l.caller.front l.fn.job (l.job ∷ []);
}
