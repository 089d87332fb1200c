use Rattle.std.proofs.Common.{◌≡◌}
use Rattle.workers.specs.Serving.{AreRouted}
use Rattle.workers_tests.proofs.trial.act_all.Given as goal

abbrev pub invariant-loop-next : goal.invariant-loop-next
invariant-loop-next g l = record {
  of : l.caller.of ≡ l.connection;
  routed : AreRouted l.routes l.work;
}
