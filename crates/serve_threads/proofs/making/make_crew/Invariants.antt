use Rattle.std.specs.List.{AllByRecursion}
use Rattle.std.proofs.Common.{◌≤◌, ◌++◌, ℕ, List}
use Rattle.rs_wire.specs.declared.settings.Settings.{Settings}
use Rattle.serve_slots.specs.Callers.{AreCallersOf, HaveSettings, Placed}
use Rattle.serve_threads.specs.Making.{AreMade, HasWorkerAt, working}
use Rattle.serve_threads.specs.Threads.{IsNewCaller, IsReady}
use Rattle.serve_threads.proofs.making.make_crew.Given as goal

abbrev pub invariant-loop : goal.invariant-loop
invariant-loop g l = record {
  of : AreCallersOf l.connections l.mains;
  fronts : AllByRecursion IsNewCaller l.fn.mains → AllByRecursion IsNewCaller l.mains;
  made : (others : List Placed) → AreMade l.connections l.fn.mains (others ++ working l.fn.workers.items) → AreMade l.connections l.mains (others ++ working l.workers.items);
  ready : (h : Settings) → HaveSettings h l.connections → AllByRecursion IsNewCaller l.fn.mains → AllByRecursion (IsReady h l.connections) l.fn.workers.items → AllByRecursion (IsReady h l.connections) l.workers.items;
  kept : (at : ℕ) → HasWorkerAt at l.fn.workers.items → HasWorkerAt at l.workers.items;
  there : 1 ≤ l.counter → HasWorkerAt l.slot l.workers.items;
}
