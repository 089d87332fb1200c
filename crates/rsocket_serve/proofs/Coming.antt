-- What came of a server that listened.
use Rattle.std.proofs.Common.{◌≡◌, ℕ, List, Option, Result, Ok, Err, inr, refl, ap, subst}
use Rattle.rs_wire.specs.declared.settings.Settings.{Settings}
use Rattle.handlers.specs.Listed.{Listed}
use Rattle.outside.specs.Causes.{Rose}
use Rattle.tape.specs.declared.entry.Entry.{Entry}
use Rattle.server.specs.declared.served.Served.{Served}
use Rattle.serve.specs.Links.{NetShown}
use Rattle.serve.specs.Whole.{Serves}
use Rattle.serve.specs.declared.plan.ServeFault.{ServeFault}
use Rattle.serve.specs.declared.plan.ServeFault.TheVariants as faults
use Rattle.serve.specs.declared.plan.ServePlan.{ServePlan}
use Rattle.rsocket_serve.specs.Came.{HasCome}
use Rattle.rsocket_serve.specs.Served.{ServesFor, listened, plan_for, settings_for}
use Rattle.command_line.specs.declared.serve_task.ServeTask.{ServeTask}

module _ (t : ServeTask) (routes : List Listed) (moments : Option (List ℕ)) (shelf shelf' : List (Option (List Entry))) (net net' : NetShown) where
  came : (r : Result (List Served) ServeFault) → ServesFor t routes moments shelf shelf' net net' r → (r ≡ Err faults.Net → Rose net.faults net'.faults) → HasCome t routes moments shelf shelf' net net' r
  came (Ok list) serves rose = serves
  came (Err faults.Net) serves rose = (inr serves, rose refl)
  came (Err faults.OutOfMemory) serves rose = tt

  -- the same of the settings, the plan and the net that it was called with
  pub came_over : (g : Settings) (plan : ServePlan) (mid : NetShown) (r : Result (List Served) ServeFault) → g ≡ settings_for t → plan ≡ plan_for t → mid ≡ listened t net → Serves g plan routes moments shelf shelf' mid net' r → (r ≡ Err faults.Net → Rose mid.faults net'.faults) → HasCome t routes moments shelf shelf' net net' r
  came_over g plan mid r settings planned heard serves rose =
      came r (subst (λ u. Serves u (plan_for t) routes moments shelf shelf' (listened t net) net' r) settings
      (subst (λ p. Serves g p routes moments shelf shelf' (listened t net) net' r) planned
      (subst (λ m. Serves g plan routes moments shelf shelf' m net' r) heard serves)))
      (λ is. subst (λ f. Rose f net'.faults) (ap (λ m. m.faults) heard) (rose is))
