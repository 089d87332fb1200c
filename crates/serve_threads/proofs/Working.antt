-- The end of a worker.
use Rattle.std.proofs.Common.{◌≡◌, ◌∙◌, ℕ, true, List, [], get_or, refl, sym, ap, subst}
use Rattle.rs_wire.specs.declared.settings.Settings.{Settings}
use Rattle.tape.specs.declared.entry.Entry.{Entry}
use Rattle.handlers.specs.Listed.{Listed}
use Rattle.workers.specs.declared.job.OpenJob.{OpenJob}
use Rattle.workers.specs.declared.worked.Worked.{Worked}
use Rattle.workers.specs.declared.worked.Worked.TheVariants as worked
use Rattle.workers.specs.Causes.{CauseOfWorked}
use Rattle.conn_shared.specs.Members.{Knowledge, SharedId}
use Rattle.pump.specs.Turns.{GoesOn}
use Rattle.workers.specs.Serving.{Serving}
use Rattle.workers.proofs.Calling.{serving_begins}
use Rattle.server.specs.Attending.{IsHelped}
use Rattle.serve_slots.proofs.Lists.{got_or}
use Rattle.serve_threads.specs.Threads.{HasNoMore, IsDone, IsOver, IsReady}
use Rattle.serve_threads.specs.declared.worker.Worker.{Worker}

pub none_left : (w : Worked) (work : List OpenJob) → IsOver w work → work ≡ []
none_left (worked.NoMore a) work over = over
none_left _ work over = absurd over

pub no_more : (g : Settings) (routes : List Listed) (names : List ℕ) (number : ℕ) (old new : List Entry) (was now : List OpenJob) (w : Worked) → IsOver w now → CauseOfWorked g routes names number old new was now w → HasNoMore g new
no_more g routes names number old new was now (worked.NoMore a) over cause = record { number = number; old = old; met = a; no_more = cause.1 }
no_more g routes names number old new was now _ over cause = absurd over

-- its caller is of the connection at its slot
pub ready_of : {T : Type 0} (g : Settings) (ids : List SharedId) (w : Worker T) (id : SharedId) → IsReady g ids w → get_or ids w.slot id ≡ id → w.caller.of ≡ id
ready_of g ids w id r is = sym (got_or ids w.slot id w.caller.of r.at) ∙ is

pub worker_done : {T : Type 0} (g : Settings) (ids : List SharedId) (routes : List Listed) (v w : Worker T) (id : SharedId) → IsReady g ids v → v.caller.of ≡ id → w.slot ≡ v.slot
    → w.caller ≡ record v.caller { front = w.caller.front; note = w.caller.note } → GoesOn (IsHelped true) v.caller w.caller.front → HasNoMore id.settings w.caller.front
    → (Serving v.caller.names v.caller.front routes [] → Serving v.caller.names w.caller.front routes []) → IsDone g routes v w
worker_done g ids routes v w id r of slot same goes none_comes kept = record {
  slot = slot;
  off = record { same = same; goes = goes; no_more = subst (λ (h : Settings). HasNoMore h w.caller.front) (sym (ap (λ (x : SharedId). x.settings) of) ∙ r.settings) none_comes };
  serving = subst (λ (names : List ℕ). Serving names w.caller.front routes []) (sym (ap (λ (k : Knowledge). k.names) same))
      (kept (subst (λ (past : List Entry). Serving v.caller.names past routes []) (sym r.new.front) (serving_begins v.caller.names [] routes (λ n named. refl))));
}
