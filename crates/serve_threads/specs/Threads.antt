-- What is said of the places of links, and of workers, before and after their threads. Entries stand newest first.
use Rattle.std.specs.Prelude.{◌≡◌, ◌<◌, ℕ, Bool, true, false, List, [], ◌∷◌, length, Option, Some, None, IfSome, is_some}
use Rattle.std.specs.List.{AllByRecursion}
use Rattle.rs_wire.specs.declared.words.Side.TheVariants.{Server}
use Rattle.rs_wire.specs.declared.settings.Settings.{Settings}
use Rattle.outside.specs.Links.{IsNew, Shown}
use Rattle.outside.specs.declared.net.Ask.{Ask}
use Rattle.outside.specs.declared.net.NetFault.{NetFault}
use Rattle.tape.specs.declared.answer.Answer.{Answer}
use Rattle.tape.specs.declared.entry.Entry.{Entry}
use Rattle.conn_shared.specs.Members.{Knowledge, SharedId}
use Rattle.handlers.specs.Listed.{Listed}
use Rattle.workers.specs.declared.job.OpenJob.{OpenJob}
use Rattle.workers.specs.declared.worked.Worked.{Worked}
use Rattle.workers.specs.declared.worked.Worked.TheVariants as worked
use Rattle.workers.specs.Causes.{IsNoMore}
use Rattle.workers.specs.Serving.{Serving}
use Rattle.pump.specs.Turns.{GoesOn}
use Rattle.server.specs.Attending.{AreRoutedIn, IsHelped}
use Rattle.server.specs.Opening.{AreBack, AreOf}
use Rattle.server.specs.Serving.{Adds, IsCarried, IsLeft, IsUnopened, KeepsServing, Outcome, ServedFor}
use Rattle.serve_threads.specs.Asking.{WasMissed}
use Rattle.serve_threads.specs.declared.guest.Guest.{Guest}
use Rattle.serve_threads.specs.declared.worker.Worker.{Worker}
use Rattle.serve_slots.specs.Callers.{IsAtSlot}

-- ---- callers

-- a caller that was split off before anything happened
pub record IsNewCaller (k : Knowledge) : Type 0 where
  pub front : k.front ≡ []
  pub names : k.names ≡ k.number ∷ []

-- ---- links

-- A place to which no link came yet, with a new caller of each connection.
pub record IsVacant {L T : Type 0} (g : Settings) (ids : List SharedId) (p : Guest L T) : Type 0 where
  pub side : g.side ≡ Server
  pub slot : p.slot < length ids
  pub of : AreOf g ids p.row.items
  pub callers : AllByRecursion IsNewCaller p.row.items
  pub none : p.link ≡ None
  pub unmissed : p.missed ≡ None
  pub unanswered : p.answer ≡ None
  pub idle : IfSome p.work (λ work. work ≡ [])
  -- its link's own thread answers jobs only where no session may be resumed
  pub works : is_some p.work ≡ true → g.resume ≡ false

-- A new link came to it.
pub record IsArrived {L T : Type 0} (shown : L → Shown) (g : Settings) (ids : List SharedId) (p q : Guest L T) : Type 0 where
  pub vacant : IsVacant g ids p
  pub link : L
  pub came : q ≡ record p { link = Some link }
  pub new : IsNew (shown link)

-- Its link was served, which is there still.
pub record IsServed {L T : Type 0} (shown : L → Shown) (g : Settings) (moments : Option (List ℕ)) (grant : Option ℕ) (routes : List Listed) (p q : Guest L T) : Type 0 where
  pub link : L
  pub outcome : Outcome
  pub link_is : q.link ≡ Some link
  pub answer_is : q.answer ≡ Some outcome
  pub slot : q.slot ≡ p.slot
  pub unmissed : q.missed ≡ p.missed
  pub back : AreBack p.row.items q.row.items
  pub added : Adds g moments (is_some p.work) grant p.slot p.row.items q.row.items (shown link) outcome
  pub carried : IsCarried g q.row.items (shown link) outcome
  pub left : IsLeft g q.row.items (shown link) outcome
  pub unopened : IsUnopened g moments q.row.items (shown link) outcome
  pub cause : ServedFor g moments p.slot p.row.items q.row.items (shown link) outcome
  pub work : KeepsServing routes p.row.items q.row.items p.work q.work outcome
  pub routed : AreRoutedIn routes q.work

-- No link came to it, for this fault.
pub record IsMissed {N L T : Type 0} (asked : N → Option (List Ask)) (back : N → Option (List Shown)) (out faults : N → ℕ) (ws : Bool) (n m : N) (p q : Guest L T) : Type 0 where
  pub fault : NetFault
  pub wait : WasMissed L asked back out faults ws fault n m
  pub missed : q ≡ record p { missed = Some fault }

-- ---- workers

-- what a caller has seen that found no more jobs
pub record HasNoMore (g : Settings) (front : List Entry) : Type 0 where
  pub number : ℕ
  pub old : List Entry
  pub met : Answer
  pub no_more : IsNoMore g number old front met

-- a worker found no more jobs, and has none
abbrev pub IsOver : Worked → List OpenJob → Type 0
IsOver (worked.NoMore a) work = work ≡ []
IsOver _ work = ⊥

-- a worker with a caller of its connection
pub record IsReady {T : Type 0} (g : Settings) (ids : List SharedId) (w : Worker T) : Type 0 where
  pub at : IsAtSlot ids (w.slot, w.caller)
  pub settings : w.caller.of.settings ≡ g
  pub new : IsNewCaller w.caller

-- A caller served jobs to the end: no more come, and none that it got is left.
pub record WorkedOff (g : Settings) (routes : List Listed) (old new : Knowledge) : Type 0 where
  pub same : new ≡ record old { front = new.front; note = new.note }
  pub goes : GoesOn (IsHelped true) old new.front
  pub no_more : HasNoMore g new.front

-- a worker is done
pub record IsDone {T : Type 0} (g : Settings) (routes : List Listed) (v w : Worker T) : Type 0 where
  pub slot : w.slot ≡ v.slot
  pub off : WorkedOff g routes v.caller w.caller
  pub serving : Serving w.caller.names w.caller.front routes []
