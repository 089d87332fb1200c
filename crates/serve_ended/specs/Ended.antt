-- All slots of a server, when its links and its workers have ended. A place has a row of callers, one of each slot; links came to the first places.
use Rattle.std.specs.Prelude.{◌≡◌, ◌≢◌, ◌≤◌, ◌⊎◌, ℕ, Bool, List, [], ◌∷◌, length, slice_get, Option, Some, None, IfSome, is_some}
use Rattle.std.specs.List.{AllByRecursion}
use Rattle.rs_wire.specs.declared.call.Call.{Call}
use Rattle.rs_wire.specs.declared.settings.Settings.{Settings}
use Rattle.outside.specs.Links.{Shown}
use Rattle.session_model.specs.Legal.{Fair, Legal}
use Rattle.conn_lock.specs.Callers.{calls, times}
use Rattle.conn_shared.specs.Lines.{who_of}
use Rattle.conn_shared.specs.Members.{Knowledge}
use Rattle.handlers.specs.Listed.{Listed}
use Rattle.workers.specs.declared.job.OpenJob.{OpenJob}
use Rattle.workers.specs.Courses.{IsNoWork}
use Rattle.workers.specs.Serving.{Serving}
use Rattle.server.specs.Attending.{KeepsWork}
use Rattle.server.specs.Opening.{fronts}
use Rattle.serve_model.specs.Names.{Under}
use Rattle.serve_laws.specs.Knowing.{HasNoMore, KnowsRow, KnowsWork}
use Rattle.serve_links.specs.Callers.{IsNewCaller, numbers}
use Rattle.serve_fold.specs.Slots.{EndsSlot, jobs_in}

-- the caller of slot i in the row of place k
abbrev pub IsAt : List (List Knowledge) → ℕ → ℕ → Knowledge → Type 0
IsAt places k i c = (row : List Knowledge) × (slice_get places k ≡ Some row) × (slice_get row i ≡ Some c)

-- the numbers of the callers of the links
abbrev pub rows_of : List Shown → List (List Knowledge) → List (List ℕ)
rows_of [] places = []
rows_of (link ∷ links) [] = []
rows_of (link ∷ links) (row ∷ places) = numbers row ∷ rows_of links places

-- The callers of all places, as the links left them: where a link came its callers know what they did for it, and where none came they did nothing. Of other
-- slots than their own none made a call of a worker.
pub record LinksEnded (g : Settings) (moments : Option (List ℕ)) (lease : Option Call) (many : ℕ) (places : List (List Knowledge)) (links : List Shown) : Type 0 where
  pub each : length places ≡ many
  pub rows : (k : ℕ) (row : List Knowledge) → slice_get places k ≡ Some row → length row ≡ many
  pub few : length links ≤ many
  pub served : (k : ℕ) (row : List Knowledge) (link : Shown) → slice_get places k ≡ Some row → slice_get links k ≡ Some link → KnowsRow g moments lease k (numbers row) (fronts row) link
  pub vacant : (k : ℕ) (row : List Knowledge) → slice_get places k ≡ Some row → slice_get links k ≡ None → AllByRecursion IsNewCaller row
  pub named : (k i : ℕ) (c : Knowledge) → IsAt places k i c → c.names ≡ c.number ∷ []
  pub idle : (k i : ℕ) (c : Knowledge) → k ≢ i → IsAt places k i c → Under c.names (λ x. IsNoWork x.event) c.front

-- One slot: the caller of its own place took in the main caller and those of the other places, and ended it.
pub record SlotEnded (g : Settings) (routes : List Listed) (places : List (List Knowledge)) (i : ℕ) (last : Knowledge) : Type 0 where
  pub helps : Bool
  pub own : Knowledge
  pub main : Knowledge
  pub others : List Knowledge
  pub workers : List Knowledge
  pub mid : Knowledge
  pub closed : Knowledge
  pub rest : Knowledge
  pub ends : EndsSlot helps own others workers mid closed rest last
  pub own_is : IsAt places i i own
  pub new : IsNewCaller main
  pub others_are : (k : ℕ) (c : Knowledge) → slice_get others k ≡ Some c → ((k ≡ i) × (c ≡ main)) ⊎ ((k ≢ i) × IsAt places k i c)
  pub all_in : (k : ℕ) (c : Knowledge) → k ≢ i → IsAt places k i c → slice_get others k ≡ Some c
  -- its list is the whole tape
  pub legal : Legal g last.front
  pub fair : Fair g last.front
  pub named : (x : ℕ) → times x last.names ≡ 0 → calls who_of x last.front ≡ 0
  -- the jobs in its work, before and after
  pub was : Option (List OpenJob)
  pub now : Option (List OpenJob)
  pub helped : helps ≡ is_some was
  pub keeps : KeepsWork closed.names routes closed.front rest.front was now
  pub empty : IfSome now (λ work. work ≡ [])
  pub begun : Serving own.names own.front routes (jobs_in was)
  -- its workers, one of which found no more jobs
  pub work : AllByRecursion (λ (k : Knowledge). KnowsWork routes k.names k.front) workers
  pub place : ℕ
  pub worker : Knowledge
  pub is : slice_get workers place ≡ Some worker
  pub no_more : HasNoMore g worker.front
