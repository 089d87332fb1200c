-- What a server's callers know of their own entries, and what is known of a slot once they are taken in. Entries stand newest first.
use Rattle.std.specs.Prelude.{◌≡◌, ◌<◌, ◌≤◌, ◌⊎◌, ℕ, true, false, List, [], ◌∷◌, ◌++◌, length, slice_get, Option, Some}
use Rattle.rs_wire.specs.declared.call.Call.{Call}
use Rattle.rs_wire.specs.declared.call.Call.TheVariants as call
use Rattle.rs_wire.specs.declared.settings.Settings.{Settings}
use Rattle.outside.specs.Links.{Shown}
use Rattle.tape.specs.declared.answer.Answer.{Answer}
use Rattle.tape.specs.declared.event.Event.{Event}
use Rattle.tape.specs.declared.event.Event.TheVariants as event
use Rattle.tape.specs.declared.entry.Entry.{Entry}
use Rattle.session_model.specs.Legal.{Fair, Legal}
use Rattle.link_model.specs.Carrying.{IsAlone}
use Rattle.link_laws.specs.Staying.{asks_close}
use Rattle.link_laws.specs.Unopened.{Unopened}
use Rattle.conn_lock.specs.Callers.{times}
use Rattle.handlers.specs.Listed.{Listed}
use Rattle.workers.specs.Causes.{IsNoMore}
use Rattle.workers.specs.Courses.{IsNoWork, IsWorkersCall}
use Rattle.workers.specs.Serving.{Serving}
use Rattle.server.specs.Attending.{AreFewTicks}
use Rattle.serve_model.specs.Counts.{opened_by, since_open}
use Rattle.serve_model.specs.Links.{KnowsLink}
use Rattle.serve_model.specs.Names.{AreNamed, GoesOnBy, Under}
use Rattle.serve_model.specs.Order.{IsHandledByOwner, is_opening}
use Rattle.serve_laws.specs.Tapes.{IsOfLink, IsServersEvent, number_at}
use Rattle.serve_laws.specs.Links.{MayOpen, OpensBy, accepted_in, opens_in}

-- ---- the callers of a link, when it was served

-- What the caller of number n did at slot i for link k, by what it has seen; `fronts` are those of the link's callers at all slots.
pub record KnowsAt (g : Settings) (moments : Option (List ℕ)) (lease : Option Call) (fronts : List (List Entry)) (k i n : ℕ) (front : List Entry) (link : Shown) : Type 0 where
  pub kinds : Under (n ∷ []) (λ x. IsServersEvent moments lease x.event) front
  pub no_close : Under (n ∷ []) (λ x. asks_close x.event ≡ false) front
  pub handled : Under (n ∷ []) (IsHandledByOwner front) front
  pub opens : Under (n ∷ []) (λ x. OpensBy (MayOpen g fronts k i link) x.event) front
  pub linked : (c : ℕ) → 0 < opened_by n c front → KnowsLink g lease n c front link
  pub ticks : ((c : ℕ) → 0 < opened_by n c front → IsAlone c n front) → AreFewTicks (n ∷ []) (since_open n front) link

-- The same at each slot: a number and a front for each.
pub record KnowsRow (g : Settings) (moments : Option (List ℕ)) (lease : Option Call) (k : ℕ) (row : List ℕ) (fronts : List (List Entry)) (link : Shown) : Type 0 where
  pub each : length row ≡ length fronts
  pub at : (i n : ℕ) (front : List Entry) → slice_get row i ≡ Some n → slice_get fronts i ≡ Some front → KnowsAt g moments lease fronts k i n front link
  pub once : opens_in row fronts ≤ 1
  pub unopened : accepted_in row fronts ≡ 0 → Unopened g moments fronts link

-- ---- callers that are taken in

-- What callers with these names know of their own entries at slot i, before any of them asks for the end.
pub record KnowsOwn (moments : Option (List ℕ)) (lease : Option Call) (rows : List (List ℕ)) (i : ℕ) (names : List ℕ) (front : List Entry) : Type 0 where
  pub kinds : Under names (λ x. IsServersEvent moments lease x.event) front
  pub no_close : Under names (λ x. asks_close x.event ≡ false) front
  pub handled : Under names (IsHandledByOwner front) front
  pub opened : Under names (λ x. is_opening x.event ≡ true → IsOfLink rows i x.who) front

-- a call of a worker
abbrev pub IsWorkersEvent : Event → Type 0
IsWorkersEvent (event.Asked asked) = IsWorkersCall asked
IsWorkersEvent _ = ⊥

-- what the last caller of a slot adds: it asks for the end, cuts, and answers the jobs that are left
abbrev pub IsEndingEvent : Event → Type 0
IsEndingEvent (event.Asked call.Close) = Unit {0}
IsEndingEvent (event.Cut conn) = Unit {0}
IsEndingEvent e = IsWorkersEvent e

-- ---- workers

-- What workers with these names know: they made calls of workers alone, and each keeps its statement, with no job left in its work.
pub record KnowsWork (routes : List Listed) (workers : List ℕ) (front : List Entry) : Type 0 where
  pub works : Under workers (λ x. IsWorkersEvent x.event) front
  pub served : (m : ℕ) → 0 < times m workers → Serving (m ∷ []) front routes []

-- TakeJob was refused, or met a full tape: no more jobs come
abbrev pub HasNoMore : Settings → List Entry → Type 0
HasNoMore g past = (n : ℕ) × (old : List Entry) × (a : Answer) × IsNoMore g n old past a

-- ---- one slot

-- Slot i, once all its callers are taken in: when those of the links were in, under these names, the list was `mid`.
pub record KnowsSlot (g : Settings) (moments : Option (List ℕ)) (lease : Option Call) (rows : List (List ℕ)) (i : ℕ) (names workers : List ℕ) (mid past : List Entry) : Type 0 where
  pub legal : Legal g past
  pub fair : Fair g past
  pub named : AreNamed (names ++ workers) past
  pub own : KnowsOwn moments lease rows i names mid
  pub ends : GoesOnBy names (λ x. IsEndingEvent x.event) mid past
  pub works : Under workers (λ x. IsWorkersEvent x.event) past
  pub apart : (k l n : ℕ) → number_at rows k i ≡ Some n → number_at rows l i ≡ Some n → k ≡ l

-- And its jobs: of the callers of the links the one of number n alone made calls of a worker, and no job is left.
pub record KnowsJobs (g : Settings) (routes : List Listed) (names workers : List ℕ) (n : ℕ) (past : List Entry) : Type 0 where
  pub there : 0 < times n names
  pub one : Under names (λ x. IsNoWork x.event ⊎ (x.who ≡ n)) past
  pub served : Serving names past routes []
  pub work : KnowsWork routes workers past
  pub no_more : HasNoMore g past

-- The caller of number n, whose front this is, was taken in at slot i, whose tape is `past`.
pub record WasTakenIn (g : Settings) (moments : Option (List ℕ)) (lease : Option Call) (rows : List (List ℕ)) (i n : ℕ) (front past : List Entry) : Type 0 where
  pub names : List ℕ
  pub workers : List ℕ
  pub mid : List Entry
  pub slot : KnowsSlot g moments lease rows i names workers mid past
  pub there : 0 < times n names
  -- until the callers of the links were in it added nothing more
  pub goes : GoesOnBy (n ∷ []) (λ x. ⊥) front mid
