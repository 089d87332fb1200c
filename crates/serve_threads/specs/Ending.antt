-- What is done when all links have ended. Entries stand newest first.
use Rattle.std.specs.Prelude.{◌≡◌, ◌+◌, ℕ, Bool, List, [], ◌∷◌, length, set, slice_get, Option, Some, IfSome, is_some}
use Rattle.std.specs.List.{AllByRecursion}
use Rattle.rs_wire.specs.declared.call.Call.TheVariants as call
use Rattle.rs_wire.specs.declared.settings.Settings.{Settings}
use Rattle.tape.specs.declared.event.Event.{Event}
use Rattle.tape.specs.declared.event.Event.TheVariants as event
use Rattle.conn_shared.specs.Members.{Knowledge, SharedId}
use Rattle.outside.specs.Links.{Shown}
use Rattle.outside.specs.declared.net.Ask.{Ask}
use Rattle.crew.specs.Places.{AreServed, Pairwise}
use Rattle.handlers.specs.Listed.{Listed}
use Rattle.pump.specs.Turns.{GoesOn}
use Rattle.server.specs.Attending.{AreRoutedIn, IsHelped, KeepsWork}
use Rattle.serve_slots.specs.Callers.{AreCallersOf, TookIn, all_placed}
use Rattle.serve_threads.specs.Asking.{AreAccepted}
use Rattle.serve_threads.specs.Threads.{IsMissed, IsServed}
use Rattle.serve_threads.specs.declared.guest.Guest.{Guest}

-- the rows of callers of these places
abbrev pub rows_of : {L T : Type 0} → List (Guest L T) → List (List Knowledge)
rows_of [] = []
rows_of (p ∷ places) = p.row.items ∷ rows_of places

-- ---- before

-- a place as its link, if one came, left it
pub record IsLeft {L T : Type 0} (ids : List SharedId) (routes : List Listed) (p : Guest L T) : Type 0 where
  pub of : AreCallersOf ids p.row.items
  pub routed : AreRoutedIn routes p.work

-- ---- who closes

-- From this slot on: the place of each slot gave its caller of that slot, which takes the others in from then on, for the main one.
abbrev pub Swapped : {L T : Type 0} → ℕ → List Knowledge → List (Guest L T) → List Knowledge → List (Guest L T) → Type 0
Swapped slot [] [] [] [] = Unit {0}
Swapped slot (m ∷ mains) (p ∷ places) (n ∷ news) (q ∷ left) =
    (slice_get p.row.items slot ≡ Some n) × (q.row.items ≡ set p.row.items slot m) × (q ≡ record p { row = q.row }) × Swapped (slot + 1) mains places news left
Swapped slot _ _ _ _ = ⊥

-- ---- taking in

-- the row of the place is taken in
abbrev pub IsEmptied : {L T : Type 0} → Guest L T → Guest L T → Type 0
IsEmptied p q = (q.row.items ≡ []) × (q ≡ record p { row = q.row })

-- ---- the end of the sessions

-- the end is asked for, or a connection is cut that could not be cut before
abbrev pub IsEnding : Event → Type 0
IsEnding (event.Asked asked) = asked ≡ call.Close
IsEnding (event.Cut conn) = Unit {0}
IsEnding _ = ⊥

pub record Ends (old new : Knowledge) : Type 0 where
  pub same : new ≡ record old { front = new.front; note = new.note }
  pub goes : GoesOn IsEnding old new.front

-- ---- jobs that are left

-- A caller served the jobs that were left in the work of a place, where there is one.
pub record ServesRest {L T : Type 0} (routes : List Listed) (old : Knowledge) (p : Guest L T) (new : Knowledge) (q : Guest L T) : Type 0 where
  pub same : new ≡ record old { front = new.front; note = new.note }
  pub goes : GoesOn (IsHelped (is_some p.work)) old new.front
  pub kept : KeepsWork old.names routes old.front new.front p.work q.work
  pub empty : IfSome q.work (λ work. work ≡ [])
  pub rest : q ≡ record p { work = q.work }

abbrev pub AllServeRest : {L T : Type 0} → List Listed → List Knowledge → List (Guest L T) → List Knowledge → List (Guest L T) → Type 0
AllServeRest routes [] [] [] [] = Unit {0}
AllServeRest routes (m ∷ mains) (p ∷ places) (n ∷ news) (q ∷ left) = ServesRest routes m p n q × AllServeRest routes mains places news left
AllServeRest routes _ _ _ _ = ⊥

-- ---- all of it

-- The callers of all links were taken in, then each session was closed, and then the jobs were served that were left.
pub record HasEnded {L T : Type 0} (routes : List Listed) (mains : List Knowledge) (places : List (Guest L T)) (mains' : List Knowledge) (places' : List (Guest L T)) : Type 0 where
  -- the callers that close, and the places without them
  pub own : List Knowledge
  pub given : List (Guest L T)
  pub swapped : Swapped 0 mains places own given
  -- when all were taken in
  pub mid : List Knowledge
  pub empty : List (Guest L T)
  pub took : TookIn own (all_placed (rows_of given)) mid
  pub emptied : Pairwise IsEmptied given empty
  -- when all were closed
  pub closed : List Knowledge
  pub ends : Pairwise Ends mid closed
  pub served : AllServeRest routes closed empty mains' places'

-- It may be done: there are as many places as main callers, and each is as a link left it.
pub record CanEnd {L T : Type 0} (ids : List SharedId) (routes : List Listed) (mains : List Knowledge) (places : List (Guest L T)) : Type 0 where
  pub mains_of : AreCallersOf ids mains
  pub each : length places ≡ length ids
  pub all : AllByRecursion (IsLeft ids routes) places

-- ---- links and end

-- Links came to these places and were served, and then all was ended over them.
pub record HaveCome {N L T : Type 0} (shown : L → Shown) (g : Settings) (moments : Option (List ℕ)) (grant : Option ℕ) (routes : List Listed) (asked : N → Option (List Ask)) (back : N → Option (List Shown)) (out faults : N → ℕ) (ws : Bool)
    (net net' : N) (mains : List Knowledge) (places : List (Guest L T)) (mains' : List Knowledge) (places' : List (Guest L T)) : Type 0 where
  pub left : List (Guest L T)
  pub served : AreServed (AreAccepted asked back out faults ws) (IsServed shown g moments grant routes) (IsMissed asked back out faults ws) net net' places left
  pub ended : HasEnded routes mains left mains' places'
