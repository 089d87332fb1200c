-- What is made before any thread begins. Entries stand newest first.
use Rattle.std.specs.Prelude.{◌≡◌, ◌+◌, ◌<◌, ℕ, List, [], ◌∷◌, ◌++◌, slice_get, Some}
use Rattle.std.specs.List.{AllByRecursion}
use Rattle.conn_shared.specs.Members.{Knowledge, SharedId}
use Rattle.serve_slots.specs.Callers.{HaveAll, IsAtSlot, Placed, placed}
use Rattle.serve_threads.specs.Threads.{IsNewCaller}
use Rattle.serve_threads.specs.declared.guest.Guest.{Guest}
use Rattle.serve_threads.specs.declared.worker.Worker.{Worker}

-- the callers of these workers, the last one first
abbrev pub working : {T : Type 0} → List (Worker T) → List Placed
working [] = []
working (w ∷ workers) = working workers ++ (w.slot, w.caller) ∷ []

-- one of these workers is of that slot
pub record HasWorkerAt {T : Type 0} (slot : ℕ) (workers : List (Worker T)) : Type 0 where
  pub place : ℕ
  pub worker : Worker T
  pub is : slice_get workers place ≡ Some worker
  pub at : worker.slot ≡ slot

-- one is of each of so many slots
abbrev pub HaveWorkers : {T : Type 0} → ℕ → List (Worker T) → Type 0
HaveWorkers many workers = (slot : ℕ) → slot < many → HasWorkerAt slot workers

-- a row of callers, from the first connection on
abbrev pub IsRow : {L T : Type 0} → List SharedId → Guest L T → Type 0
IsRow ids p = AllByRecursion (IsAtSlot ids) (placed 0 p.row.items)

-- the places are of one slot after another
abbrev pub AreInOrder : {L T : Type 0} → ℕ → List (Guest L T) → Type 0
AreInOrder slot [] = Unit {0}
AreInOrder slot (p ∷ places) = (p.slot ≡ slot) × AreInOrder (slot + 1) places

-- No part of a connection is lost: the main callers and these others have all of them, and the main callers have done nothing.
pub record AreMade (ids : List SharedId) (mains : List Knowledge) (others : List Placed) : Type 0 where
  pub fronts : AllByRecursion IsNewCaller mains
  pub at : AllByRecursion (IsAtSlot ids) others
  pub all : HaveAll mains others
