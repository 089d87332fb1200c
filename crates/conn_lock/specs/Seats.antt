-- What the fields of a seat and of a turn have to do with what they know.
use Rattle.std.specs.Prelude.{◌≡◌, ℕ, ◌<◌, ◌≤◌, ◌-◌, ◌^◌, List, [], ◌∷◌, true, false, Option, None, IsSome}
use Rattle.atomic_table.specs.Table.{Me}
use Rattle.conn_lock.specs.declared.view.View.{View}
use Rattle.conn_lock.specs.Callers.{Known, LockId, all_parts, times, Follows}
use Rattle.conn_lock.specs.Rule.{slot_list}

-- what a view means to its caller
abbrev pub known : {E : Type 0} → LockId → ℕ → View E → Known E
known lock number v = record { lock = lock; number = number; names = v.names; parts = v.parts; front = v.front; found = v.found; misses = v.misses; note = v.note }

-- between two turns: no ticket, and nothing out of the slot
pub record IsSeated {S E : Type 0} (number parts : ℕ) (me : Me (Option S) (View E)) : Type 0 where
  pub nothing_out : me.1 ≡ []
  pub no_ticket : me.0.tickets ≡ []
  pub no_turn : me.0.turn ≡ false
  pub named : 0 < times number me.0.names
  pub parts_are : parts ≡ me.0.parts
  pub some_part : 0 < parts
  pub at_most_all : parts ≤ all_parts

-- in a turn: the ticket is served, and the slot is out and empty
pub record IsServed {S E : Type 0} (number parts ticket : ℕ) (me : Me (Option S) (View E)) : Type 0 where
  pub slot_out : me.1 ≡ (0, None) ∷ []
  pub ticket_is : me.0.tickets ≡ ticket ∷ []
  pub turn_is : me.0.turn ≡ true
  pub no_note : me.0.note ≡ None
  pub not_last : ticket < 2 ^ 64 - 1
  pub named : 0 < times number me.0.names
  pub parts_are : parts ≡ me.0.parts
  pub some_part : 0 < parts
  pub at_most_all : parts ≤ all_parts

-- the turn of this ticket began: the value is out with the seat, and its list, which went on from the front by entries of others, is the front now
abbrev pub IsBegun : {S E : Type 0} → (S → List E) → (E → ℕ) → ℕ → Me (Option S) (View E) → Me (Option S) (View E) → Type 0
IsBegun {S} list_of number ticket me after =
    (x : Option S)
    × (after ≡ (record me.0 { tickets = ticket ∷ []; turn = true; front = slot_list list_of x; note = None; shorter = []; lesser = [] }, (0, x) ∷ []))
    × Follows number me.0.names me.0.front (slot_list list_of x)
    × IsSome x
