-- The lock's rule, which holds between any two steps, and its kinds of step.
--
-- The words are the next ticket, the ticket that is served, and how many numbers were drawn. The one
-- slot holds the value. A view is what a seat knows (src/view.rt). Each seat has one, and so has each
-- seat that was dropped, or that was joined into another and is spent.
--
-- `list_of` gives the list that the slot's value represents, `IsThere` says that there is one, and
-- `number` is the number that an entry carries.
use Rattle.std.specs.Prelude.{◌≡◌, ◌≢◌, ℕ, ◌+◌, ◌-◌, ◌<◌, ◌≤◌, List, [], ◌∷◌, ◌++◌, length, true, false, cond, nat_lt, max, ◌⊎◌, None, Some}
use Rattle.std.specs.Prelude as std
use mathlib.Core.Option.{Option, none, some}
use lib.ListN.{get_elem?}
use Rattle.atomic_table.specs.Table.{State, Step, Me, rest}
use Rattle.conn_lock.specs.declared.view.View.{View}
use Rattle.conn_lock.specs.Callers.{all_parts, most_numbers, times, calls, Follows, Fits, share, longer, shorter}

-- 1 where x is below n
abbrev pub below : ℕ → ℕ → ℕ
below x n = cond (nat_lt x n) 1 0

-- f of each, added up
abbrev pub total : {A : Type 0} → (A → ℕ) → List A → ℕ
total f [] = 0
total f (v ∷ vs) = f v + total f vs

-- what holds of each view, for the list that the value represents
pub record IsSound {S E : Type 0} (number : E → ℕ) (list : List E) (serving drawn : ℕ) (homes : List (Option S)) (v : View E) : Type 0 where
  pub fits : Fits number list v.names v.front
  -- a spent view has no part, and nothing else
  pub spent : v.parts ≡ 0 → (v.names ≡ []) × (v.tickets ≡ [])
  -- the seat in its turn has the ticket that is served, the value is out with it, and its front is the list as the turn began
  pub inside : v.turn ≡ true → (homes ≡ none ∷ []) × (v.front ≡ list) × (v.tickets ≡ serving ∷ [])
  pub found : v.found ≤ drawn
  pub noted : (n : ℕ) → v.note ≡ Some n → n ≤ serving
  -- of two fronts that were joined the shorter fits the longer
  pub begun : Fits number v.front v.lesser v.shorter

-- the value is at home and represents the list, or a seat in its turn has it
abbrev pub IsPlaced : {S E : Type 0} → (S → List E) → (S → Type 0) → List E → List (Option S) → List (View E) → Type 0
IsPlaced {S} {E} list_of IsThere list homes views =
    ((x : S) × (homes ≡ some x ∷ []) × (list_of x ≡ list) × IsThere x)
    ⊎ ((i : ℕ) × (v : View E) × (homes ≡ none ∷ []) × (get_elem? views i ≡ some v) × (v.turn ≡ true))

pub record Kept {S E : Type 0} (list_of : S → List E) (IsThere : S → Type 0) (number : E → ℕ) (s : State S (View E)) : Type 0 where
  pub ticket : ℕ
  pub serving : ℕ
  pub drawn : ℕ
  pub list : List E
  pub words : s.words ≡ ticket ∷ serving ∷ drawn ∷ []
  -- the tickets in views are the numbers from serving up to below ticket, each once
  pub tickets : (x : ℕ) → total (λ v. times x v.tickets) s.views + below x serving ≡ below x ticket
  -- each number drawn stands in the names of one view, once, and no other number in any
  pub names : (x : ℕ) → total (λ v. times x v.names) s.views ≡ below x drawn
  pub parts : total (λ v. v.parts) s.views ≡ all_parts
  pub few : drawn ≤ most_numbers
  -- no entry carries a number that was not drawn
  pub known : (x : ℕ) → drawn ≤ x → calls number x list ≡ 0
  pub sound : (i : ℕ) (v : View E) → get_elem? s.views i ≡ some v → IsSound number list serving drawn s.homes v
  pub place : IsPlaced list_of IsThere list s.homes s.views

-- the view of the first seat: number 0, all parts, and the list at the start
abbrev pub first_view : {E : Type 0} → List E → View E
first_view list = record { names = 0 ∷ []; parts = all_parts; tickets = []; turn = false; front = list; found = 1; note = None; misses = 0; shorter = []; lesser = [] }

-- the list of the value in the slot, where it is there
abbrev pub slot_list : {S E : Type 0} → (S → List E) → std.Option S → List E
slot_list list_of None = []
slot_list list_of (Some x) = list_of x

-- The steps on words. Each says what the seat `after` is, where it was `me` and found n in the word; `step.first` is what an exchange was made from.
module _ {S E : Type 0} where
  -- the list of the value that is out with the seat
  abbrev pub out_list : (S → List E) → List (ℕ × S) → List E
  out_list list_of [] = []
  out_list list_of (x ∷ xs) = list_of x.1

  -- serving: the value comes home, and the turn is over
  abbrev pub passed : (S → List E) → Step S → Me S (View E) → ℕ → Me S (View E) → Type 0
  passed list_of step me n after = after ≡ (record me.0 { turn = false; tickets = []; front = out_list list_of me.1; shorter = []; lesser = [] }, rest me.1)

  -- serving: the seat notes what it found
  abbrev pub noted : Step S → Me S (View E) → ℕ → Me S (View E) → Type 0
  noted step me n after = after ≡ (record me.0 { note = Some n }, me.1)

  -- ticket: it was the noted one, so the seat has that ticket and its turn begins at once, in which the value leaves the slot; else the note goes, and the seat has so many misses
  abbrev pub drew : ℕ → (S → List E) → (S → Type 0) → (E → ℕ) → Step S → Me S (View E) → ℕ → Me S (View E) → Type 0
  drew misses list_of IsThere number step me n after =
      (n ≡ step.first → (x : S) × (after ≡ (record me.0 { tickets = n ∷ []; turn = true; front = list_of x; note = None; shorter = []; lesser = [] }, (0, x) ∷ me.1)) × Follows number me.0.names me.0.front (list_of x) × IsThere x)
      × (n ≢ step.first → after ≡ (record me.0 { misses = misses; note = None }, me.1))

  -- by a seat that tries again: nothing is counted
  abbrev pub won : (S → List E) → (S → Type 0) → (E → ℕ) → Step S → Me S (View E) → ℕ → Me S (View E) → Type 0
  won list_of IsThere number step me = drew me.0.misses list_of IsThere number step me

  -- by a seat that tries once: it is a miss where another has the ticket
  abbrev pub grabbed : (S → List E) → (S → Type 0) → (E → ℕ) → Step S → Me S (View E) → ℕ → Me S (View E) → Type 0
  grabbed list_of IsThere number step me = drew (me.0.misses + 1) list_of IsThere number step me

  -- names: the seat has found how many numbers were drawn, which are no fewer than it had found before
  abbrev pub counted : Step S → Me S (View E) → ℕ → Me S (View E) → Type 0
  counted step me n after = (after ≡ (record me.0 { found = n }, me.1)) × (me.0.found ≤ n) × (n ≤ most_numbers)

  -- names: the number that the seat found is its first name now, and was no name of it and the number of no entry; or it found another
  abbrev pub named : (E → ℕ) → Step S → Me S (View E) → ℕ → Me S (View E) → Type 0
  named number step me n after =
      (n ≡ step.first → (after ≡ (record me.0 { names = n ∷ me.0.names; found = n + 1 }, me.1)) × (me.0.found ≤ n) × (times n me.0.names ≡ 0) × (calls number n me.0.front ≡ 0))
      × (n ≢ step.first → (after ≡ (record me.0 { found = n }, me.1)) × (me.0.found ≤ n) × (n ≤ most_numbers))

  -- any word: of two fronts that were joined the shorter fits the longer, no name stands twice, and the parts are at most all
  abbrev pub told : (E → ℕ) → Step S → Me S (View E) → ℕ → Me S (View E) → Type 0
  told number step me n after = (after ≡ me) × Fits number me.0.front me.0.lesser me.0.shorter × ((x : ℕ) → times x me.0.names ≤ 1) × (me.0.parts ≤ all_parts)

-- The steps on seats.
abbrev pub heads : List ℕ → List ℕ
heads [] = []
heads (x ∷ xs) = x ∷ []

abbrev pub tails : List ℕ → List ℕ
tails [] = []
tails (x ∷ xs) = xs

module _ {E : Type 0} where
  -- split: the new seat gets the number that was drawn last, the same front and a share of the parts
  abbrev pub left : View E → View E
  left v = record v { names = tails v.names; parts = v.parts - share v.parts }

  abbrev pub right : View E → View E
  right v = record { names = heads v.names; parts = share v.parts; tickets = []; turn = false; front = v.front; found = v.found; note = None; misses = 0; shorter = []; lesser = [] }

  -- the names of the view with the shorter front
  abbrev pub shorter_names : View E → View E → List ℕ
  shorter_names v w = cond (nat_lt (length v.front) (length w.front)) v.names w.names

  -- join: the first seat gets the names and parts of both, the longer front and the greater count found
  abbrev pub both : View E → View E → View E
  both v w = record v { names = v.names ++ w.names; parts = v.parts + w.parts; front = longer v.front w.front; found = max v.found w.found; shorter = shorter v.front w.front; lesser = shorter_names v w }

  abbrev pub spent : View E
  spent = record { names = []; parts = 0; tickets = []; turn = false; front = []; found = 0; note = None; misses = 0; shorter = []; lesser = [] }
