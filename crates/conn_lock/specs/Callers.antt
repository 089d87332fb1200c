-- What a caller knows of a lock, and how the lists that it sees follow one another.
use Rattle.std.specs.Prelude.{◌≡◌, ℕ, ◌+◌, ◌<◌, ◌/◌, ◌^◌, ◌==◌, List, [], ◌∷◌, ◌++◌, length, Option, cond, nat_lt, max}
use mathlib.Core.List.{IsPrefix}
use Rattle.atomic_table.specs.Seated.{TableId}
use Rattle.conn_lock.specs.declared.numbers.TheConstants.{MOST_NUMBERS, SHARE}

-- which lock it is: no two locks share it
abbrev pub LockId : Type 0
LockId = TableId

-- the parts of all seats of a lock, 2 ^ 62 in sum
abbrev pub all_parts : ℕ
all_parts = 2 ^ 62

-- how many numbers a lock gives out, from 0 on
abbrev pub most_numbers : ℕ
most_numbers = MOST_NUMBERS

-- what a seat's caller knows
pub record Known (E : Type 0) : Type 0 where
  pub lock : LockId
  pub number : ℕ
  -- its number, and those of the seats that were joined into it
  pub names : List ℕ
  pub parts : ℕ
  -- the list as far as it has seen it
  pub front : List E
  -- the greatest count of numbers drawn that it has found
  pub found : ℕ
  -- how many of its tries met a ticket that was drawn already
  pub misses : ℕ
  -- the ticket that was served when a try looked, until the seat draws one or misses it
  pub note : Option ℕ

-- what a caller knows in its turn: the front is the list as the turn began
pub record InTurn (S E : Type 0) : Type 0 where
  pub seat : Known E
  pub value : S

-- 1 where the two numbers are one
abbrev pub once : ℕ → ℕ → ℕ
once a x = cond (a == x) 1 0

-- how often x stands in the list
abbrev pub times : ℕ → List ℕ → ℕ
times x [] = 0
times x (a ∷ rest) = once a x + times x rest

module _ {E : Type 0} (number : E → ℕ) where
  -- how many entries carry the number x
  abbrev pub calls : ℕ → List E → ℕ
  calls x [] = 0
  calls x (e ∷ es) = once (number e) x + calls x es

  -- no entry carries one of these names
  abbrev pub IsOthers : List ℕ → List E → Type 0
  IsOthers names es = (x : ℕ) → 0 < times x names → calls x es ≡ 0

  -- the list went on by entries of others alone
  abbrev pub Follows : List ℕ → List E → List E → Type 0
  Follows names old new = (others : List E) × (new ≡ old ++ others) × IsOthers names others

  -- the list went on by entries of this number alone
  abbrev pub Adds : ℕ → List E → List E → Type 0
  Adds x old new = (own : List E) × (new ≡ old ++ own) × (calls x own ≡ length own)

  -- a caller fits the list: its front is a prefix of it, and no later entry carries one of its names
  abbrev pub Fits : List E → List ℕ → List E → Type 0
  Fits list names front = IsPrefix front list × ((x : ℕ) → 0 < times x names → calls x list ≡ calls x front)

-- what a new seat gets of p parts: one in `SHARE`, rounded down, but at least one
abbrev pub share : ℕ → ℕ
share p = max 1 (p / SHARE)

module _ {E : Type 0} where
  -- the longer and the shorter of two lists
  abbrev pub longer : List E → List E → List E
  longer a b = cond (nat_lt (length a) (length b)) b a

  abbrev pub shorter : List E → List E → List E
  shorter a b = cond (nat_lt (length a) (length b)) a b
