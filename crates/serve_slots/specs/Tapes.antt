-- Tapes that are put back. Entries stand newest first.
use Rattle.std.specs.Prelude.{◌≡◌, ℕ, List, [], ◌∷◌, ◌++◌, reverse, Option, IfSome}
use Rattle.std.specs.List.{AllByRecursion}
use Rattle.tape.specs.declared.entry.Entry.{Entry}
use Rattle.session_model.specs.Legal.{Fair, Legal}
use Rattle.conn_lock.specs.Callers.{all_parts, calls, times}
use Rattle.conn_shared.specs.Lines.{who_of}
use Rattle.conn_shared.specs.Members.{Knowledge}

-- where a tape tells its entries, they are these
abbrev pub AreToldOf : List (List Entry) → List (Option (List Entry)) → Type 0
AreToldOf [] [] = Unit {0}
AreToldOf (past ∷ pasts) (shown ∷ all) = IfSome shown (λ list. list ≡ reverse past) × AreToldOf pasts all
AreToldOf _ _ = ⊥

-- Tapes of these entries were put back, in this order.
pub record GotBackAs (tapes : List (List Entry)) (old new : List (Option (List Entry))) : Type 0 where
  pub shown : List (Option (List Entry))
  pub back : new ≡ old ++ shown
  pub told : AreToldOf tapes shown

-- tapes without an entry were put back, or none
abbrev pub AreUnused : List (Option (List Entry)) → List (Option (List Entry)) → Type 0
AreUnused old new = (tapes : List (List Entry)) × AllByRecursion (λ (past : List Entry). past ≡ []) tapes × GotBackAs tapes old new

-- What a caller has seen are all entries of its session: they are legal, and each carries one of its names.
pub record IsWhole (k : Knowledge) : Type 0 where
  pub legal : Legal k.of.settings k.front
  pub fair : Fair k.of.settings k.front
  pub named : (x : ℕ) → times x k.names ≡ 0 → calls who_of x k.front ≡ 0

-- the caller has all parts of its connection
abbrev pub HasAll : Knowledge → Type 0
HasAll k = k.parts ≡ all_parts

-- what the callers have seen
abbrev pub fronts_of : List Knowledge → List (List Entry)
fronts_of [] = []
fronts_of (k ∷ callers) = k.front ∷ fronts_of callers
