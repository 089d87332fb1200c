-- The callers of one slot, a row for each link.
use Rattle.std.proofs.lemmas.Bool.Decides.{nat_tests}
use Rattle.std.proofs.Common.{◌≡◌, ◌<◌, ◌+◌, ◌==◌, ◌∙◌, ℕ, zero, suc, Bool, true, false, if◌then◌else◌, List, [], ◌∷◌, ◌++◌, slice_get, option_to_list, refl, ap, arith, append-nil}
use Rattle.conn_shared.specs.Members.{Knowledge}
use Rattle.serve_slots.specs.Callers.{Placed, all_placed, at_slot, placed}

pub at_append : (slot : ℕ) (xs ys : List Placed) → at_slot slot (xs ++ ys) ≡ at_slot slot xs ++ at_slot slot ys
at_append slot [] ys = refl
at_append slot ((at, k) ∷ xs) ys = by (at == slot) (at_append slot xs ys)
  where
    by : (b : Bool) → at_slot slot (xs ++ ys) ≡ at_slot slot xs ++ at_slot slot ys → (if b then k ∷ at_slot slot (xs ++ ys) else at_slot slot (xs ++ ys)) ≡ (if b then k ∷ at_slot slot xs else at_slot slot xs) ++ at_slot slot ys
    by true h = ap (λ (l : List Knowledge). k ∷ l) h
    by false h = h

one_at : (slot at : ℕ) (k : Knowledge) → at_slot slot ((at, k) ∷ []) ≡ (if at == slot then k ∷ [] else [])
one_at slot at k = by (at == slot)
  where
    by : (b : Bool) → (if b then k ∷ [] else []) ≡ (if b then k ∷ [] else [])
    by b = refl

-- none of a row that begins later
later_none : (slot first : ℕ) (row : List Knowledge) → slot < first → at_slot slot (placed first row) ≡ []
later_none slot first [] lt = refl
later_none slot first (k ∷ row) lt =
    let rest = later_none slot (first + 1) row (omega (arith, lt)) in
    let apart : (first == slot) ≡ false = grind (arith, nat_tests, lt) in
    at_append slot (placed (first + 1) row) ((first, k) ∷ []) ∙ (ap (λ (l : List Knowledge). l ++ at_slot slot ((first, k) ∷ [])) rest ∙ rw apart refl)

row_at : (d first slot : ℕ) (row : List Knowledge) → slot ≡ first + d → at_slot slot (placed first row) ≡ option_to_list (slice_get row d)
row_at d first slot [] is = refl
row_at zero first slot (k ∷ row) is =
    let rest = later_none slot (first + 1) row (omega (arith, is)) in
    let here : (first == slot) ≡ true = grind (arith, nat_tests, is) in
    at_append slot (placed (first + 1) row) ((first, k) ∷ []) ∙ (ap (λ (l : List Knowledge). l ++ at_slot slot ((first, k) ∷ [])) rest ∙ rw here refl)
row_at (suc d) first slot (k ∷ row) is =
    let rest = row_at d (first + 1) slot row (omega (arith, is)) in
    let apart : (first == slot) ≡ false = grind (arith, nat_tests, is) in
    at_append slot (placed (first + 1) row) ((first, k) ∷ []) ∙ (ap (λ (l : List Knowledge). l ++ at_slot slot ((first, k) ∷ [])) rest ∙ (rw apart (append-nil (option_to_list (slice_get row d)))))

-- the callers at one slot, link by link
abbrev pub column : ℕ → List (List Knowledge) → List Knowledge
column slot [] = []
column slot (row ∷ rows) = option_to_list (slice_get row slot) ++ column slot rows

pub column_is : (slot : ℕ) (rows : List (List Knowledge)) → at_slot slot (all_placed rows) ≡ column slot rows
column_is slot [] = refl
column_is slot (row ∷ rows) = at_append slot (placed 0 row) (all_placed rows) ∙ (ap (λ (l : List Knowledge). l ++ at_slot slot (all_placed rows)) (row_at slot 0 slot row (omega arith)) ∙ ap (λ (l : List Knowledge). option_to_list (slice_get row slot) ++ l) (column_is slot rows))
