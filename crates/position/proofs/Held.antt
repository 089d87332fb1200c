-- Which positions are boundaries, the frames on either side of one, and where what is held begins as more is made and told.
use Rattle.std.proofs.Common.{◌≡◌, inl, inr, ℕ, ◌-◌, ◌==◌, ◌||◌, ◌&&◌, ◌<◌, ◌≤◌, Bool, true, false, max, List, [], ◌∷◌, ◌++◌, take, refl, ap, subst, ◌∙◌, arith, leb}
use Rattle.std.proofs.lemmas.Bool.{le-leb}
use Rattle.std.proofs.lemmas.Bool.Decides.{nat_tests}
use Rattle.std.proofs.lemmas.List.{take-append-drop}
use Rattle.position.specs.Boundaries.{pos_by, IsBoundaryBy, is_boundary_by, acked_by, least_boundary_by, frames_from_by}
use Rattle.position.proofs.Boundaries.{acked-at_most, acked-boundary, acked-greatest, boundary-le, boundary_after, boundary_cases, boundary_of_none, from-kept, least-boundary, least-at_least, least-least, pos-append}
use Rattle.position.proofs.Growing.{boundary_grown, least_grown}

both : (a b : Bool) → (a && b) ≡ true → (a ≡ true) × (b ≡ true)
both true b is = (refl, is)
both false b is = absurd (cc)

-- where the test says so there is a boundary
pub boundary_test : {A : Type 0} (len : A → ℕ) (xs : List A) (p : ℕ) → is_boundary_by len xs p ≡ true → IsBoundaryBy len xs p
unfolding is_boundary_by pos_by
boundary_test len [] p is = (0, grind (arith, nat_tests))
boundary_test len (x ∷ xs) p is =
    elim (p == 0) as (λ v. (p == 0) ≡ v → (v || (leb (len x) p && is_boundary_by len xs (p - len x))) ≡ true → IsBoundaryBy len (x ∷ xs) p) [
      | true ↦ λ none is. (0, grind (arith, nat_tests))
      | false ↦ λ some is.
          let b = both (leb (len x) p) (is_boundary_by len xs (p - len x)) is in
          let within = b.0 in
          let fits : len x ≤ p = grind (arith, nat_tests) in
          subst (IsBoundaryBy len (x ∷ xs)) (omega (arith, fits)) (boundary_after len x xs (p - len x) (boundary_test len xs (p - len x) b.1))
    ] refl is

-- and the other way round
pub test_boundary : {A : Type 0} (len : A → ℕ) (xs : List A) (p : ℕ) → IsBoundaryBy len xs p → is_boundary_by len xs p ≡ true
unfolding is_boundary_by
test_boundary len [] p is = let none = boundary_of_none len p is in grind (arith, nat_tests)
test_boundary len (x ∷ xs) p is = elim (boundary_cases len x xs p is) [
  | inl start ↦ rw start refl
  | inr after ↦ elim (p == 0) as (λ v. (v || (leb (len x) p && is_boundary_by len xs (p - len x))) ≡ true) [
    | true ↦ refl
    | false ↦ rw (le-leb (len x) p after.0, test_boundary len xs (p - len x) after.1) refl
  ]
]

-- the frames before a boundary, and those after it
pub front_of : {A : Type 0} (len : A → ℕ) (xs : List A) (p : ℕ) → IsBoundaryBy len xs p → (front : List A) × (front ++ frames_from_by len xs p ≡ xs) × (pos_by len front ≡ p)
front_of len xs p is =
    let kept = from-kept len xs p is in
    (take kept.0 xs, ap (λ l. take kept.0 xs ++ l) kept.2 ∙ take-append-drop kept.0 xs, kept.1)

-- two fronts of one list at one position are one
pub same_front : {A : Type 0} (len : A → ℕ) → ((x : A) → 0 < len x) → (xs ys r s : List A) → xs ++ r ≡ ys ++ s → pos_by len xs ≡ pos_by len ys → xs ≡ ys
unfolding pos_by
same_front len some [] [] r s e p = refl
same_front len some [] (y ∷ ys) r s e p = absurd (omega (arith, some y))
same_front len some (x ∷ xs) [] r s e p = absurd (omega (arith, some x))
same_front len some (x ∷ xs) (y ∷ ys) r s e p =
    let h : x ≡ y = cc in
    let t : xs ++ r ≡ ys ++ s = cc in
    let w : len x ≡ len y = ap len h in
    let i : xs ≡ ys = same_front len some xs ys r s t (omega arith) in
    cc

-- ---- as more is made and told

pub acked_more : {A : Type 0} (len : A → ℕ) (xs ys : List A) (told later : ℕ) → told ≤ later → acked_by len xs told ≤ acked_by len (xs ++ ys) later
acked_more len xs ys told later le =
    acked-greatest len (xs ++ ys) later (acked_by len xs told) (boundary_grown len xs ys (acked_by len xs told) (acked-boundary len xs told)) (omega (arith, acked-at_most len xs told))

least_more : {A : Type 0} (len : A → ℕ) (xs ys : List A) (low high : ℕ) → low ≤ high → low ≤ pos_by len xs → high ≤ pos_by len (xs ++ ys) → least_boundary_by len xs low ≤ least_boundary_by len (xs ++ ys) high
least_more len xs ys low high le inside reached =
    let at_least = least-at_least len (xs ++ ys) high reached in
    let least = least-least len (xs ++ ys) low (least_boundary_by len (xs ++ ys) high) (least-boundary len (xs ++ ys) high) (omega arith) in
    omega (arith, least, least_grown len xs ys low inside)

-- where what is held begins never falls
pub first_more : {A : Type 0} (len : A → ℕ) (xs ys : List A) (told later hold : ℕ) → told ≤ later
    → least_boundary_by len xs (max (acked_by len xs told) (pos_by len xs - hold)) ≤ least_boundary_by len (xs ++ ys) (max (acked_by len (xs ++ ys) later) (pos_by len (xs ++ ys) - hold))
first_more len xs ys told later hold le =
    let more = acked_more len xs ys told later le in
    let inside = boundary-le len xs (acked_by len xs told) (acked-boundary len xs told) in
    let reached = boundary-le len (xs ++ ys) (acked_by len (xs ++ ys) later) (acked-boundary len (xs ++ ys) later) in
    let sum = pos-append len xs ys in
    least_more len xs ys (max (acked_by len xs told) (pos_by len xs - hold)) (max (acked_by len (xs ++ ys) later) (pos_by len (xs ++ ys) - hold)) (omega arith) (omega arith) (omega arith)

-- it is a boundary, so no greater than the position made
pub first_within : {A : Type 0} (len : A → ℕ) (xs : List A) (low : ℕ) → least_boundary_by len xs low ≤ pos_by len xs
first_within len xs low = boundary-le len xs (least_boundary_by len xs low) (least-boundary len xs low)
