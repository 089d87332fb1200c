-- Boundaries of frames, or of anything else that has a length.
use Rattle.std.proofs.Common.{◌≡◌, ℕ, zero, suc, ◌+◌, ◌-◌, ◌<◌, ◌≤◌, ◌⊎◌, inl, inr, List, [], ◌∷◌, ◌++◌, take, drop, refl, sym, ap, ◌∙◌, arith}
use Rattle.std.proofs.lemmas.Bool.{le-leb, lt-leb, ne_eqb, cases_lt}
use Rattle.position.specs.Boundaries.{pos_by, IsBoundaryBy, acked_by, least_boundary_by, frames_from_by}

pub pos-append : {A : Type 0} (len : A → ℕ) (xs ys : List A) → pos_by len (xs ++ ys) ≡ pos_by len xs + pos_by len ys
unfolding pos_by
pos-append len [] ys = omega arith
pos-append len (x ∷ xs) ys = omega (arith, pos-append len xs ys)

pub pos-push : {A : Type 0} (len : A → ℕ) (xs : List A) (x : A) → pos_by len (xs ++ x ∷ []) ≡ pos_by len xs + len x
unfolding pos_by
pos-push len xs x = omega (arith, pos-append len xs (x ∷ []))

-- ---- one frame of each list

pub acked-in : {A : Type 0} (len : A → ℕ) (x : A) (xs : List A) (told : ℕ) → len x ≤ told → acked_by len (x ∷ xs) told ≡ len x + acked_by len xs (told - len x)
unfolding acked_by
acked-in len x xs told le = rw (le-leb (len x) told le)

pub acked-out : {A : Type 0} (len : A → ℕ) (x : A) (xs : List A) (told : ℕ) → told < len x → acked_by len (x ∷ xs) told ≡ 0
unfolding acked_by
acked-out len x xs told lt = rw (lt-leb (len x) told lt)

pub least-zero : {A : Type 0} (len : A → ℕ) (xs : List A) → least_boundary_by len xs 0 ≡ 0
unfolding least_boundary_by
least-zero len [] = refl
least-zero len (x ∷ xs) = refl

pub least-in : {A : Type 0} (len : A → ℕ) (x : A) (xs : List A) (low : ℕ) → 0 < low → least_boundary_by len (x ∷ xs) low ≡ len x + least_boundary_by len xs (low - len x)
unfolding least_boundary_by
least-in len x xs low lt = rw (ne_eqb low 0 (λ is. omega arith)) refl

pub from-zero : {A : Type 0} (len : A → ℕ) (xs : List A) → frames_from_by len xs 0 ≡ xs
unfolding frames_from_by
from-zero len [] = refl
from-zero len (x ∷ xs) = refl

pub from-in : {A : Type 0} (len : A → ℕ) (x : A) (xs : List A) (p : ℕ) → 0 < p → frames_from_by len (x ∷ xs) p ≡ frames_from_by len xs (p - len x)
unfolding frames_from_by
from-in len x xs p lt = rw (ne_eqb p 0 (λ is. omega arith)) refl

pub boundary_of_none : {A : Type 0} (len : A → ℕ) (p : ℕ) → IsBoundaryBy len [] p → p ≡ 0
unfolding pos_by
boundary_of_none len p (zero, is) = sym is
boundary_of_none len p (suc n, is) = sym is

-- a boundary is the start, or a boundary after the first frame
pub boundary_cases : {A : Type 0} (len : A → ℕ) (x : A) (xs : List A) (p : ℕ) → IsBoundaryBy len (x ∷ xs) p → (p ≡ 0) ⊎ ((len x ≤ p) × IsBoundaryBy len xs (p - len x))
unfolding pos_by
boundary_cases len x xs p (zero, is) = inl (sym is)
boundary_cases len x xs p (suc n, is) = inr (omega (arith, is), (n, omega (arith, is)))

-- a boundary after the first frame
pub boundary_after : {A : Type 0} (len : A → ℕ) (x : A) (xs : List A) (p : ℕ) → IsBoundaryBy len xs p → IsBoundaryBy len (x ∷ xs) (len x + p)
unfolding pos_by
boundary_after len x xs p (n, is) = (suc n, omega (arith, is))

pub boundary_zero : {A : Type 0} (len : A → ℕ) (xs : List A) → IsBoundaryBy len xs 0
unfolding pos_by
boundary_zero len xs = (0, refl)

pub boundary-le : {A : Type 0} (len : A → ℕ) (xs : List A) (p : ℕ) → IsBoundaryBy len xs p → p ≤ pos_by len xs
unfolding pos_by
boundary-le len [] p b = omega (arith, boundary_of_none len p b)
boundary-le len (x ∷ xs) p b = elim (boundary_cases len x xs p b) [
  | inl start ↦ omega arith
  | inr after ↦ omega (arith, boundary-le len xs (p - len x) after.1)
]

-- ---- what is acknowledged

pub acked-boundary : {A : Type 0} (len : A → ℕ) (xs : List A) (told : ℕ) → IsBoundaryBy len xs (acked_by len xs told)
unfolding acked_by
acked-boundary len [] told = boundary_zero len []
acked-boundary len (x ∷ xs) told = elim (cases_lt told (len x)) [
  | inl out ↦ rw (acked-out len x xs told out) (boundary_zero len (x ∷ xs))
  | inr fits ↦ rw (acked-in len x xs told fits) (boundary_after len x xs (acked_by len xs (told - len x)) (acked-boundary len xs (told - len x)))
]

pub acked-at_most : {A : Type 0} (len : A → ℕ) (xs : List A) (told : ℕ) → acked_by len xs told ≤ told
unfolding acked_by
acked-at_most len [] told = omega arith
acked-at_most len (x ∷ xs) told = elim (cases_lt told (len x)) [
  | inl out ↦ omega (arith, acked-out len x xs told out)
  | inr fits ↦ omega (arith, acked-in len x xs told fits, acked-at_most len xs (told - len x))
]

pub acked-greatest : {A : Type 0} (len : A → ℕ) (xs : List A) (told b : ℕ) → IsBoundaryBy len xs b → b ≤ told → b ≤ acked_by len xs told
acked-greatest len [] told b is le = omega (arith, boundary_of_none len b is)
acked-greatest len (x ∷ xs) told b is le = elim (boundary_cases len x xs b is) [
  | inl start ↦ omega arith
  | inr after ↦ omega (arith, acked-in len x xs told (omega arith), acked-greatest len xs (told - len x) (b - len x) after.1 (omega arith))
]

-- ---- the least boundary from a position on

pub least-boundary : {A : Type 0} (len : A → ℕ) (xs : List A) (low : ℕ) → IsBoundaryBy len xs (least_boundary_by len xs low)
unfolding least_boundary_by
least-boundary len [] low = boundary_zero len []
least-boundary len (x ∷ xs) low = elim (cases_lt 0 low) [
  | inl above ↦ rw (least-in len x xs low above) (boundary_after len x xs (least_boundary_by len xs (low - len x)) (least-boundary len xs (low - len x)))
  | inr here ↦
      let none : low ≡ 0 = omega arith in
      rw (none, least-zero len (x ∷ xs)) (boundary_zero len (x ∷ xs))
]

pub least-at_least : {A : Type 0} (len : A → ℕ) (xs : List A) (low : ℕ) → low ≤ pos_by len xs → low ≤ least_boundary_by len xs low
unfolding pos_by
least-at_least len [] low le = omega arith
least-at_least len (x ∷ xs) low le = elim (cases_lt 0 low) [
  | inl above ↦ omega (arith, least-in len x xs low above, least-at_least len xs (low - len x) (omega arith))
  | inr here ↦ omega arith
]

pub least-least : {A : Type 0} (len : A → ℕ) (xs : List A) (low b : ℕ) → IsBoundaryBy len xs b → low ≤ b → least_boundary_by len xs low ≤ b
unfolding least_boundary_by
least-least len [] low b is le = omega arith
least-least len (x ∷ xs) low b is le = elim (cases_lt 0 low) [
  | inl above ↦ elim (boundary_cases len x xs b is) [
    | inl start ↦ absurd (omega arith)
    | inr after ↦ omega (arith, least-in len x xs low above, least-least len xs (low - len x) (b - len x) after.1 (omega arith))
  ]
  | inr here ↦
      let none : low ≡ 0 = omega arith in
      omega (arith, ap (least_boundary_by len (x ∷ xs)) none, least-zero len (x ∷ xs))
]

-- what lies between a position and its least boundary has the same one
pub least-between : {A : Type 0} (len : A → ℕ) (xs : List A) (low high : ℕ) → low ≤ high → high ≤ least_boundary_by len xs low → least_boundary_by len xs high ≡ least_boundary_by len xs low
least-between len xs low high le under =
    let one : least_boundary_by len xs high ≤ least_boundary_by len xs low = least-least len xs high (least_boundary_by len xs low) (least-boundary len xs low) under in
    let inside : high ≤ pos_by len xs = omega (arith, boundary-le len xs (least_boundary_by len xs low) (least-boundary len xs low)) in
    let other : least_boundary_by len xs low ≤ least_boundary_by len xs high = least-least len xs low (least_boundary_by len xs high) (least-boundary len xs high) (omega (arith, least-at_least len xs high inside)) in
    omega arith

-- ---- the frames from a boundary on

pub from-kept : {A : Type 0} (len : A → ℕ) (xs : List A) (p : ℕ) → IsBoundaryBy len xs p → (n : ℕ) × (pos_by len (take n xs) ≡ p) × (frames_from_by len xs p ≡ drop n xs)
unfolding frames_from_by pos_by
from-kept len [] p is = (0, sym (boundary_of_none len p is), refl)
from-kept len (x ∷ xs) p is = elim (cases_lt 0 p) [
  | inl above ↦ elim (boundary_cases len x xs p is) [
    | inl start ↦ absurd (omega arith)
    | inr after ↦
        let rest = from-kept len xs (p - len x) after.1 in
        (suc rest.0, omega (arith, rest.1), from-in len x xs p above ∙ rest.2)
  ]
  | inr here ↦
      let none : p ≡ 0 = omega arith in
      (0, sym none, ap (frames_from_by len (x ∷ xs)) none ∙ from-zero len (x ∷ xs))
]

pub pos-from : {A : Type 0} (len : A → ℕ) (xs : List A) (p : ℕ) → IsBoundaryBy len xs p → p + pos_by len (frames_from_by len xs p) ≡ pos_by len xs
unfolding frames_from_by pos_by
pos-from len [] p is = omega (arith, boundary_of_none len p is)
pos-from len (x ∷ xs) p is = elim (cases_lt 0 p) [
  | inl above ↦ elim (boundary_cases len x xs p is) [
    | inl start ↦ absurd (omega arith)
    | inr after ↦ omega (arith, ap (pos_by len) (from-in len x xs p above), pos-from len xs (p - len x) after.1)
  ]
  | inr here ↦
      let none : p ≡ 0 = omega arith in
      omega (arith, ap (λ n. pos_by len (frames_from_by len (x ∷ xs) n)) none, ap (pos_by len) (from-zero len (x ∷ xs)))
]
