-- Boundaries once more frames are made, seen from a boundary on, and of what has the same lengths.
use Rattle.std.proofs.Common.{◌≡◌, ℕ, ◌+◌, ◌-◌, ◌≤◌, inl, inr, List, [], ◌∷◌, ◌++◌, map, take, refl, sym, ap, subst, ◌∙◌, arith}
use Rattle.std.proofs.lemmas.Bool.{cases_lt}
use Rattle.std.proofs.lemmas.List.{take-map}
use Rattle.position.specs.Boundaries.{pos_by, IsBoundaryBy, acked_by, least_boundary_by, frames_from_by}
use Rattle.position.proofs.Boundaries.{acked-in, acked-out, acked-at_most, least-zero, least-in, from-zero, from-in, boundary_of_none, boundary_cases, boundary_after}

-- ---- more frames

pub boundary_grown : {A : Type 0} (len : A → ℕ) (xs ys : List A) (p : ℕ) → IsBoundaryBy len xs p → IsBoundaryBy len (xs ++ ys) p
unfolding pos_by
boundary_grown len [] ys p is = (0, sym (boundary_of_none len p is))
boundary_grown len (x ∷ xs) ys p is = elim (boundary_cases len x xs p is) [
  | inl start ↦ (0, sym start)
  | inr after ↦
      let same : len x + (p - len x) ≡ p = omega (arith, after.0) in
      subst (IsBoundaryBy len (x ∷ (xs ++ ys))) same (boundary_after len x (xs ++ ys) (p - len x) (boundary_grown len xs ys (p - len x) after.1))
]

pub acked_grown : {A : Type 0} (len : A → ℕ) (xs ys : List A) (told : ℕ) → told ≤ pos_by len xs → acked_by len (xs ++ ys) told ≡ acked_by len xs told
unfolding acked_by pos_by
acked_grown len [] ys told le = omega (arith, acked-at_most len ys told)
acked_grown len (x ∷ xs) ys told le = elim (cases_lt told (len x)) [
  | inl out ↦ acked-out len x (xs ++ ys) told out ∙ sym (acked-out len x xs told out)
  | inr fits ↦ omega (arith, acked-in len x (xs ++ ys) told fits, acked-in len x xs told fits, acked_grown len xs ys (told - len x) (omega arith))
]

pub least_grown : {A : Type 0} (len : A → ℕ) (xs ys : List A) (low : ℕ) → low ≤ pos_by len xs → least_boundary_by len (xs ++ ys) low ≡ least_boundary_by len xs low
unfolding least_boundary_by pos_by
least_grown len [] ys low le =
    let none : low ≡ 0 = omega arith in
    ap (least_boundary_by len ys) none ∙ least-zero len ys
least_grown len (x ∷ xs) ys low le = elim (cases_lt 0 low) [
  | inl above ↦ omega (arith, least-in len x (xs ++ ys) low above, least-in len x xs low above, least_grown len xs ys (low - len x) (omega arith))
  | inr here ↦
      let none : low ≡ 0 = omega arith in
      ap (least_boundary_by len (x ∷ xs ++ ys)) none ∙ least-zero len (x ∷ (xs ++ ys)) ∙ sym (ap (least_boundary_by len (x ∷ xs)) none ∙ least-zero len (x ∷ xs))
]

pub from_grown : {A : Type 0} (len : A → ℕ) (xs ys : List A) (p : ℕ) → p ≤ pos_by len xs → frames_from_by len (xs ++ ys) p ≡ frames_from_by len xs p ++ ys
unfolding frames_from_by pos_by
from_grown len [] ys p le =
    let none : p ≡ 0 = omega arith in
    ap (frames_from_by len ys) none ∙ from-zero len ys
from_grown len (x ∷ xs) ys p le = elim (cases_lt 0 p) [
  | inl above ↦ from-in len x (xs ++ ys) p above ∙ from_grown len xs ys (p - len x) (omega arith) ∙ ap (λ l. l ++ ys) (sym (from-in len x xs p above))
  | inr here ↦
      let none : p ≡ 0 = omega arith in
      rw none refl
]

-- ---- seen from a boundary on

pub acked_after : {A : Type 0} (len : A → ℕ) (xs : List A) (p d : ℕ) → IsBoundaryBy len xs p → acked_by len xs (p + d) ≡ p + acked_by len (frames_from_by len xs p) d
unfolding acked_by frames_from_by
acked_after len [] p d is = omega (arith, boundary_of_none len p is)
acked_after len (x ∷ xs) p d is = elim (cases_lt 0 p) [
  | inl above ↦ elim (boundary_cases len x xs p is) [
    | inl start ↦ absurd (omega arith)
    | inr after ↦
        let less : (p + d) - len x ≡ (p - len x) + d = omega (arith, after.0) in
        omega (arith, after.0, acked-in len x xs (p + d) (omega (arith, after.0)), ap (acked_by len xs) less, acked_after len xs (p - len x) d after.1, ap (λ l. acked_by len l d) (from-in len x xs p above))
  ]
  | inr here ↦
      let none : p ≡ 0 = omega arith in
      let all : p + d ≡ d = omega arith in
      omega (arith, none, ap (acked_by len (x ∷ xs)) all, ap (λ n. acked_by len (frames_from_by len (x ∷ xs) n) d) none, ap (λ l. acked_by len l d) (from-zero len (x ∷ xs)))
]

pub least_after : {A : Type 0} (len : A → ℕ) (xs : List A) (p d : ℕ) → IsBoundaryBy len xs p → least_boundary_by len xs (p + d) ≡ p + least_boundary_by len (frames_from_by len xs p) d
unfolding least_boundary_by frames_from_by
least_after len [] p d is = omega (arith, boundary_of_none len p is)
least_after len (x ∷ xs) p d is = elim (cases_lt 0 p) [
  | inl above ↦ elim (boundary_cases len x xs p is) [
    | inl start ↦ absurd (omega arith)
    | inr after ↦
        let less : (p + d) - len x ≡ (p - len x) + d = omega (arith, after.0) in
        omega (arith, after.0, least-in len x xs (p + d) (omega arith), ap (least_boundary_by len xs) less, least_after len xs (p - len x) d after.1, ap (λ l. least_boundary_by len l d) (from-in len x xs p above))
  ]
  | inr here ↦
      let none : p ≡ 0 = omega arith in
      let all : p + d ≡ d = omega arith in
      omega (arith, none, ap (least_boundary_by len (x ∷ xs)) all, ap (λ n. least_boundary_by len (frames_from_by len (x ∷ xs) n) d) none, ap (λ l. least_boundary_by len l d) (from-zero len (x ∷ xs)))
]

pub from_after : {A : Type 0} (len : A → ℕ) (xs : List A) (p d : ℕ) → IsBoundaryBy len xs p → frames_from_by len xs (p + d) ≡ frames_from_by len (frames_from_by len xs p) d
unfolding frames_from_by
from_after len [] p d is = refl
from_after len (x ∷ xs) p d is = elim (cases_lt 0 p) [
  | inl above ↦ elim (boundary_cases len x xs p is) [
    | inl start ↦ absurd (omega arith)
    | inr after ↦
        let less : (p + d) - len x ≡ (p - len x) + d = omega (arith, after.0) in
        from-in len x xs (p + d) (omega arith) ∙ ap (frames_from_by len xs) less ∙ from_after len xs (p - len x) d after.1 ∙ ap (λ l. frames_from_by len l d) (sym (from-in len x xs p above))
  ]
  | inr here ↦
      let none : p ≡ 0 = omega arith in
      let all : p + d ≡ d = omega arith in
      ap (frames_from_by len (x ∷ xs)) all ∙ sym (ap (λ n. frames_from_by len (frames_from_by len (x ∷ xs) n) d) none ∙ ap (λ l. frames_from_by len l d) (from-zero len (x ∷ xs)))
]

-- ---- what has the same lengths

pub pos-map : {A B : Type 0} (len : A → ℕ) (size : B → ℕ) (f : A → B) → ((x : A) → size (f x) ≡ len x) → (xs : List A) → pos_by size (map f xs) ≡ pos_by len xs
unfolding pos_by
pos-map len size f same [] = refl
pos-map len size f same (x ∷ xs) = omega (arith, same x, pos-map len size f same xs)

pub acked-map : {A B : Type 0} (len : A → ℕ) (size : B → ℕ) (f : A → B) → ((x : A) → size (f x) ≡ len x) → (xs : List A) (told : ℕ) → acked_by size (map f xs) told ≡ acked_by len xs told
unfolding acked_by
acked-map len size f same [] told = refl
acked-map len size f same (x ∷ xs) told = rw (same x, acked-map len size f same xs (told - len x)) refl

pub least-map : {A B : Type 0} (len : A → ℕ) (size : B → ℕ) (f : A → B) → ((x : A) → size (f x) ≡ len x) → (xs : List A) (low : ℕ) → least_boundary_by size (map f xs) low ≡ least_boundary_by len xs low
unfolding least_boundary_by
least-map len size f same [] low = refl
least-map len size f same (x ∷ xs) low = rw (same x, least-map len size f same xs (low - len x)) refl

pub from-map : {A B : Type 0} (len : A → ℕ) (size : B → ℕ) (f : A → B) → ((x : A) → size (f x) ≡ len x) → (xs : List A) (p : ℕ) → frames_from_by size (map f xs) p ≡ map f (frames_from_by len xs p)
unfolding frames_from_by
from-map len size f same [] p = refl
from-map len size f same (x ∷ xs) p = elim (cases_lt 0 p) [
  | inl above ↦ from-in size (f x) (map f xs) p above ∙ ap (λ n. frames_from_by size (map f xs) (p - n)) (same x) ∙ from-map len size f same xs (p - len x) ∙ ap (map f) (sym (from-in len x xs p above))
  | inr here ↦
      let none : p ≡ 0 = omega arith in
      ap (frames_from_by size (map f (x ∷ xs))) none ∙ from-zero size (map f (x ∷ xs)) ∙ ap (map f) (sym (ap (frames_from_by len (x ∷ xs)) none ∙ from-zero len (x ∷ xs)))
]

-- ---- boundaries seen from a boundary on, and of what has the same lengths

pub boundary_whole : {A : Type 0} (len : A → ℕ) (xs : List A) (p d : ℕ) → IsBoundaryBy len xs p → IsBoundaryBy len (frames_from_by len xs p) d → IsBoundaryBy len xs (p + d)
unfolding frames_from_by
boundary_whole len [] p d is rest = subst (IsBoundaryBy len []) (omega (arith, boundary_of_none len p is)) rest
boundary_whole len (x ∷ xs) p d is rest = elim (cases_lt 0 p) [
  | inl above ↦ elim (boundary_cases len x xs p is) [
    | inl start ↦ absurd (omega arith)
    | inr after ↦
        let same : len x + ((p - len x) + d) ≡ p + d = omega (arith, after.0) in
        subst (IsBoundaryBy len (x ∷ xs)) same (boundary_after len x xs ((p - len x) + d) (boundary_whole len xs (p - len x) d after.1 (subst (λ l. IsBoundaryBy len l d) (from-in len x xs p above) rest)))
  ]
  | inr here ↦
      let none : p ≡ 0 = omega arith in
      let all : d ≡ p + d = omega arith in
      subst (IsBoundaryBy len (x ∷ xs)) all (subst (λ l. IsBoundaryBy len l d) (ap (frames_from_by len (x ∷ xs)) none ∙ from-zero len (x ∷ xs)) rest)
]

pub boundary_rest : {A : Type 0} (len : A → ℕ) (xs : List A) (p d : ℕ) → IsBoundaryBy len xs p → IsBoundaryBy len xs (p + d) → IsBoundaryBy len (frames_from_by len xs p) d
unfolding frames_from_by
boundary_rest len [] p d is all = subst (IsBoundaryBy len []) (omega (arith, boundary_of_none len p is)) all
boundary_rest len (x ∷ xs) p d is all = elim (cases_lt 0 p) [
  | inl above ↦ elim (boundary_cases len x xs p is) [
    | inl start ↦ absurd (omega arith)
    | inr after ↦ elim (boundary_cases len x xs (p + d) all) [
      | inl none ↦ absurd (omega arith)
      | inr further ↦
          let same : (p + d) - len x ≡ (p - len x) + d = omega (arith, after.0) in
          subst (λ l. IsBoundaryBy len l d) (sym (from-in len x xs p above)) (boundary_rest len xs (p - len x) d after.1 (subst (IsBoundaryBy len xs) same further.1))
    ]
  ]
  | inr here ↦
      let none : p ≡ 0 = omega arith in
      let same : p + d ≡ d = omega arith in
      subst (λ l. IsBoundaryBy len l d) (sym (ap (frames_from_by len (x ∷ xs)) none ∙ from-zero len (x ∷ xs))) (subst (IsBoundaryBy len (x ∷ xs)) same all)
]

pub boundary-map : {A B : Type 0} (len : A → ℕ) (size : B → ℕ) (f : A → B) → ((x : A) → size (f x) ≡ len x) → (xs : List A) (p : ℕ) → IsBoundaryBy size (map f xs) p → IsBoundaryBy len xs p
boundary-map len size f same xs p (n, is) = (n, sym (ap (pos_by size) (take-map f n xs) ∙ pos-map len size f same (take n xs)) ∙ is)

pub boundary-mapped : {A B : Type 0} (len : A → ℕ) (size : B → ℕ) (f : A → B) → ((x : A) → size (f x) ≡ len x) → (xs : List A) (p : ℕ) → IsBoundaryBy len xs p → IsBoundaryBy size (map f xs) p
boundary-mapped len size f same xs p (n, is) = (n, ap (pos_by size) (take-map f n xs) ∙ pos-map len size f same (take n xs) ∙ is)
