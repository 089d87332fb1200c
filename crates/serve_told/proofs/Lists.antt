-- Lists, place by place.
use Rattle.std.specs.List.{AllByRecursion}
use Rattle.std.proofs.Common.{◌≡◌, ◌<◌, ◌∙◌, ℕ, zero, suc, List, [], ◌∷◌, ◌++◌, length, slice_get, option_to_list, Option, Some, None, refl, sym, subst, arith}
use Rattle.conn_shared.specs.Members.{Knowledge}
use Rattle.crew.specs.Places.{Pairwise}
use Rattle.serve_fold.proofs.Columns.{column}

pub same_in : {A : Type 0} (a b : A) (o : Option A) → o ≡ Some a → o ≡ Some b → a ≡ b
same_in a b o is also = (let both : Some a ≡ Some b = sym is ∙ also in cc)

pub all_from : {A : Type 0} (P : A → Type 0) (xs : List A) → ((j : ℕ) (x : A) → slice_get xs j ≡ Some x → P x) → AllByRecursion P xs
all_from P [] each = tt
all_from P (x ∷ xs) each = (each 0 x refl, all_from P xs (λ j y is. each (suc j) y is))

pub all_at : {A : Type 0} (P : A → Type 0) (xs : List A) (i : ℕ) (x : A) → AllByRecursion P xs → slice_get xs i ≡ Some x → P x
all_at P [] i x all is = absurd (cc)
all_at P (y ∷ xs) zero x all is = subst P (let e : y ≡ x = cc in e) all.0
all_at P (y ∷ xs) (suc i) x all is = all_at P xs i x all.1 is

-- there is one within the list, and only there
pub got : {A : Type 0} (xs : List A) (i : ℕ) → i < length xs → (x : A) × (slice_get xs i ≡ Some x)
got [] i lt = absurd (omega (arith, lt))
got (x ∷ xs) zero lt = (x, refl)
got (x ∷ xs) (suc i) lt = got xs i (omega (arith, lt))

pub within : {A : Type 0} (xs : List A) (i : ℕ) (x : A) → slice_get xs i ≡ Some x → i < length xs
within [] i x is = absurd (cc)
within (y ∷ xs) zero x is = omega arith
within (y ∷ xs) (suc i) x is = let h = within xs i x is in omega (arith, h)

-- ---- two lists that are related place by place

pub pair_at : {A B : Type 0} (R : A → B → Type 0) (xs : List A) (ys : List B) (i : ℕ) (x : A) → Pairwise R xs ys → slice_get xs i ≡ Some x → (y : B) × (slice_get ys i ≡ Some y) × R x y
pair_at R [] [] i x p is = absurd (cc)
pair_at R [] (y ∷ ys) i x p is = absurd p
pair_at R (a ∷ xs) [] i x p is = absurd p
pair_at R (a ∷ xs) (y ∷ ys) zero x p is = (y, refl, subst (λ z. R z y) (let e : a ≡ x = cc in e) p.0)
pair_at R (a ∷ xs) (y ∷ ys) (suc i) x p is = pair_at R xs ys i x p.1 is

pub pair_from : {A B : Type 0} (R : A → B → Type 0) (xs : List A) (ys : List B) (i : ℕ) (y : B) → Pairwise R xs ys → slice_get ys i ≡ Some y → (x : A) × (slice_get xs i ≡ Some x) × R x y
pair_from R [] [] i y p is = absurd (cc)
pair_from R [] (b ∷ ys) i y p is = absurd p
pair_from R (a ∷ xs) [] i y p is = absurd p
pair_from R (a ∷ xs) (b ∷ ys) zero y p is = (a, refl, subst (λ z. R a z) (let e : b ≡ y = cc in e) p.0)
pair_from R (a ∷ xs) (b ∷ ys) (suc i) y p is = pair_from R xs ys i y p.1 is

-- ---- a column of rows

abbrev pub place_in : ℕ → Option (List Knowledge) → Option Knowledge
place_in i None = None
place_in i (Some row) = slice_get row i

pub column_at : (i : ℕ) (rows : List (List Knowledge)) (k : ℕ) → AllByRecursion (λ (row : List Knowledge). i < length row) rows → slice_get (column i rows) k ≡ place_in i (slice_get rows k)
column_at i [] k all = refl
column_at i (row ∷ rows) k all = by k (slice_get row i) refl (λ j. column_at i rows j all.1)
  where
    by : (k : ℕ) (o : Option Knowledge) → slice_get row i ≡ o → ((j : ℕ) → slice_get (column i rows) j ≡ place_in i (slice_get rows j)) → slice_get (option_to_list o ++ column i rows) k ≡ place_in i (slice_get (row ∷ rows) k)
    by k None none rest = absurd (let c = got row i all.0 in let h : None ≡ Some c.0 = sym none ∙ c.1 in cc)
    by zero (Some c) is rest = sym is
    by (suc k) (Some c) is rest = rest k
