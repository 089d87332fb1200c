-- Totals over the views, counts in lists, and beginnings of lists.
use Rattle.std.proofs.Common.{◌≡◌, ◌≢◌, ℕ, zero, suc, ◌+◌, ◌≤◌, List, [], ◌∷◌, ◌++◌, length, drop, set, sym, refl, ap, ◌∙◌, arith}
use mathlib.Core.List.{IsPrefix}
use mathlib.Core.Option.{some, some-injective, some-ne-none}
use lib.ListN.{get_elem?}
use Rattle.std.proofs.lemmas.Bool.Decides.{nat_tests}
use Rattle.conn_lock.specs.Callers.{times, calls}
use Rattle.conn_lock.specs.Rule.{total}

module _ {A : Type 0} (f : A → ℕ) where
  pub total_set : (vs : List A) (i : ℕ) (v w : A) → get_elem? vs i ≡ some v → total f (set vs i w) + f v ≡ total f vs + f w
  total_set [] i v w e = absurd (some-ne-none v (sym e))
  total_set (x ∷ xs) zero v w e = let h = ap f (some-injective x v e) in omega arith
  total_set (x ∷ xs) (suc i) v w e = let h = total_set xs i v w e in omega arith

  pub total_at : (vs : List A) (i : ℕ) (v : A) → get_elem? vs i ≡ some v → f v ≤ total f vs
  total_at [] i v e = absurd (some-ne-none v (sym e))
  total_at (x ∷ xs) zero v e = let h = ap f (some-injective x v e) in omega arith
  total_at (x ∷ xs) (suc i) v e = let h = total_at xs i v e in omega arith

  pub total_both : (vs : List A) (i j : ℕ) (v w : A) → i ≢ j → get_elem? vs i ≡ some v → get_elem? vs j ≡ some w → f v + f w ≤ total f vs
  total_both [] i j v w n a b = absurd (some-ne-none v (sym a))
  total_both (x ∷ xs) zero zero v w n a b = absurd (n refl)
  total_both (x ∷ xs) zero (suc j) v w n a b = let h = ap f (some-injective x v a) in let k = total_at xs j w b in omega arith
  total_both (x ∷ xs) (suc i) zero v w n a b = let h = ap f (some-injective x w b) in let k = total_at xs i v a in omega arith
  total_both (x ∷ xs) (suc i) (suc j) v w n a b = let h = total_both xs i j v w (λ e. n (ap suc e)) a b in omega arith

  pub total_snoc : (vs : List A) (w : A) → total f (vs ++ w ∷ []) ≡ total f vs + f w
  total_snoc [] w = omega arith
  total_snoc (x ∷ xs) w = let h = total_snoc xs w in omega arith

  -- one is parted in two
  pub total_split : (vs : List A) (i : ℕ) (v w x : A) → get_elem? vs i ≡ some v → total f (set vs i w ++ x ∷ []) + f v ≡ total f vs + f w + f x
  total_split vs i v w x e = omega (arith, total_set vs i v w e, total_snoc (set vs i w) x)

  -- two are changed, one after the other
  pub total_two : (vs : List A) (i j : ℕ) (v w x y : A) → get_elem? vs i ≡ some v → get_elem? (set vs i x) j ≡ some w → total f (set (set vs i x) j y) + f v + f w ≡ total f vs + f x + f y
  total_two vs i j v w x y e d = omega (arith, total_set vs i v x e, total_set (set vs i x) j w y d)

  pub total_zero : (vs : List A) → ((i : ℕ) (v : A) → get_elem? vs i ≡ some v → f v ≡ 0) → total f vs ≡ 0
  total_zero [] h = refl
  total_zero (x ∷ xs) h = let a = h 0 x refl in let b = total_zero xs (λ i v e. h (suc i) v e) in omega arith

pub times_append : (x : ℕ) (xs ys : List ℕ) → times x (xs ++ ys) ≡ times x xs + times x ys
times_append x [] ys = omega arith
times_append x (a ∷ xs) ys = let h = times_append x xs ys in omega arith

module _ {E : Type 0} (number : E → ℕ) where
  pub calls_append : (x : ℕ) (xs ys : List E) → calls number x (xs ++ ys) ≡ calls number x xs + calls number x ys
  calls_append x [] ys = omega arith
  calls_append x (e ∷ xs) ys = let h = calls_append x xs ys in omega arith

  pub calls_prefix : (x : ℕ) (a b : List E) → IsPrefix a b → calls number x a ≤ calls number x b
  calls_prefix x a b p = let h = calls_append x a p.0 in let e : calls number x (a ++ p.0) ≡ calls number x b = ap (calls number x) p.1 in omega arith

  -- entries of the number x alone are of no other number
  pub calls_other : (x y : ℕ) → x ≢ y → (es : List E) → calls number x es + calls number y es ≤ length es
  calls_other x y n [] = omega arith
  calls_other x y n (e ∷ es) = let h = calls_other x y n es in grind (arith, nat_tests)

  -- a list without calls of any number is empty
  pub no_calls : (es : List E) → ((x : ℕ) → calls number x es ≡ 0) → es ≡ []
  no_calls [] h = refl
  no_calls (e ∷ es) h = let a = h (number e) in absurd (grind (arith, nat_tests))

-- of two beginnings of one list the shorter begins the longer
pub begins_longer : {E : Type 0} (a b list : List E) → IsPrefix a list → IsPrefix b list → length a ≤ length b → IsPrefix a b
begins_longer [] b list p q le = (b, refl)
begins_longer (x ∷ a) [] list p q le = absurd (omega (arith, le))
begins_longer (x ∷ a) (y ∷ b) [] p q le = absurd (some-ne-none x (ap (λ l. get_elem? l 0) p.1))
begins_longer (x ∷ a) (y ∷ b) (z ∷ list) p q le =
    let h = begins_longer a b list (p.0, ap (drop 1) p.1) (q.0, ap (drop 1) q.1) (omega (arith, le)) in
    let same : x ≡ y = some-injective x y (ap (λ l. get_elem? l 0) p.1 ∙ sym (ap (λ l. get_elem? l 0) q.1)) in
    (h.0, λ i. same i ∷ h.1 i)
