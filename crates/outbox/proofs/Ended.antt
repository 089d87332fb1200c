-- The last item of a list is put in another one's place.
use Rattle.std.proofs.Common.{◌≡◌, ℕ, zero, suc, ◌++◌, List, [], ◌∷◌, length, refl, sym, ap, arith, slice_index_or, slice_set}

pub record EndsIn {X : Type 0} (xs : List X) (n : ℕ) (x y : X) : Type 0 where
  pub front : List X
  pub before : xs ≡ front ++ x ∷ []
  pub after : slice_set xs n y ≡ front ++ y ∷ []

pub ends_in : {X : Type 0} (xs : List X) (n : ℕ) (x y : X) → suc n ≡ length xs → x ≡ slice_index_or xs n x → EndsIn xs n x y
ends_in [] n x y size is = absurd (omega (arith, size))
ends_in (z ∷ []) zero x y size is = record { front = []; before = ap (λ w. w ∷ []) (sym is); after = refl }
ends_in (z ∷ []) (suc n) x y size is = absurd (omega (arith, size))
ends_in (z ∷ w ∷ xs) zero x y size is = absurd (omega (arith, size))
ends_in (z ∷ w ∷ xs) (suc n) x y size is =
    let rest = ends_in (w ∷ xs) n x y (omega (arith, size)) is in
    record { front = z ∷ rest.front; before = ap (λ l. z ∷ l) rest.before; after = ap (λ l. z ∷ l) rest.after }
