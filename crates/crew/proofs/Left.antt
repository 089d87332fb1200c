-- What holds of all places once the links have left them, from what holds of each place before.
use Rattle.std.specs.List.{AllByRecursion}
use Rattle.std.proofs.Common.{inl, inr, ℕ, List, [], ◌∷◌, ◌++◌, sym, subst}
use Rattle.crew.specs.Places.{Pairwise, AreServed, HoldsAfter}

pub all_by_pairs : {P : Type 0} (served : P → P → Type 0) (was is : P → Type 0) → ((p q : P) → was p → served p q → is q)
    → (xs ys : List P) → AllByRecursion was xs → Pairwise served xs ys → AllByRecursion is ys
all_by_pairs served was is f [] [] h e = tt
all_by_pairs served was is f (x ∷ xs) (y ∷ ys) h e = (f x y h.0 e.0, all_by_pairs served was is f xs ys h.1 e.1)
all_by_pairs served was is f [] (y ∷ ys) h e = absurd e
all_by_pairs served was is f (x ∷ xs) [] h e = absurd e

pub all_by_each : {P : Type 0} (was is : P → Type 0) → ((p : P) → was p → is p) → (xs : List P) → AllByRecursion was xs → AllByRecursion is xs
all_by_each was is f [] h = tt
all_by_each was is f (x ∷ xs) h = (f x h.0, all_by_each was is f xs h.1)

pub all_until : {P : Type 0} (served missed : P → P → Type 0) (was is : P → Type 0)
    → ((p q : P) → was p → served p q → is q) → ((p q : P) → was p → missed p q → is q) → ((p : P) → was p → is p)
    → (before before' : List P) (p q : P) (rest : List P) → AllByRecursion was (before ++ p ∷ rest) → Pairwise served before before' → missed p q → AllByRecursion is (before' ++ q ∷ rest)
all_until served missed was is f g k [] [] p q rest h e vain = (g p q h.0 vain, all_by_each was is k rest h.1)
all_until served missed was is f g k (x ∷ xs) (y ∷ ys) p q rest h e vain = (f x y h.0 e.0, all_until served missed was is f g k xs ys p q rest h.1 e.1 vain)
all_until served missed was is f g k [] (y ∷ ys) p q rest h e vain = absurd e
all_until served missed was is f g k (x ∷ xs) [] p q rest h e vain = absurd e

-- Each place was so; served, or met by a wait in vain, or left alone, it is so. Then all places are.
pub all_left : {N P : Type 0} (accepted : ℕ → N → N → Type 0) (served : P → P → Type 0) (missed : N → N → P → P → Type 0) (was is : P → Type 0)
    → ((p q : P) → was p → served p q → is q) → ((n m : N) (p q : P) → was p → missed n m p q → is q) → ((p : P) → was p → is p)
    → (net net' : N) (places left : List P) → AllByRecursion was places → AreServed accepted served missed net net' places left → AllByRecursion is left
all_left accepted served missed was is f g k net net' places left h (inl all) = all_by_pairs served was is f places left h all.each
all_left accepted served missed was is f g k net net' places left h (inr u) =
    let before = subst (AllByRecursion was) u.were h in
    subst (AllByRecursion is) (sym u.are) (all_until served (missed u.mid net') was is f (g u.mid net') k u.before u.before' u.place u.place' u.rest before u.each u.misses)

-- So a last task that asks this of each place may be done however the links leave them.
pub holds_after : {N P : Type 0} (accepted : ℕ → N → N → Type 0) (served : P → P → Type 0) (missed : N → N → P → P → Type 0) (was is : P → Type 0)
    → ((p q : P) → was p → served p q → is q) → ((n m : N) (p q : P) → was p → missed n m p q → is q) → ((p : P) → was p → is p)
    → (net : N) (places : List P) → AllByRecursion was places → HoldsAfter accepted served missed net places (AllByRecursion is)
holds_after accepted served missed was is f g k net places h = record { after = λ net' left are. all_left accepted served missed was is f g k net net' places left h are }
