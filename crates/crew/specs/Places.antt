-- How places are left at which links of a net are served.
use Rattle.std.specs.Prelude.{◌≡◌, ◌⊎◌, ℕ, List, [], ◌∷◌, ◌++◌, length}

-- The lists are as long, and the two at each place are related.
abbrev pub Pairwise : {A B : Type 0} → (A → B → Type 0) → List A → List B → Type 0
Pairwise R [] [] = Unit {0}
Pairwise R (x ∷ xs) (y ∷ ys) = R x y × Pairwise R xs ys
Pairwise R _ _ = ⊥

-- At each place a link was accepted and served.
pub record AreAllServed {N P : Type 0} (accepted : ℕ → N → N → Type 0) (served : P → P → Type 0) (net net' : N) (places places' : List P) : Type 0 where
  pub each : Pairwise served places places'
  pub accepts : accepted (length places) net net'

-- At each place before one a link was accepted and served; there the one wait was in vain, and the places after it are as they were.
pub record AreServedUntil {N P : Type 0} (accepted : ℕ → N → N → Type 0) (served : P → P → Type 0) (missed : N → N → P → P → Type 0) (net net' : N) (places places' : List P) : Type 0 where
  pub before : List P
  pub before' : List P
  pub place : P
  pub place' : P
  pub rest : List P
  pub mid : N
  pub were : places ≡ before ++ place ∷ rest
  pub are : places' ≡ before' ++ place' ∷ rest
  pub each : Pairwise served before before'
  pub accepts : accepted (length before) net mid
  pub misses : missed mid net' place place'

-- Links were served place by place, from the first on, until one wait for the next was in vain.
abbrev pub AreServed : {N P : Type 0} → (ℕ → N → N → Type 0) → (P → P → Type 0) → (N → N → P → P → Type 0) → N → N → List P → List P → Type 0
AreServed accepted served missed net net' places places' =
    AreAllServed accepted served net net' places places' ⊎ AreServedUntil accepted served missed net net' places places'

-- However the links of the net leave these places, what is said of places holds of them.
pub record HoldsAfter {N P : Type 0} (accepted : ℕ → N → N → Type 0) (served : P → P → Type 0) (missed : N → N → P → P → Type 0) (net : N) (places : List P) (holds : List P → Type 0) : Type 0 where
  pub after : (net' : N) (left : List P) → AreServed accepted served missed net net' places left → holds left
