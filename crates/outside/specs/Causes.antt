-- The cause of a failure: a count that rose; and the moments that a clock gives.
use Rattle.std.specs.Prelude.{◌≡◌, ℕ, ◌+◌, ◌-◌, ◌<◌, ◌^◌, ◌⊎◌, min, List, Option, IfSome, Contains}

-- a count rose in a call, or it stands where a u64 ends
abbrev pub Rose : ℕ → ℕ → Type 0
Rose old new = (old < new) ⊎ (new ≡ 2 ^ 64 - 1)

-- one more, in a count that stands still where a u64 ends
abbrev pub one_more : ℕ → ℕ
one_more count = min (count + 1) (2 ^ 64 - 1)

-- a moment of a clock, where it shows those that it may give
abbrev pub IsMoment : Option (List ℕ) → ℕ → Type 0
IsMoment moments now = IfSome moments (λ told. Contains told now)
