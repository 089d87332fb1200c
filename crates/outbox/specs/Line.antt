-- The bytes that wait: own ones, and before them the line, in which own bytes and held ones stand in their order.
use Rattle.std.specs.Prelude.{◌≡◌, ℕ, ◌+◌, ◌-◌, suc, List, [], ◌∷◌, ◌++◌, length, replicate, map, Option, Some, None}
use Rattle.replay_buffer.specs.Held.{Held, Spare}

-- each byte of the line, a held one or the next own one; what is held; and for how much there is room
pub record Line : Type 0 where
  pub bytes : List (Option ℕ)
  pub held : Held
  pub spare : Spare
  pub room : ℕ

abbrev pub nothing_in_line : ℕ → Line → Type 0
nothing_in_line hold l = (l.bytes ≡ []) × (l.held ≡ record { first = 0; frames = []; hold = hold }) × (l.spare ≡ record { frames = 0; bytes = 0 })

-- how many own bytes stand in it
unfoldable pub own_in : List (Option ℕ) → ℕ
own_in [] = 0
own_in (None ∷ bs) = suc (own_in bs)
own_in (Some x ∷ bs) = own_in bs

-- the bytes of the line, and then the other own ones
unfoldable pub weave : List (Option ℕ) → (own : List ℕ) → List ℕ
weave [] own = own
weave (Some x ∷ bs) own = x ∷ weave bs own
weave (None ∷ bs) [] = []
weave (None ∷ bs) (x ∷ own) = x ∷ weave bs own

-- so many own bytes, and then these held ones
abbrev pub run : ℕ → List ℕ → List (Option ℕ)
run own held = replicate own None ++ map Some held
