-- Positions: bytes of resumable frames, without their length fields (RSocket 1.0, "Resuming Operation"). The oldest
-- frame is the first. What is defined by a length `len` is so of frames and of their bytes alike.
use Rattle.std.specs.Prelude.{◌≡◌, ℕ, ◌+◌, ◌-◌, ◌==◌, ◌||◌, ◌&&◌, Bool, nat_le, max, if◌then◌else◌, List, [], ◌∷◌, take}
use Rattle.rs_frame.specs.declared.frame.Frame.{Frame}
use Rattle.rs_frame.specs.Spelling.{length_of}

-- the position after the frames: the sum of their lengths
unfoldable pub pos_by : {A : Type 0} → (A → ℕ) → List A → ℕ
pos_by len [] = 0
pos_by len (f ∷ fs) = len f + pos_by len fs

-- the position after some first frames
abbrev pub IsBoundaryBy : {A : Type 0} → (A → ℕ) → List A → ℕ → Type 0
IsBoundaryBy len fs p = (n : ℕ) × (pos_by len (take n fs) ≡ p)

-- there is a boundary at the position
unfoldable pub is_boundary_by : {A : Type 0} → (A → ℕ) → List A → ℕ → Bool
is_boundary_by len [] p = p == 0
is_boundary_by len (f ∷ fs) p = (p == 0) || (nat_le (len f) p && is_boundary_by len fs (p - len f))

-- the greatest boundary that is not above the position up to which the peer is known to have them
unfoldable pub acked_by : {A : Type 0} → (A → ℕ) → List A → ℕ → ℕ
acked_by len [] told = 0
acked_by len (f ∷ fs) told = if nat_le (len f) told then len f + acked_by len fs (told - len f) else 0

-- the least boundary that is at least `low`; where there is none, the position after all frames
unfoldable pub least_boundary_by : {A : Type 0} → (A → ℕ) → List A → ℕ → ℕ
least_boundary_by len [] low = 0
least_boundary_by len (f ∷ fs) low = if low == 0 then 0 else len f + least_boundary_by len fs (low - len f)

-- the frames from a boundary on
unfoldable pub frames_from_by : {A : Type 0} → (A → ℕ) → List A → ℕ → List A
frames_from_by len [] p = []
frames_from_by len (f ∷ fs) p = if p == 0 then f ∷ fs else frames_from_by len fs (p - len f)

-- the same of frames

abbrev pub pos : List Frame → ℕ
pos fs = pos_by length_of fs

abbrev pub IsBoundary : List Frame → ℕ → Type 0
IsBoundary fs p = IsBoundaryBy length_of fs p

abbrev pub is_boundary : List Frame → ℕ → Bool
is_boundary fs p = is_boundary_by length_of fs p

abbrev pub acked : List Frame → ℕ → ℕ
acked fs told = acked_by length_of fs told

abbrev pub least_boundary : List Frame → ℕ → ℕ
least_boundary fs low = least_boundary_by length_of fs low

-- where the frames begin that are held: those that the peer may still need, and at most `hold` bytes of them
abbrev pub first : List Frame → ℕ → ℕ → ℕ
first fs told hold = least_boundary fs (max (acked fs told) (pos fs - hold))

abbrev pub frames_from : List Frame → ℕ → List Frame
frames_from fs p = frames_from_by length_of fs p
