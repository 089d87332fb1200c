-- Frames on a stream: each after its length, as a number of 24 bits (RSocket 1.0, "Framing Protocol Usage").
use Rattle.std.specs.Prelude.{◌≡◌, ℕ, ◌+◌, ◌<◌, ◌≤◌, ◌^◌, List, ◌++◌, length, take, drop}
use Rattle.std.specs.List.{flat_map, AllByRecursion}
use Rattle.byteorder.specs.Endian.{big_number}
use Rattle.rs_frame.specs.Framed.{framed}
use Rattle.rs_frame.specs.Spelling.{Spells, IsSpellable}
use Rattle.rs_frame.specs.Views.{BreaksRule, frame_view}
use Rattle.rs_chunk.specs.declared.front.Front.{Front}
use Rattle.rs_chunk.specs.declared.front.Front.TheVariants.{Whole, TooLong, Part}
use Rattle.rs_chunk.specs.declared.front.FrontView.{FrontView}
use Rattle.rs_chunk.specs.declared.front.FrontView.TheVariants as views

-- the bytes begin with a length field, and the length in it
abbrev pub HasLength : List ℕ → Type 0
HasLength bytes = 3 ≤ length bytes

abbrev pub first_length : List ℕ → ℕ
first_length bytes = big_number 3 bytes

-- the bytes begin with a whole frame
abbrev pub HasFrame : List ℕ → Type 0
HasFrame bytes = HasLength bytes × (first_length bytes + 3 ≤ length bytes)

-- its bytes
abbrev pub first_frame : List ℕ → List ℕ
first_frame bytes = take (first_length bytes) (drop 3 bytes)

-- what follows it
abbrev pub after_frame : List ℕ → List ℕ
after_frame bytes = drop (first_length bytes) (drop 3 bytes)

-- the bytes begin with a whole frame of at most `most` bytes
abbrev pub IsWhole : List ℕ → ℕ → Type 0
IsWhole bytes most = HasFrame bytes × (first_length bytes ≤ most)

-- the bytes begin with a length above `most`
abbrev pub IsTooLong : List ℕ → ℕ → Type 0
IsTooLong bytes most = HasLength bytes × (most < first_length bytes)

-- what stands at the front of the bytes, where a frame may have `most` bytes: one of three, and never two
abbrev pub IsFront : List ℕ → ℕ → Front → Type 0
IsFront bytes most (Whole frame) = IsWhole bytes most × (frame.now ≡ first_frame bytes)
IsFront bytes most (TooLong len) = IsTooLong bytes most × (len ≡ first_length bytes)
IsFront bytes most Part = (¬ (IsWhole bytes most)) × (¬ (IsTooLong bytes most))

-- what stands there, where the frame lies in the bytes
abbrev pub IsFrontView : List ℕ → ℕ → FrontView → Type 0
IsFrontView bytes most (views.Frame f) = IsWhole bytes most × Spells (frame_view f) (first_frame bytes) × IsSpellable (frame_view f)
IsFrontView bytes most (views.Wrong n) = IsWhole bytes most × BreaksRule n (first_frame bytes)
IsFrontView bytes most (views.TooLong len) = IsTooLong bytes most × (len ≡ first_length bytes)
IsFrontView bytes most views.Part = (¬ (IsWhole bytes most)) × (¬ (IsTooLong bytes most))

-- the bytes are these frames, each after its length, and then a rest
pub record IsCut (bytes : List ℕ) (frames : List (List ℕ)) (rest : List ℕ) : Type 0 where
  pub whole : bytes ≡ flat_map framed frames ++ rest
  pub fit : AllByRecursion (λ f. length f < 2 ^ 24) frames

-- all whole frames of the bytes, and a rest that begins with none
pub record Reads (bytes : List ℕ) (frames : List (List ℕ)) (rest : List ℕ) : Type 0 where
  pub cut : IsCut bytes frames rest
  pub no_more : ¬ (HasFrame rest)
