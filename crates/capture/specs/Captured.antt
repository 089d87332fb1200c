-- A capture: frames in any spelling, each after its length (RSocket 1.0, "Framing Protocol Usage"), and the first that can't be read.
use Rattle.std.specs.Prelude.{◌≡◌, ℕ, ◌+◌, ◌<◌, ◌≤◌, List, [], ◌∷◌, ◌++◌, length, take, Some}
use Rattle.std.specs.List.{flat_map}
use Rattle.rs_frame.specs.declared.frame.Frame.{Frame}
use Rattle.rs_frame.specs.Spelling.{Spells}
use Rattle.rs_frame.specs.Rules.{broken}
use Rattle.rs_chunk.specs.Stream.{HasFrame, IsCut, first_frame}
use Rattle.plain_text.specs.Lines.{ended}
use Rattle.frame_text.specs.Lines.{line_of}
use Rattle.capture.specs.declared.TheConstants.{MOST_CAPTURE}
use Rattle.capture.specs.declared.lines.BadFrame.{BadFrame}
use Rattle.capture.specs.declared.lines.BadFrame.TheVariants as bads

-- the bytes of each frame spell it, one for one
unfoldable pub AreSpelled : List Frame → List (List ℕ) → Type 0
AreSpelled [] [] = Unit {0}
AreSpelled (f ∷ fs) (b ∷ bs) = Spells f b × AreSpelled fs bs
AreSpelled [] (b ∷ bs) = ⊥
AreSpelled (f ∷ fs) [] = ⊥

-- the bytes are these frames, each in some spelling after its length, and then a rest
pub record Holds (bytes : List ℕ) (frames : List Frame) (rest : List ℕ) : Type 0 where
  pub spellings : List (List ℕ)
  pub spelled : AreSpelled frames spellings
  pub cut : IsCut bytes spellings rest

-- the bytes are these frames and nothing else
pub record IsCapture (bytes : List ℕ) (frames : List Frame) : Type 0 where
  pub short : length bytes ≤ MOST_CAPTURE
  pub holds : Holds bytes frames []

-- what is wrong with the frame at the front: it is whole, and this is the least rule that it breaks; or it is not whole
abbrev pub IsWrong : List ℕ → BadFrame → Type 0
IsWrong bytes (bads.Breaks fault) = HasFrame bytes × (broken (first_frame bytes) ≡ Some fault)
IsWrong bytes bads.NotWhole = ¬ (HasFrame bytes)

-- the frame whose length field stands at this place, from 0, is the first that can't be read: these frames stand before it
pub record IsBadAt (bytes : List ℕ) (place : ℕ) (bad : BadFrame) (before : List Frame) : Type 0 where
  pub rest : List ℕ
  pub holds : Holds (take MOST_CAPTURE bytes) before rest
  pub place_is : place + length rest ≡ length (take MOST_CAPTURE bytes)
  pub there : place < length bytes
  pub wrong : IsWrong rest bad

-- each frame as a line, each line with its line feed
abbrev pub all_lines : List Frame → List ℕ
all_lines frames = flat_map (λ f. ended (line_of f)) frames

-- ---- words of the functions inside

-- the bytes are frames and a rest, and the lines of these frames were appended
pub record WroteLines (bytes rest old new : List ℕ) : Type 0 where
  pub frames : List Frame
  pub holds : Holds bytes frames rest
  pub lines : new ≡ old ++ all_lines frames
