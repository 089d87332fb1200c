-- The lines of a capture read back, and the first line that is that of no frame.
use Rattle.std.specs.Prelude.{◌≡◌, ℕ, ◌+◌, ◌<◌, ◌≤◌, ◌⊎◌, List, ◌++◌, length, take}
use Rattle.std.specs.List.{AllByRecursion}
use Rattle.rs_frame.specs.declared.frame.Frame.{Frame}
use Rattle.rs_frame.specs.Spelling.{IsSpellable}
use Rattle.rs_frame.specs.Framed.{framed_all, framed_frame}
use Rattle.plain_text.specs.Lines.{ended}
use Rattle.frame_text.specs.declared.fault.TextFault.{TextFault}
use Rattle.frame_text.specs.declared.fault.TextFault.TheVariants as texts
use Rattle.frame_text.specs.Lines.{HasBytes, line_of}
use Rattle.capture.specs.declared.back.LineFault.{LineFault}
use Rattle.capture.specs.declared.back.LineFault.TheVariants as faults
use Rattle.capture.specs.Captured.{all_lines}
use Rattle.capture.specs.declared.TheConstants.{MOST_CAPTURE}

-- a frame that bytes can spell
abbrev pub IsFrame : Frame → Type 0
IsFrame f = IsSpellable f × HasBytes f

-- the text is the lines of these frames; the last line feed may be missing
pub record IsTextOf (text : List ℕ) (frames : List Frame) : Type 0 where
  pub short : length text ≤ MOST_CAPTURE
  pub are_frames : AllByRecursion IsFrame frames
  pub lines : (text ≡ all_lines frames) ⊎ (ended text ≡ all_lines frames)

-- the rest begins with the line of this frame; where it is the last of the text, its line feed may be missing
abbrev pub BeginsWith : List ℕ → List ℕ → Frame → Type 0
BeginsWith text rest f = ((after : List ℕ) × (rest ≡ ended (line_of f) ++ after)) ⊎ ((length text ≤ MOST_CAPTURE) × (rest ≡ line_of f))

-- the line of this number, from 1, is the first that is the line of no frame, or that passes the limit: the lines of these frames stand before it
pub record IsWrongLine (text : List ℕ) (number : ℕ) (before : List Frame) : Type 0 where
  pub rest : List ℕ
  pub are_frames : AllByRecursion IsFrame before
  pub parts : take MOST_CAPTURE text ≡ all_lines before ++ rest
  pub number_is : length before + 1 ≡ number
  pub there : length (all_lines before) < length text
  pub wrong : (f : Frame) → IsFrame f → ¬ (BeginsWith text rest f)

-- the frames of the text were appended, each in its canonical bytes after its length
pub record WroteFrames (text old new : List ℕ) : Type 0 where
  pub frames : List Frame
  pub is_text : IsTextOf text frames
  pub appended : new ≡ old ++ framed_all frames

-- where each fault of a text comes: the first wrong line is named; out of memory says nothing of the text
abbrev pub IsLineFault : List ℕ → LineFault → Type 0
IsLineFault text (faults.Line number) = (before : List Frame) × IsWrongLine text number before
IsLineFault text faults.OutOfMemory = Unit {0}

-- ---- words of the functions inside

-- the frame of the line was appended
pub record WroteFrame (line old new : List ℕ) : Type 0 where
  pub frame : Frame
  pub is_frame : IsFrame frame
  pub line_is : line ≡ line_of frame
  pub appended : new ≡ old ++ framed_frame frame

-- the fault of a line of this number that was not read
abbrev pub line_fault : TextFault → ℕ → LineFault
line_fault texts.OutOfMemory number = faults.OutOfMemory
line_fault _ number = faults.Line number

-- where each fault of one line comes: a wrong line is that of no frame; out of memory says nothing of it
abbrev pub IsFaultOfLine : List ℕ → ℕ → LineFault → Type 0
IsFaultOfLine line number (faults.Line n) = (n ≡ number) × ((f : Frame) → IsFrame f → ¬ (line ≡ line_of f))
IsFaultOfLine line number faults.OutOfMemory = Unit {0}
