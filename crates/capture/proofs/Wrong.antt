-- A line that is not read is that of no frame.
use Rattle.std.proofs.Common.{◌≡◌, ℕ, List, Ok, Err, refl, sym, ap, ◌∙◌, arith}
use Rattle.rs_frame.specs.declared.frame.Frame.{Frame}
use Rattle.rs_frame.specs.Spelling.{length_of}
use Rattle.frame_text.specs.declared.fault.TextFault.{TextFault}
use Rattle.frame_text.specs.declared.fault.TextFault.TheVariants as texts
use Rattle.frame_text.specs.Lines.{line_of}
use Rattle.frame_text.specs.Reading.{IsRightLine, Tells, words_of}
use Rattle.frame_text.proofs.OneFrame.{one_frame}
use Rattle.frame_text.proofs.RightWords.{line_reads}
use Rattle.capture.specs.Text.{IsFaultOfLine, IsFrame, line_fault}

-- a line with a wrong word
bad_word : (line : List ℕ) (f : Frame) → ¬ (words_of line ≡ Ok tt) → IsFrame f → ¬ (line ≡ line_of f)
bad_word line f wrong is same = wrong (ap words_of same ∙ line_reads f is.0.fields is.1)

-- the line of a frame that is too long
too_long : (line : List ℕ) (n : ℕ) (f : Frame) → IsRightLine line (texts.TooLong n) → IsFrame f → ¬ (line ≡ line_of f)
too_long line n f r is same =
    let one : r.frame ≡ f = one_frame r.frame f r.fits r.has_bytes is.0.fields is.1 (sym r.line_is ∙ same) in
    let len : length_of r.frame ≡ length_of f = ap length_of one in
    absurd (omega (arith, len, r.fault_is.0, r.fault_is.1, is.0.short))

pub not_read : (line : List ℕ) (number : ℕ) (fault : TextFault) → Tells line (Err fault) → IsFaultOfLine line number (line_fault fault number)
not_read line number (texts.BadWord place) told = (refl, λ f. bad_word line f (λ right. absurd cc))
not_read line number (texts.BadNumber place) told = (refl, λ f. bad_word line f (λ right. absurd cc))
not_read line number (texts.BadHex place) told = (refl, λ f. bad_word line f (λ right. absurd cc))
not_read line number (texts.TooLong n) told = (refl, λ f is. too_long line n f told is)
not_read line number texts.OutOfMemory told = tt
