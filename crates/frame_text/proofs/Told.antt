-- What an answer tells of a line whose words are right.
use Rattle.std.proofs.Common.{◌≡◌, List, ℕ, Result, Ok, Err}
use Rattle.std.specs.Prelude.{IfErr}
use Rattle.rs_frame.specs.declared.frame.Frame.{Frame}
use Rattle.rs_frame.specs.Spelling.{FieldsFit}
use Rattle.frame_text.specs.declared.fault.TextFault.{TextFault}
use Rattle.frame_text.specs.declared.fault.TextFault.TheVariants as faults
use Rattle.frame_text.specs.Lines.{HasBytes, line_of}
use Rattle.frame_text.specs.Reading.{IsFaultOfFrame, Tells, words_of}

pub tells : (line : List ℕ) (f : Frame) (answer : Result Frame TextFault) → words_of line ≡ Ok tt → line ≡ line_of f → FieldsFit f → HasBytes f → IfErr answer (IsFaultOfFrame f) → Tells line answer
tells line f (Ok g) words is fits has fault = words
tells line f (Err (faults.BadWord place)) words is fits has fault = absurd fault
tells line f (Err (faults.BadNumber place)) words is fits has fault = absurd fault
tells line f (Err (faults.BadHex place)) words is fits has fault = absurd fault
tells line f (Err (faults.TooLong n)) words is fits has fault = record { frame = f; words = words; line_is = is; fits = fits; has_bytes = has; fault_is = fault }
tells line f (Err faults.OutOfMemory) words is fits has fault = record { frame = f; words = words; line_is = is; fits = fits; has_bytes = has; fault_is = fault }
