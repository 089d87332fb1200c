use Rattle.std.proofs.Common.{List, ℕ, Option, sym, ap, ◌∙◌}
use Rattle.frame_text.specs.Fields.{frame_of}
use Rattle.frame_text.specs.Reading.{named_row}
use Rattle.frame_text.proofs.Bytes.{found_bytes, has_bytes}
use Rattle.frame_text.proofs.Told.{tells}
use Rattle.frame_text.proofs.reading.read_line.Goals as goal

pub returns-in-Ok-clause-bytes : goal.returns-in-Ok-clause-bytes
returns-in-Ok-clause-bytes c = found_bytes (frame_of c.in-Ok.fields) c.whole.result (has_bytes c.in-Ok.fields c.in-Ok.ensures.fits.1) c.whole.ensures.found

pub returns-in-Ok-clause-fault : goal.returns-in-Ok-clause-fault
returns-in-Ok-clause-fault c =
    tells c.args.line.now (frame_of c.in-Ok.fields) c.whole.result
    (sym (ap (λ (p : List ℕ × Option (List ℕ)). named_row p.0 p.1) c.next_word.ensures.cut) ∙ sym c.in-Ok.ensures.told)
    (c.next_word.ensures.whole ∙ c.in-Ok.ensures.line)
    c.in-Ok.ensures.fits.0
    (has_bytes c.in-Ok.fields c.in-Ok.ensures.fits.1)
    c.whole.ensures.fault
