use Rattle.std.proofs.Common.{◌≡◌, ℕ, List, length, take, [], min, subst, ap, ◌∙◌}
use Rattle.std.proofs.lemmas.List.{take_min}
use Rattle.capture.specs.declared.TheConstants.{MOST_CAPTURE}
use Rattle.capture.specs.Captured.{IsBadAt, WroteLines}
use Rattle.capture.proofs.Reading.{passes_limit, within}
use Rattle.capture.proofs.lines.to_lines.Goals as goal

-- what is read
read : (bytes : List ℕ) (n : ℕ) → n ≡ min MOST_CAPTURE (length bytes) → take n bytes ≡ take MOST_CAPTURE bytes
read bytes n is = ap (λ (k : ℕ). take k bytes) is ∙ take_min MOST_CAPTURE bytes

pub returns-in-Ok-clause-frame : goal.returns-in-Ok-clause-frame
returns-in-Ok-clause-frame c place bad e =
    passes_limit c.args.bytes.now c.args.out.now.items c.write_lines-done.new.out.items place bad c.if-bytes-gt-MOST_CAPTURE.true (cc e) (cc e)
    (subst (λ (t : List ℕ). WroteLines t [] c.args.out.now.items c.write_lines-done.new.out.items) (read c.args.bytes.now c.min.result c.min.ensures) c.in-Ok.ensures.whole)

pub returns-in_default-2-clause-frame : goal.returns-in_default-2-clause-frame
returns-in_default-2-clause-frame c place bad e =
    let found = c.write_lines-done.ensures.frame place bad e in
    (found.0, within c.args.bytes.now place bad found.0 (subst (λ (t : List ℕ). IsBadAt t place bad found.0) (read c.args.bytes.now c.min.result c.min.ensures) found.1), found.2)
