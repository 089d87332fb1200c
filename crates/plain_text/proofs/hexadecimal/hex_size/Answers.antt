use Rattle.std.proofs.Common.{ℕ, List, length, sym, ap, ◌∙◌}
use Rattle.plain_text.proofs.Hex.{half, no_bytes}
use Rattle.plain_text.proofs.hexadecimal.hex_size.Goals as goal

pub returns-then-is_mark-clause-value : goal.returns-then-is_mark-clause-value
returns-then-is_mark-clause-value c = sym (ap (λ (w : List ℕ). length w) (no_bytes c.args.mark c.args.word.now (sym c.is_mark.ensures ∙ c.if-is_mark.true)))

pub returns-clause-value : goal.returns-clause-value
returns-clause-value c = half c.args.mark c.args.word.now (sym c.is_mark.ensures ∙ c.if-is_mark.false) c.requires
