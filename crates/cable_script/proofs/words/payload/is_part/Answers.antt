use Rattle.std.proofs.Common.{sym, ◌∙◌}
use Rattle.cable_script.proofs.Texts.{part_again, part_says}
use Rattle.cable_script.proofs.words.payload.is_part.Goals as goal

pub returns-clause-spelled : goal.returns-clause-spelled
returns-clause-spelled c = λ right. part_says c.args.word.now (sym c.is_hex_word.ensures.value ∙ right)

pub returns-clause-only : goal.returns-clause-only
returns-clause-only c = λ bytes right is. c.is_hex_word.ensures.value ∙ part_again c.args.word.now bytes right is
