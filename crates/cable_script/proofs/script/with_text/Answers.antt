use Rattle.std.proofs.Common.{sym, ◌∙◌}
use Rattle.cable_script.proofs.Texts.{line_of_words}
use Rattle.cable_script.proofs.Reading.{line_read, setting_read, wrong_after, wrong_both}
use Rattle.cable_script.proofs.script.with_text.Goals as goal

pub returns-in-Some-clause-read : goal.returns-in-Some-clause-read
returns-in-Some-clause-read c = λ texts read.
    let l = line_of_words c.in-Some.words c.in-Some.ensures.some.1 in
    line_read texts _ _ _ _ _ (sym c.is_passed.ensures ∙ c.if-is_passed.false) c.in-Some.ensures.some.0 (l.0, l.2, l.1) c.with_line.ensures read

pub returns-then-reading-clause-wrong : goal.returns-then-reading-clause-wrong
returns-then-reading-clause-wrong c = λ texts read. wrong_after texts _ _ _ (sym c.is_passed.ensures ∙ c.if-is_passed.false) c.if-reading.true c.in_default.ensures.none read

pub returns-in_err-words-clause-wrong : goal.returns-in_err-words-clause-wrong
returns-in_err-words-clause-wrong c = rw c.from_residual.ensures (λ texts read. wrong_both texts _ (sym c.is_passed.ensures ∙ c.if-is_passed.false) c.in_default.ensures.none c.in_err-words.ensures.none)

pub returns-clause-read : goal.returns-clause-read
returns-clause-read c = λ texts read.
    setting_read texts _ _ _ _ _ (sym c.is_passed.ensures ∙ c.if-is_passed.false) c.if-reading.false c.in_ok-words.ensures.some.0 c.in_ok-words.ensures.some.1 c.with_setting.ensures read
