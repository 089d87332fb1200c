use Rattle.cable_script.proofs.Texts.{no_line}
use Rattle.cable_script.proofs.words.words_of.Goals as goal

pub returns-clause-none : goal.returns-clause-none
returns-clause-none c =
    no_line c.args.line.now c.single_word_of.result (c.in_default.ensures.ask, c.in_default.ensures.many) (c.in_default-line_at.ensures.ask, c.in_default-line_at.ensures.many) (c.in_default-carrying_of.ensures.up, c.in_default-carrying_of.ensures.down, c.in_default-carrying_of.ensures.late) c.in_default-tick_of.ensures.none c.single_word_of.ensures.none
