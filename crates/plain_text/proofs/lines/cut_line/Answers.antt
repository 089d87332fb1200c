use Rattle.plain_text.proofs.Feeds.{a_line, cut_lines, no_line}
use Rattle.plain_text.proofs.lines.cut_line.Goals as goal

pub returns-in-None-clause-last : goal.returns-in-None-clause-last
returns-in-None-clause-last c = no_line c.args.text.now c.in-None.ensures.value

pub returns-in-Some-clause-line : goal.returns-in-Some-clause-line
returns-in-Some-clause-line c = a_line c.args.text.now c.split_at.result.0.now c.split_at.result.1.now c.split_at-in-Some.result.1.now c.in-Some.i c.in-Some.ensures.value c.split_at.ensures.front c.split_at.ensures.back c.split_at-in-Some.ensures.back

pub returns-in-Some-clause-lines : goal.returns-in-Some-clause-lines
returns-in-Some-clause-lines c = cut_lines _ _ _ (a_line c.args.text.now c.split_at.result.0.now c.split_at.result.1.now c.split_at-in-Some.result.1.now c.in-Some.i c.in-Some.ensures.value c.split_at.ensures.front c.split_at.ensures.back c.split_at-in-Some.ensures.back)
