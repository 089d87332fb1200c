use Rattle.replay_buffer.proofs.Marked.{at-first, marks_rise}
use Rattle.replay_buffer.proofs.marks.Marks.before.Goals as goal

pub count_up_to-count-requires : goal.count_up_to-count-requires
count_up_to-count-requires c = marks_rise c.args.first.position c.args.first.offset c.requires.marked.0 c.args.self.now c.requires.marked.1

pub returns-then-count-eq0-clause-at : goal.returns-then-count-eq0-clause-at
returns-then-count-eq0-clause-at c = λ frames marked. at-first frames c.args.first c.requires.first

pub returns-clause-at : goal.returns-clause-at
returns-clause-at c = λ frames marked. c.place.ensures.at c.args.first.position c.args.first.offset frames marked
