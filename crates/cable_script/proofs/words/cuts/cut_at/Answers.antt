use Rattle.cable_script.proofs.Cuts.{a_cut, no_cut}
use Rattle.cable_script.proofs.words.cuts.cut_at.Goals as goal

pub returns-in-None-clause-whole : goal.returns-in-None-clause-whole
returns-in-None-clause-whole c = no_cut c.args.byte c.args.word.now c.in-None.ensures

pub returns-in-Some-clause-cut : goal.returns-in-Some-clause-cut
returns-in-Some-clause-cut c = a_cut c.args.byte c.args.word.now c.split_at.result.0.now c.split_at.result.1.now c.split_at-in-Some.result.1.now c.in-Some.i c.in-Some.ensures c.split_at.ensures.front c.split_at.ensures.back c.split_at-in-Some.ensures.back
