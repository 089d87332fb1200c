use Rattle.std.proofs.Common.{refl}
use Rattle.cable_script.proofs.Texts.{parts_cut, parts_whole, spells}
use Rattle.cable_script.proofs.words.payload.parts_of.Goals as goal

pub returns-in-Some-clause-right : goal.returns-in-Some-clause-right
returns-in-Some-clause-right c = λ right. spells c.args.word.now _ c.in-Some.ensures.cut.0 right

pub returns-in-None-clause-right : goal.returns-in-None-clause-right
returns-in-None-clause-right c = λ right. spells c.args.word.now _ refl right

pub returns-in-Some-clause-only : goal.returns-in-Some-clause-only
returns-in-Some-clause-only c = λ m right is. parts_cut m c.args.word.now _ _ right is c.in-Some.ensures.cut.0 c.in-Some.ensures.cut.1

pub returns-in-None-clause-only : goal.returns-in-None-clause-only
returns-in-None-clause-only c = λ m right is. parts_whole m c.args.word.now right is c.in-None.ensures.whole
