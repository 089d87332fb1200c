use Rattle.std.proofs.lemmas.Bool.Decides.{Decides-eqb}
use Rattle.std.proofs.lemmas.Slice.Eq.{strip_prefix_is}
use Rattle.cable_script.proofs.Spaced.{found, missed}
use Rattle.cable_script.proofs.words.cuts.without.Goals as goal

pub returns-clause-some : goal.returns-clause-some
returns-clause-some c = found _ _ c.strip_prefix.result (strip_prefix_is Decides-eqb c.args.word.now c.args.front.now c.strip_prefix.result c.strip_prefix.ensures.cases)

pub returns-clause-none : goal.returns-clause-none
returns-clause-none c = missed _ _ c.strip_prefix.result (strip_prefix_is Decides-eqb c.args.word.now c.args.front.now c.strip_prefix.result c.strip_prefix.ensures.cases)
