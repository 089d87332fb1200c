use Rattle.std.proofs.lemmas.Bool.Decides.{Decides-eqb}
use Rattle.std.proofs.lemmas.Slice.Eq.{strip_suffix_is}
use Rattle.cable_script.proofs.Spaced.{found, missed}
use Rattle.cable_script.proofs.words.cuts.before.Goals as goal

pub returns-clause-some : goal.returns-clause-some
returns-clause-some c = found _ _ c.strip_suffix.result (strip_suffix_is Decides-eqb c.args.word.now c.args.last.now c.strip_suffix.result c.strip_suffix.ensures.cases)

pub returns-clause-none : goal.returns-clause-none
returns-clause-none c = missed _ _ c.strip_suffix.result (strip_suffix_is Decides-eqb c.args.word.now c.args.last.now c.strip_suffix.result c.strip_suffix.ensures.cases)
