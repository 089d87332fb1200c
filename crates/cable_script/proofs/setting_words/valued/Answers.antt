use Rattle.std.proofs.Common.{Some, None, arith}
use Rattle.std.proofs.lemmas.Bool.Decides.{Decides-eqb}
use Rattle.std.proofs.lemmas.Grind.{common_steps}
use Rattle.std.proofs.lemmas.Slice.Eq.{strip_prefix_is}
use Rattle.cable_script.proofs.setting_words.valued.Goals as goal

pub returns-in_err-value-clause-none : goal.returns-in_err-value-clause-none
returns-in_err-value-clause-none c =
    let other = strip_prefix_is Decides-eqb c.args.words.now c.args.name.now None c.in_err-value.ensures.cases in
    rw c.from_residual.ensures (λ n within. other _)

pub returns-clause-some : goal.returns-clause-some
returns-clause-some c =
    let cut = strip_prefix_is Decides-eqb c.args.words.now c.args.name.now (Some c.in_ok-value.value) c.in_ok-value.ensures.cases in
    grind (arith, common_steps)
