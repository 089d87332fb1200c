use Rattle.std.proofs.Common.{subst, sym, ◌∙◌}
use Rattle.std.specs.Prelude.{decimal}
use Rattle.std.proofs.lemmas.Fmt.{decimal_injective}
use Rattle.cable_script.specs.Words.{HasNo}
use Rattle.cable_script.proofs.Cuts.{has_cut}
use Rattle.cable_script.proofs.Spaced.{code_small, number_cut}
use Rattle.cable_script.proofs.words.cuts.code_and.Goals as goal

pub returns-in_err-front-clause-only : goal.returns-in_err-front-clause-only
returns-in_err-front-clause-only c = λ n rest right e. absurd (has_cut 32 (decimal n) rest (subst (HasNo 32) e c.in_err-front.ensures.whole))

pub returns-in_err-n-clause-only : goal.returns-in_err-n-clause-only
returns-in_err-n-clause-only c = λ n rest right e.
    let same = number_cut n c.args.word.now c.in_ok-front.front.now c.in_ok-front.rest.now rest (code_small n right) c.in_ok-front.ensures.cut.0 c.in_ok-front.ensures.cut.1 e in
    absurd (c.in_err-n.ensures.none n right same.0)

pub returns-clause-only : goal.returns-clause-only
returns-clause-only c = λ n rest right e.
    let same = number_cut n c.args.word.now c.in_ok-front.front.now c.in_ok-front.rest.now rest (code_small n right) c.in_ok-front.ensures.cut.0 c.in_ok-front.ensures.cut.1 e in
    (decimal_injective c.in_ok-n.n n (code_small c.in_ok-n.n c.in_ok-n.ensures.some.1) (code_small n right) (sym c.in_ok-n.ensures.some.0 ∙ same.0), same.1)
