use Rattle.std.proofs.Common.{◌++◌, ◌∷◌}
use Rattle.std.specs.Prelude.{decimal}
use Rattle.cable_script.proofs.Spaced.{after_is}
use Rattle.cable_script.proofs.words.forms.amount_and_after.Goals as goal

pub returns-in-Some-clause-only : goal.returns-in-Some-clause-only
returns-in-Some-clause-only c = λ n rest right e. c.amount_and.ensures.only n rest right (after_is c.args.word.now c.args.first.now c.in-Some.rest.now (decimal n ++ 32 ∷ rest) c.in-Some.ensures.some e)
