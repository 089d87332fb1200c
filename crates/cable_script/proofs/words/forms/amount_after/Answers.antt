use Rattle.std.specs.Prelude.{decimal}
use Rattle.cable_script.proofs.Spaced.{after_is, still_none}
use Rattle.cable_script.proofs.words.forms.amount_after.Goals as goal

pub returns-in-Some-clause-none : goal.returns-in-Some-clause-none
returns-in-Some-clause-none c = still_none _ _ c.amount.result (λ h n right e. h n right (after_is c.args.word.now c.args.first.now c.in-Some.rest.now (decimal n) c.in-Some.ensures.some e)) c.amount.ensures.none
