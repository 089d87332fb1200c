use Rattle.cable_script.specs.Line.{payload_text}
use Rattle.cable_script.proofs.Spaced.{after_is, still_none}
use Rattle.cable_script.proofs.words.forms.payload_after.Goals as goal

pub returns-in-Some-clause-none : goal.returns-in-Some-clause-none
returns-in-Some-clause-none c = still_none _ _ c.payload_of.result (λ h m right e. h m right (after_is c.args.word.now c.args.first.now c.in-Some.rest.now (payload_text m) c.in-Some.ensures.some e)) c.payload_of.ensures.none
