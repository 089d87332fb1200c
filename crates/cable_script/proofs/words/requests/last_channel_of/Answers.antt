use Rattle.std.proofs.Common.{◌++◌, ◌∷◌, sym, ◌∙◌}
use Rattle.std.proofs.lemmas.List.{append_cancel_right}
use Rattle.std.specs.Prelude.{codes, decimal}
use Rattle.cable_script.specs.Line.{payload_text}
use Rattle.cable_script.proofs.Spaced.{if_none, last_apart}
use Rattle.cable_script.proofs.words.requests.last_channel_of.Goals as goal

pub returns-in_err-front-clause-none : goal.returns-in_err-front-clause-none
returns-in_err-front-clause-none c = if_none _ c.from_residual.result (λ n m amount right e. c.in_err-front.ensures.none (codes "channel" ++ 32 ∷ (decimal n ++ 32 ∷ payload_text m)) (e ∙ last_apart n m))

pub returns-in-None-clause-none : goal.returns-in-None-clause-none
returns-in-None-clause-none c = λ n m amount right e. c.in-None.ensures.none n m amount right (append_cancel_right c.in_ok-front.front.now (codes "channel" ++ 32 ∷ (decimal n ++ 32 ∷ payload_text m)) (codes " last") (sym c.in_ok-front.ensures.some ∙ (e ∙ last_apart n m)))
