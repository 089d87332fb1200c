use Rattle.std.proofs.Common.{ℕ, List, ◌∷◌, ◌++◌, ap, sym, ◌∙◌}
use Rattle.std.proofs.lemmas.List.{append_cancel_left}
use Rattle.cable_script.proofs.Spaced.{still_none}
use Rattle.cable_script.proofs.words.cuts.after.Goals as goal

pub returns-in-Some-clause-none : goal.returns-in-Some-clause-none
returns-in-Some-clause-none c = still_none _ _ c.without-in-Some.result (λ h x e. h x (append_cancel_left c.as_bytes.result.now c.in-Some.rest.now (32 ∷ x) (sym c.in-Some.ensures.some ∙ (e ∙ ap (λ (t : List ℕ). t ++ 32 ∷ x) (sym c.as_bytes.ensures.value))))) c.without-in-Some.ensures.none
