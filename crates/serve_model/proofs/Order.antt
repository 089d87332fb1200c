-- All openings stand before the first Close.
use Rattle.std.specs.List.{AllByRecursion}
use Rattle.std.proofs.Common.{◌≡◌, false, true≢false, ◌∙◌, sym, List, [], ◌∷◌, ◌++◌}
use Rattle.tape.specs.declared.entry.Entry.{Entry}
use Rattle.serve_model.specs.Order.{HasNoClose, OpensFirst, is_opening}

pub no_close_first : (past : List Entry) → HasNoClose past → OpensFirst past
unfolding OpensFirst
no_close_first [] none = tt
no_close_first (x ∷ past) none = (no_close_first past none.1, λ is. none.1)

-- openings, then no opening
pub opens_first : (more past : List Entry) → AllByRecursion (λ (x : Entry). is_opening x.event ≡ false) more → OpensFirst past → OpensFirst (more ++ past)
unfolding OpensFirst
opens_first [] past none first = first
opens_first (x ∷ more) past none first = (opens_first more past none.1 first, λ is. absurd (true≢false (sym is ∙ none.0)))
