use Rattle.std.proofs.Common.{List, [], Option, is_some, ap, ◌∙◌}
use Rattle.tape.specs.declared.entry.Entry.{Entry}
use Rattle.session_core.specs.Seen.{told_by}
use Rattle.cable.proofs.OverShelf.{of_none, two_tapes}
use Rattle.cable.proofs.ends.both_ends.Goals as goal

pub returns-in-Err-clause-got : goal.returns-in-Err-clause-got
returns-in-Err-clause-got g c =
    let none = λ (o : Option (List Entry)). told_by (is_some o) [] in
    two_tapes _ _ _ _ _ _ _ _ c.in_ok-tapes.ensures.back c.put_back.ensures.back c.put_back-in-Err.ensures.back
    (of_none _ _ _ (c.in-Err.ensures.back.0 ∙ ap none c.in_ok-tapes.ensures.fresh.0))
    (of_none _ _ _ (c.in-Err.ensures.back.1 ∙ ap none c.in_ok-tapes.ensures.fresh.1))
