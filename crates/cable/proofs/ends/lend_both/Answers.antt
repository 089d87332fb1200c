use Rattle.std.proofs.Common.{◌∙◌}
use Rattle.cable.proofs.OverShelf.{empty_tape, of_none, one_tape}
use Rattle.cable.proofs.ends.lend_both.Goals as goal

pub returns-in-Err-clause-got : goal.returns-in-Err-clause-got
returns-in-Err-clause-got g c = λ s.
    let empty = empty_tape _ _ _ c.in_ok-client.ensures.fresh (g.met.H.Tape.Tape.counted c.in_ok-client.client) c.in_ok-client.ensures.empty in
    one_tape s _ _ _ _ _ (c.in-Err.ensures.back ∙ c.in_ok-client.ensures.back) c.put_back.ensures.back (of_none _ _ _ empty)
