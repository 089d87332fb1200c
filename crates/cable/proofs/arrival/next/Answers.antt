use Rattle.std.proofs.Common.{sym, subst}
use Rattle.rs_frame.specs.Spelling.{Spells}
use Rattle.cable.proofs.Results.{only_want, same_found}
use Rattle.cable.proofs.arrival.next.Goals as goal

pub returns-in-Ok : goal.returns-in-Ok
returns-in-Ok c = (c.in-Whole.ensures.front.0, c.in-Ok.ensures.spellable, λ d spells. same_found d c.in-Ok.frame (c.in-Ok.ensures.only d (subst (Spells d) (sym c.in-Whole.ensures.front.1) spells)))

pub unreachable-requires : goal.unreachable-requires
unreachable-requires c =
    let front = c.in-Whole.ensures.front in
    let due = c.requires.spelled front.0 in
    c.in_default.not-OutOfMemory (only_want due.0 c.in-Err.fault (c.in-Err.ensures.only due.0 (subst (Spells due.0) (sym front.1) due.1)))
