use Rattle.std.proofs.Common.{ap, ◌∙◌}
use Rattle.session_core.specs.Seen.{Seen, told_by}
use Rattle.cable.proofs.OverShelf.{no_entries}
use Rattle.cable.proofs.ends.sessions.Goals as goal

pub returns-in-Err-clause-back : goal.returns-in-Err-clause-back
returns-in-Err-clause-back g c = (
  ap g.T.Tape.told c.in-Err.ensures.back ∙ no_entries _ _ (g.met.T.Tape.counted c.args.tapes.0) c.requires.empty.0,
  no_entries _ _ (g.met.T.Tape.counted c.args.tapes.1) c.requires.empty.1,
)

pub returns-in-Err-new-clause-back : goal.returns-in-Err-new-clause-back
returns-in-Err-new-clause-back g c = (
  c.into_tape.ensures.told ∙ ap (λ (s : Seen). told_by s.tells s.entries) c.in-Ok.ensures.ok,
  ap g.T.Tape.told c.in-Err-new.ensures.back ∙ no_entries _ _ (g.met.T.Tape.counted c.args.tapes.1) c.requires.empty.1,
)
