use Rattle.std.proofs.Common.{ap, ◌∙◌}
use Rattle.rsocket_call.proofs.Shelf.{no_entries}
use Rattle.rsocket_call.proofs.connect.share.Goals as goal

pub returns-in-Err-clause-back : goal.returns-in-Err-clause-back
returns-in-Err-clause-back g c = ap g.T.Tape.told c.in-Err.ensures.back ∙ no_entries _ _ (g.met.T.Tape.counted c.args.tape) c.requires.empty
