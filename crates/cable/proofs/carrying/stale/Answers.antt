use Rattle.std.proofs.Common.{length}
use Rattle.cable.proofs.Results.{on_ok}
use Rattle.cable.proofs.Drawing.{staled}
use Rattle.cable.proofs.carrying.stale.Goals as goal

pub returns-clause-stale : goal.returns-clause-stale
returns-clause-stale g c = λ out.
    on_ok _ _ c.wanted.result c.wanted.ensures
    (λ no_want. staled c.args.end.now c.draw.new.self c.args.conn (length c.args.buffer.now) c.draw.result out no_want c.draw.ensures.answer c.draw.ensures.after)
