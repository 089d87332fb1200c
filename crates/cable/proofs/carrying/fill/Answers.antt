use Rattle.std.proofs.Common.{length}
use Rattle.cable.proofs.Results.{on_ok}
use Rattle.cable.proofs.Drawing.{filled}
use Rattle.cable.proofs.carrying.fill.Goals as goal

pub returns-clause-filled : goal.returns-clause-filled
returns-clause-filled g c = λ here fits.
    let d = c.draw.ensures in
    on_ok _ _ c.wanted.result c.wanted.ensures
    (λ no_want. filled c.args.end.now c.draw.new.self c.args.conn (length c.args.buffer.now) c.draw.result c.draw.new.buffer here c.requires.some fits no_want d.answer d.bytes d.after)
