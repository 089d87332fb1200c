use Rattle.capture.proofs.Reading.{one_more, shorter}
use Rattle.capture.proofs.lines.write_first.Goals as goal

pub returns-in-Ok-clause-wrote : goal.returns-in-Ok-clause-wrote
returns-in-Ok-clause-wrote c all old w =
    let line = c.in-Ok.ensures.ok in
    one_more all old c.args.out.now.items c.write_line.new.out.items c.args.bytes.now c.in-Some.frame.now c.in-Some.after.now line.0 w (c.in-Some.ensures.passes all) line.1 line.2

pub returns-in-Ok-clause-shorter : goal.returns-in-Ok-clause-shorter
returns-in-Ok-clause-shorter c = shorter c.args.bytes.now c.in-Some.after.now c.in-Some.ensures.frame.0 c.in-Some.ensures.after
