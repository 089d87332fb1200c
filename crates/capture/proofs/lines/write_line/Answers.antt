use Rattle.rs_frame.proofs.Decoded.{none_broken}
use Rattle.capture.proofs.lines.write_line.Goals as goal

pub returns-in-Ok-clause-ok : goal.returns-in-Ok-clause-ok
returns-in-Ok-clause-ok c = (c.in_ok-frame.frame, c.in_ok-frame.ensures.found, c.in-Ok.ensures.ok)

pub returns-clause-rule : goal.returns-clause-rule
returns-clause-rule c = none_broken c.args.bytes.now (c.in_ok-frame.frame, c.in_ok-frame.ensures.found)
