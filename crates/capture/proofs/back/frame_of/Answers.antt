use Rattle.capture.proofs.Wrong.{not_read}
use Rattle.capture.proofs.back.frame_of.Goals as goal

pub returns-in-Err-clause-fault : goal.returns-in-Err-clause-fault
returns-in-Err-clause-fault c = rw c.line_fault.ensures (not_read c.args.line.now c.args.number c.in-Err.fault c.in-Err.ensures.fault)
