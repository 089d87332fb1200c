use Rattle.rs_frame.proofs.Found.{found_rule_given}
use Rattle.rs_frame.proofs.reading.read.Goals as goal

pub returns-in-Err : goal.returns-in-Err
returns-in-Err c = found_rule_given c.args.bytes.now c.in-Err.fault c.in-Err.ensures
