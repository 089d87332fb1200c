use Rattle.session_laws.proofs.HandedOut.{handed_out_first, handed_out_once}
use Rattle.session_laws.proofs.streams.each_request_is_handed_out_once.Goals as goal

pub returns-clause-order : goal.returns-clause-order
returns-clause-order c = handed_out_first

pub returns-clause-once : goal.returns-clause-once
returns-clause-once c = handed_out_once
