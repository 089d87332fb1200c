use Rattle.session_laws.proofs.Growth.{sent_is_made, got_is_handled}
use Rattle.session_laws.proofs.one_end.seen_is_made_and_handled.Goals as goal

pub returns-clause-made : goal.returns-clause-made
returns-clause-made c = sent_is_made

pub returns-clause-handled : goal.returns-clause-handled
returns-clause-handled c = got_is_handled
