use Rattle.session_laws.proofs.Bounded.{queue_bounded}
use Rattle.session_laws.proofs.one_end.the_queue_stays_within_its_limit.Goals as goal

pub returns : goal.returns
returns c = queue_bounded
