use Rattle.session_laws.proofs.Lawful.{within_limit}
use Rattle.session_laws.proofs.streams.streams_stay_within_their_limit.Goals as goal

pub returns : goal.returns
returns c = within_limit
