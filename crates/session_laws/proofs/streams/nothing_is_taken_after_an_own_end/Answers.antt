use Rattle.session_laws.proofs.OwnEnds.{nothing_waits, takes_no_more}
use Rattle.session_laws.proofs.streams.nothing_is_taken_after_an_own_end.Goals as goal

pub returns-clause-waits : goal.returns-clause-waits
returns-clause-waits c = nothing_waits

pub returns-clause-takes : goal.returns-clause-takes
returns-clause-takes c = takes_no_more
