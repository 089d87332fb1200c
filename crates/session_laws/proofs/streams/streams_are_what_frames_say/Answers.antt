use Rattle.session_laws.proofs.ReadWords.{same_granted, same_items, same_over}
use Rattle.session_laws.proofs.ReadStreams.{read_highest, read_live, read_requests, read_streams}
use Rattle.session_laws.proofs.streams.streams_are_what_frames_say.Goals as goal

pub returns-clause-streams : goal.returns-clause-streams
returns-clause-streams c = read_streams

pub returns-clause-over : goal.returns-clause-over
returns-clause-over c = λ t w. same_over t.opening t.words w

pub returns-clause-items : goal.returns-clause-items
returns-clause-items c = λ t w. same_items t.opening t.words w

pub returns-clause-granted : goal.returns-clause-granted
returns-clause-granted c = λ t w. same_granted t.opening t.words w

pub returns-clause-open : goal.returns-clause-open
returns-clause-open c = read_live

pub returns-clause-highest : goal.returns-clause-highest
returns-clause-highest c = read_highest

pub returns-clause-requests : goal.returns-clause-requests
returns-clause-requests c = read_requests
