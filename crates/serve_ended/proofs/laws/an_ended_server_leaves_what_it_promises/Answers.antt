use Rattle.serve_ended.proofs.Whole.{links_are, tapes_are}
use Rattle.serve_ended.proofs.laws.an_ended_server_leaves_what_it_promises.Goals as goal

pub returns : goal.returns
returns c = record { tapes = tapes_are; links = links_are }
