use Rattle.threaded_drain.proofs.Drained.{played_by, settled_by}
use Rattle.threaded_drain.proofs.laws.drained_laws.Goals as goal

pub returns : goal.returns
returns c = record { settled = settled_by; played = played_by }
