use Rattle.serve_laws.proofs.Taking.{work_joined, work_none}
use Rattle.serve_laws.proofs.laws.workers_are_taken_in.Goals as goal

pub returns : goal.returns
returns c = record { none = work_none; joined = work_joined }
