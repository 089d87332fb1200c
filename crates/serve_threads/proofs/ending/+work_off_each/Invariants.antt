use Rattle.std.proofs.Common.{length}
use Rattle.serve_threads.proofs.ending.+work_off_each.Given as goal

abbrev pub decreases-work_off_each : goal.decreases-work_off_each
decreases-work_off_each g l = length l.connections.now
