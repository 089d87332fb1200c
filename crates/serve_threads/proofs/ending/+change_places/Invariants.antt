use Rattle.std.proofs.Common.{length}
use Rattle.serve_threads.proofs.ending.+change_places.Given as goal

abbrev pub decreases-change_places : goal.decreases-change_places
decreases-change_places g l = length l.mains.now
