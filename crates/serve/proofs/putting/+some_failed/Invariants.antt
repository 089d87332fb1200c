use Rattle.std.proofs.Common.{length}
use Rattle.serve.proofs.putting.+some_failed.Given as goal

abbrev pub decreases-some_failed : goal.decreases-some_failed
decreases-some_failed g l = length l.guests.now
