use Rattle.std.proofs.Common.{length}
use Rattle.serve.proofs.putting.+some_lack.Given as goal

abbrev pub decreases-some_lack : goal.decreases-some_lack
decreases-some_lack g l = length l.guests.now
