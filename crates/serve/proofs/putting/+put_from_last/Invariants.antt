use Rattle.std.proofs.Common.{length}
use Rattle.serve.proofs.putting.+put_from_last.Given as goal

abbrev pub decreases-put_from_last : goal.decreases-put_from_last
decreases-put_from_last g l = length l.guests.now.items
