use Rattle.std.proofs.Common.{length}
use Rattle.serve.proofs.putting.+add_answers.Given as goal

abbrev pub decreases-add_answers : goal.decreases-add_answers
decreases-add_answers g l = length l.guests.now
