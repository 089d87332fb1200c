use Rattle.std.proofs.Common.{length}
use Rattle.serve_threads.proofs.ending.+take_in_guests.Given as goal

abbrev pub decreases-take_in_guests : goal.decreases-take_in_guests
decreases-take_in_guests g l = length l.guests.now
