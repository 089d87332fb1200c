use Rattle.std.proofs.Common.{length}
use Rattle.serve_slots.proofs.tapes.+put_from_last.Given as goal

abbrev pub decreases-put_from_last : goal.decreases-put_from_last
decreases-put_from_last g l = length l.connections.now.items
