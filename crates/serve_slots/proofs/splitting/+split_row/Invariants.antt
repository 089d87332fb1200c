use Rattle.std.proofs.Common.{length}
use Rattle.serve_slots.proofs.splitting.+split_row.Given as goal

abbrev pub decreases-split_row : goal.decreases-split_row
decreases-split_row g l = length l.connections.now
