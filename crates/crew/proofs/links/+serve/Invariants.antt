use Rattle.std.proofs.Common.{◌+◌, ◌*◌, length}
use Rattle.crew.proofs.links.+serve.Given as goal

abbrev pub decreases-serve_each : goal.decreases-serve_each
decreases-serve_each g l = 3 * length l.places.now

abbrev pub decreases-serve_apart : goal.decreases-serve_apart
decreases-serve_apart g l = 3 * length l.rest.now + 2

abbrev pub decreases-serve_apart-others : goal.decreases-serve_apart-others
decreases-serve_apart-others g l = 3 * length l.rest.now + 1
