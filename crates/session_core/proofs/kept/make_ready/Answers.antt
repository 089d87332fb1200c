use Rattle.std.proofs.Common.{arith}
use Rattle.position.specs.Boundaries.{pos_by}
use Rattle.session_core.proofs.kept.make_ready.Goals as goal

pub returns-then-not-agreed-clause-spare : goal.returns-then-not-agreed-clause-spare
unfolding pos_by
returns-then-not-agreed-clause-spare c = rw c.new.ensures.items (record { frames = omega arith; bytes = omega arith })
