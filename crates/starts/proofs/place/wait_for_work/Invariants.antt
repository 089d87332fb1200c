use Rattle.std.proofs.Common.{◌≡◌}
use Rattle.rtrb.specs.Ring.{SameConsumer, received}
use Rattle.starts.proofs.place.wait_for_work.Given as goal

abbrev pub invariant-loop : goal.invariant-loop
invariant-loop g l = (received l.from ≡ received l.initial.from) × SameConsumer l.initial.from l.from
