use Rattle.std.proofs.Common.{◌≡◌}
use Rattle.rtrb.specs.Ring.{SameProducer, sent}
use Rattle.carriers.specs.Moves.{HasGiven}
use Rattle.carriers.proofs.giving.send.Given as goal

abbrev pub invariant-loop : goal.invariant-loop
invariant-loop g l = record {
  same : l.caller ≡ record l.fn.caller { front = l.caller.front; note = l.caller.note };
  ring : SameProducer l.fn.out l.out;
  gave : HasGiven l.fn.caller l.caller l.fn.pump l.pump (sent l.fn.out) (sent l.out);
}
