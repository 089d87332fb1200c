use Rattle.std.proofs.Common.{◌≡◌, List}
use Rattle.rtrb.specs.Ring.{SameConsumer, SameProducer, received, sent}
use Rattle.cable_script.specs.declared.line.Line.{Line}
use Rattle.threaded_client.specs.Carrying.{IsCarrying, IsSound}
use Rattle.threaded_client.proofs.carrier.ClientCarrier.drain.Given as goal

abbrev pub invariant-loop : goal.invariant-loop
invariant-loop g l = record {
  same : l.self.caller ≡ record l.fn.self.caller { front = l.self.caller.front; note = l.self.caller.note };
  out : SameProducer l.fn.self.out l.self.out;
  from : SameConsumer l.fn.self.from l.self.from;
  sound : IsSound l.connection.settings l.self.conn l.self.pump;
  kept : (done : List Line) → IsCarrying l.fn.self.caller done l.fn.self.pump (sent l.fn.self.out) (received l.fn.self.from) → IsCarrying l.self.caller done l.self.pump (sent l.self.out) (received l.self.from);
}
