use Rattle.std.proofs.Common.{◌≡◌}
use Rattle.rtrb.specs.Ring.{SameConsumer, SameProducer, received, sent}
use Rattle.threaded_server.specs.Carrying.{IsSound, KeepsOn}
use Rattle.threaded_server.proofs.carrier.ServerCarrier.drain.Given as goal

abbrev pub invariant-loop : goal.invariant-loop
invariant-loop g l = record {
  same : l.self.caller ≡ record l.fn.self.caller { front = l.self.caller.front; note = l.self.caller.note };
  out : SameProducer l.fn.self.out l.self.out;
  from : SameConsumer l.fn.self.from l.self.from;
  sound : IsSound l.fn.connection.settings l.self.knows;
  kept : KeepsOn 0 0 l.fn.self.caller l.self.caller l.fn.self.knows l.self.knows (sent l.fn.self.out) (sent l.self.out) (received l.fn.self.from) (received l.self.from);
}
