use Rattle.std.proofs.Common.{◌≡◌, ◌++◌, List, take}
use Rattle.cable_script.specs.declared.line.Line.{Line}
use Rattle.rtrb.specs.Ring.{SameConsumer, SameProducer, received, sent}
use Rattle.threaded_server.specs.Carrying.{IsCarrying, IsSound}
use Rattle.threaded_server.proofs.carrier.ServerCarrier.carry_all.Given as goal

abbrev pub invariant-loop-line : goal.invariant-loop-line
invariant-loop-line g l = record {
  same : l.self.caller ≡ record l.fn.self.caller { front = l.self.caller.front; note = l.self.caller.note };
  out : SameProducer l.fn.self.out l.self.out;
  from : SameConsumer l.fn.self.from l.self.from;
  sound : IsSound l.fn.connection.settings l.self.knows;
  kept : (before : List Line) → IsCarrying l.fn.self.caller before l.fn.self.knows (sent l.fn.self.out) (received l.fn.self.from)
      → IsCarrying l.self.caller (before ++ take l.line-index l.lines) l.self.knows (sent l.self.out) (received l.self.from);
}
