use Rattle.std.proofs.Common.{◌≡◌, []}
use Rattle.rs_wire.specs.Calls.{CanBeAsked}
use Rattle.call_model.specs.Order.{request_of}
use Rattle.client.specs.Clients.{IsJoined, asking_of}
use Rattle.client.specs.Counting.{HasDialed}
use Rattle.rsocket_call.proofs.Steps.{IsOn}
use Rattle.rsocket_call.proofs.make.make.Given as goal

-- the call goes on, and what it printed is written
abbrev pub invariant-loop : goal.invariant-loop
invariant-loop g l = record {
  of : l.client.of ≡ l.fn.client.of;
  same : l.client.caller ≡ record l.fn.client.caller { front = l.client.caller.front; note = l.client.caller.note };
  to : l.client.address ≡ l.fn.client.address;
  over : l.client.ws ≡ l.fn.client.ws;
  dialed : HasDialed l.fn.client.address l.fn.client.ws (g.N.Net.asked l.fn.net) (g.N.Net.asked l.net);
  joined : IsJoined l.client l.calling (g.N.Net.out l.net);
  askable : CanBeAsked l.calling.request;
  request : l.calling.request ≡ request_of (asking_of l.fn.plan);
  none : l.lines.items ≡ [];
  on : IsOn (asking_of l.fn.plan) (g.K.Clock.moments l.fn.clock) l.fn.client l.client (g.N.Net.back l.fn.net) (g.N.Net.back l.net) (g.N.Net.faults l.fn.net) (g.N.Net.faults l.net) l.calling (g.O.Sink.shown l.fn.output) (g.O.Sink.shown l.output);
}
