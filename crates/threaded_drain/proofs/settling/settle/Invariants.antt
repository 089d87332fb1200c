use Rattle.std.proofs.Common.{◌≡◌}
use Rattle.rtrb.specs.Ring.{SameConsumer, SameProducer, received, sent}
use Rattle.pump.specs.Turns.{GoesOn}
use Rattle.threaded_client.specs.Carrying.{IsAny, IsSound as IsSoundNear}
use Rattle.threaded_server.specs.Carrying.{IsSound, KeepsOn}
use Rattle.threaded_drain.specs.Ending.{NearGoes}
use Rattle.threaded_drain.proofs.settling.settle.Given as goal

abbrev pub invariant-loop : goal.invariant-loop
invariant-loop g l = record {
  near_same : l.near.caller ≡ record l.fn.near.caller { front = l.near.caller.front; note = l.near.caller.note };
  far_same : l.far.caller ≡ record l.fn.far.caller { front = l.far.caller.front; note = l.far.caller.note };
  near_out : SameProducer l.fn.near.out l.near.out;
  near_from : SameConsumer l.fn.near.from l.near.from;
  far_out : SameProducer l.fn.far.out l.far.out;
  far_from : SameConsumer l.fn.far.from l.far.from;
  near_sound : IsSoundNear l.client.settings l.near.conn l.near.pump;
  far_sound : IsSound l.server.settings l.far.knows;
  near_goes : GoesOn IsAny l.fn.near.caller l.near.caller.front;
  far_goes : GoesOn IsAny l.fn.far.caller l.far.caller.front;
  near_kept : NearGoes l.fn.near.caller l.near.caller l.fn.near.pump l.near.pump (sent l.fn.near.out) (sent l.near.out) (received l.fn.near.from) (received l.near.from);
  far_kept : KeepsOn 0 0 l.fn.far.caller l.far.caller l.fn.far.knows l.far.knows (sent l.fn.far.out) (sent l.far.out) (received l.fn.far.from) (received l.far.from);
}
