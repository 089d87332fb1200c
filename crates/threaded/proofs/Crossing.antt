-- What goes to the threads may go there, where the tape may.
use denote.RattleType.{RattleType}
use denote.Param.Send.{IsSend, plain_send, struct_send, sendable}
use denote.Struct.Declared.{shape}
use Rattle.std.proofs.Crossing.{crosses}
use Rattle.std.proofs.alloc.Global.TheSendSync as global
use Rattle.std.proofs.option.Option.TheSendSync as option
use Rattle.std.proofs.result.Result.TheSendSync as result
use Rattle.tape.specs.declared.tapes.Tape.{Ghosts}
use Rattle.rs_wire.proofs.words.Side.TheSendSync as side
use Rattle.cable_script.proofs.script.Script.TheSendSync as script
use Rattle.rtrb.proofs.consumer.Consumer.TheSendSync as consumer
use Rattle.rtrb.proofs.producer.Producer.TheSendSync as producer
use Rattle.rtrb.proofs.AnyItems.TheSendSync as any
use Rattle.ring.proofs.item.Item.TheSendSync as item
use Rattle.starts.proofs.back.Back.TheSendSync as back
use Rattle.starts.proofs.place.Just.TheSendSync as just
use Rattle.conn.proofs.Crossing.{caller_send, connection_sync}
use Rattle.threaded_server.proofs.knows.Knows.TheSendSync as knows
use Rattle.threaded_server.specs.contracts.carrier.ServerCarrier as carrier
use Rattle.threaded.specs.contracts.asking.Asked as asked
use Rattle.threaded.proofs.part.Part.TheSendSync as part

ruleset rings = (producer.the_send, producer.the_field_send, consumer.the_send, consumer.the_field_send, any.the_send, any.the_field_send, item.the_send, item.the_field_send, global.the_send, global.the_field_send, crosses, sendable)

module _ (T : RattleType) (g : Ghosts T.Denot) (s : IsSend T) where
  pub asked_send : IsSend (asked.the_field T g).row
  asked_send = struct_send (shape (asked.the_type T g)) (caller_send T g s, (plain_send _ _ _ _ _, tt))

  pub carrier_send : IsSend (carrier.the_field T g).row
  carrier_send = struct_send (shape (carrier.the_type T g)) (caller_send T g s, (search rings depth 20, (search rings depth 20, (search (knows.the_send, knows.the_field_send, sendable) depth 20, tt))))

pub ruleset crossing = (asked_send, carrier_send, caller_send, connection_sync, script.the_sync, side.the_send, side.the_field_send, global.the_send, global.the_field_send, consumer.the_send, consumer.the_field_send, back.the_send, back.the_field_send, just.the_send, just.the_field_send, option.the_send, option.the_field_send, result.the_send, result.the_field_send, crosses, sendable)

-- what a thread captures
pub ruleset captured = (carrier_send, caller_send, connection_sync, part.the_send, part.the_field_send, global.the_field_send, consumer.the_send, consumer.the_field_send, just.the_send, just.the_field_send, crosses, sendable)
