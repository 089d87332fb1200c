-- What goes to another thread in the trials may go there.
use denote.Param.Send.{sendable}
use Rattle.std.proofs.sync.atomic.AtomicU32.TheSendSync as count
use Rattle.std.proofs.alloc.Global.TheSendSync as global
use Rattle.rs_wire.proofs.call.Call.TheSendSync as call
use Rattle.conn.proofs.Crossing.{caller_send, connection_sync}

pub ruleset crossing = (caller_send, connection_sync, call.the_sync, call.the_field_sync, count.the_sync, count.the_field_sync, global.the_sync, global.the_field_sync, sendable)
