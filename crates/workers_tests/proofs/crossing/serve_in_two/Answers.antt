use denote.Param.Send.{sendable}
use Rattle.std.proofs.alloc.Global.TheSendSync as global
use Rattle.conn.proofs.Crossing.{caller_send, connection_sync}
use Rattle.workers_tests.proofs.crossing.Hold.TheSendSync as hold
use Rattle.workers_tests.proofs.crossing.serve_in_two.Goals as goal

ruleset crossing = (caller_send, connection_sync, global.the_sync, global.the_field_sync, hold.the_sync, hold.the_field_sync, sendable)

pub join-caller-requires-send-F : goal.join-caller-requires-send-F
join-caller-requires-send-F g c κs within = search crossing depth 20

pub join-caller-requires-send-A : goal.join-caller-requires-send-A
join-caller-requires-send-A g c κs within = search crossing depth 20
