use denote.Param.Send.{sendable}
use Rattle.std.proofs.Crossing.{crosses}
use Rattle.std.proofs.alloc.Global.TheSendSync as global
use Rattle.conn.proofs.Crossing.{caller_send, connection_sync}
use Rattle.server_tests.proofs.tests.races.Race.TheSendSync as race
use Rattle.server_tests.proofs.tests.slots.Shared.TheSendSync as shared
use Rattle.server_tests.proofs.tests.races.begin_both.Goals as goal

ruleset crossing = (caller_send, connection_sync, global.the_sync, global.the_field_sync, race.the_sync, race.the_field_sync, shared.the_sync, shared.the_field_sync, crosses, sendable)

pub join-requires-send-F : goal.join-requires-send-F
join-requires-send-F g c κs within = search crossing depth 20
