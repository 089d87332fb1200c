-- A caller may go to another thread, and threads may share a connection, where the tape may go to another thread.
use denote.RattleType.{RattleType}
use denote.Param.Send.{IsSend, IsSync, plain_sync, recorded_send, recorded_sync, struct_send, struct_sync, view_send, view_sync, sendable}
use denote.Struct.Declared.{shape}
use Rattle.std.proofs.Crossing.{crosses}
use Rattle.std.proofs.option.Option.TheSendSync as option
use Rattle.tape.specs.declared.tapes.Tape.{Ghosts}
use Rattle.bell.proofs.Bell.TheSendSync as bell
use Rattle.conn_shared.proofs.Crossing.{member_send, shared_sync}
use Rattle.conn_shared.specs.contracts.member.Member as member
use Rattle.conn.specs.contracts.caller.Caller as caller
use Rattle.conn.specs.contracts.caller.Caller.TheInside as caller_inside
use Rattle.conn.specs.contracts.connection.Connection as connection
use Rattle.conn.specs.contracts.connection.Connection.TheInside as connection_inside

module _ (T : RattleType) (g : Ghosts T.Denot) (s : IsSend T) where
  pub caller_send : IsSend (caller.the_row T g)
  caller_send = view_send (caller_inside.the_row T g) _ _ _ _ (recorded_send (caller_inside.the_field T g).row _ _ (caller_inside.the_type T g).to_one
      (struct_send (shape (caller_inside.the_type T g)) (option.the_field_send (member.the_row T g) (member_send T g s), tt)))

  pub connection_sync : IsSync (connection.the_row T g)
  connection_sync = view_sync (connection_inside.the_row T g) _ _ _ _ (recorded_sync (connection_inside.the_field T g).row _ _ (connection_inside.the_type T g).to_one
      (struct_sync (shape (connection_inside.the_type T g)) (shared_sync T g s, (plain_sync _ _ _ _ _, (plain_sync _ _ _ _ _, (search (bell.the_send, bell.the_sync, crosses, sendable) depth 20, tt))))))
