-- A session may go to another thread where its tape may: what happened is kept in no byte of it. So may its members, and
-- threads may share it. The check finds it by itself for no type that stands on a history, hence the fields one by one.
use denote.RattleType.{RattleType}
use denote.Param.Send.{IsSend, IsSync, plain_send, recorded_send, recorded_sync, struct_send, struct_sync, view_send, view_sync, sendable}
use denote.Struct.Declared.{shape}
use Rattle.std.proofs.Crossing.{crosses}
use Rattle.std.proofs.alloc.Global.TheSendSync as global
use Rattle.rs_wire.proofs.fault.Cause.TheSendSync as cause
use Rattle.rs_wire.proofs.settings.Checked.TheSendSync as checked
use Rattle.rs_frame.proofs.frame.Setup.TheSendSync as setup
use Rattle.tape.specs.declared.tapes.Tape.{Ghosts}
use Rattle.session_model.proofs.facts.Counted.TheSendSync as counted
use Rattle.outbox.proofs.outbox.Outbox.TheSendSync as outbox
use Rattle.reassembly.proofs.table.Reassembly.TheSendSync as reassembly
use Rattle.keepalive.proofs.timer.Timer.TheSendSync as timer
use Rattle.lease.proofs.requester.Lease.TheSendSync as lease
use Rattle.lease.proofs.responder.Granted.TheSendSync as granted
use Rattle.interactions.specs.contracts.history.History as marks
use Rattle.interactions.specs.contracts.streams.Streams as streams
use Rattle.interactions.specs.contracts.streams.Streams.TheInside as streams_inside
use Rattle.interactions.proofs.parts.Parts.TheSendSync as parts
use Rattle.session_core.specs.contracts.history.History as entries
use Rattle.session_core.specs.contracts.state.State as state
use Rattle.session_core.specs.contracts.session.Session as session
use Rattle.session_core.specs.contracts.session.Session.TheInside as session_inside
use Rattle.conn_lock.proofs.seat.Seat.TheSendSync as seat
use Rattle.conn_lock.proofs.lock.Lock.TheSendSync as lock
use Rattle.conn_shared.specs.contracts.line.Line as line
use Rattle.conn_shared.specs.contracts.stored.Stored as stored
use Rattle.conn_shared.specs.contracts.stored.Stored.TheInside as stored_inside
use Rattle.conn_shared.specs.contracts.stored.StoredStands.TheImpl as stands
use Rattle.conn_shared.specs.contracts.member.Member as member
use Rattle.conn_shared.specs.contracts.member.Member.TheInside as member_inside
use Rattle.conn_shared.specs.contracts.shared.SharedSession as shared
use Rattle.conn_shared.specs.contracts.shared.SharedSession.TheInside as shared_inside

marks_send : IsSend marks.the_row
marks_send = search (crosses, sendable) depth 20

streams_send : IsSend streams.the_row
streams_send = view_send streams_inside.the_row _ _ _ _ (recorded_send (streams_inside.the_field).row _ _ (streams_inside.the_type).to_one
    (struct_send (shape streams_inside.the_type) (parts.the_field_send, (marks_send, (search (crosses, sendable) depth 20, tt)))))

entries_send : IsSend entries.the_row
entries_send = search (crosses, sendable) depth 20

state_send : IsSend (state.the_field).row
state_send = struct_send (shape state.the_type) (
  plain_send _ _ _ _ _,
  (
    plain_send _ _ _ _ _,
    (
      plain_send _ _ _ _ _,
      (
        plain_send _ _ _ _ _,
        (
          search (setup.the_send, sendable) depth 20,
          (
            search (cause.the_send, sendable) depth 20,
            (
              counted.the_field_send,
              (
                counted.the_field_send,
                (
                  outbox.the_send,
                  (
                    streams_send,
                    (
                      reassembly.the_send,
                      (
                        timer.the_send,
                        (
                          lease.the_send,
                          (
                            granted.the_send,
                            tt,
                          ),
                        ),
                      ),
                    ),
                  ),
                ),
              ),
            ),
          ),
        ),
      ),
    ),
  ),
)

module _ (T : RattleType) (g : Ghosts T.Denot) (s : IsSend T) where
  pub session_send : IsSend (session.the_row T g)
  session_send = view_send (session_inside.the_row T g) _ _ _ _ (recorded_send (session_inside.the_field T g).row _ _ (session_inside.the_type T g).to_one
      (struct_send (shape (session_inside.the_type T g)) (global.the_field_send, (checked.the_send, (state_send, (entries_send, (s, tt)))))))

  stored_send : IsSend (stored.the_row T g)
  stored_send = view_send (stored_inside.the_row T g) _ _ _ _ (recorded_send (stored_inside.the_field T g).row _ _ (stored_inside.the_type T g).to_one
      (struct_send (shape (stored_inside.the_type T g)) (search (session_send, crosses, sendable) depth 20, tt)))

  pub member_send : IsSend (member.the_row T g)
  member_send = view_send (member_inside.the_row T g) _ _ _ _ (recorded_send (member_inside.the_field T g).row _ _ (member_inside.the_type T g).to_one
      (struct_send (shape (member_inside.the_type T g)) (seat.the_send (stored.the_row T g) line.the_row (stands.ghosts T g stands.no_dict) stored_send, tt)))

  pub shared_sync : IsSync (shared.the_row T g)
  shared_sync = view_sync (shared_inside.the_row T g) _ _ _ _ (recorded_sync (shared_inside.the_field T g).row _ _ (shared_inside.the_type T g).to_one
      (struct_sync (shape (shared_inside.the_type T g)) (lock.the_sync (stored.the_row T g) line.the_row (stands.ghosts T g stands.no_dict) stored_send, (global.the_field_sync, (search (crosses, sendable) depth 20, tt)))))
