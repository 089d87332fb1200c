-- What goes to the threads may go there, where the tape and the link may.
use denote.RattleType.{RattleType}
use denote.Ref.{NamedLft}
use denote.Param.Send.{IsSend, IsSync, plain_send, struct_send, struct_sync, sendable}
use denote.Struct.Declared.{shape}
use Rattle.std.proofs.Crossing.{crosses}
use Rattle.std.proofs.alloc.Global.TheSendSync as global
use Rattle.std.proofs.option.Option.TheSendSync as option
use Rattle.tape.specs.declared.tapes.Tape.{Ghosts}
use Rattle.rs_wire.proofs.amount.Amount.TheSendSync as amount
use Rattle.rs_wire.proofs.settings.Checked.TheSendSync as checked
use Rattle.handlers.specs.declared.handler.Handler as handler
use Rattle.session_table.proofs.sessions.Sessions.TheSendSync as sessions
use Rattle.workers.proofs.work.Work.TheSendSync as work
use Rattle.handlers.proofs.routes.Routes.TheSendSync as routes
use Rattle.server.proofs.served.Served.TheSendSync as served
use Rattle.outside.proofs.net.NetFault.TheSendSync as fault
use Rattle.conn.proofs.Crossing.{caller_send, connection_sync}
use Rattle.serve_threads.specs.contracts.guest.Guest as guest
use Rattle.serve_threads.specs.contracts.shared.Shared as shared
use Rattle.serve_threads.specs.contracts.worker.Worker as worker

module _ (L T : RattleType) (g : Ghosts T.Denot) (l : IsSend L) (s : IsSend T) where
  pub guest_send : IsSend (guest.the_field L T g).row
  guest_send = struct_send (shape (guest.the_type L T g)) (
    plain_send _ _ _ _ _,
    (
      search (caller_send T g s, crosses, sendable) depth 20,
      (
        search (work.the_send, option.the_field_send, crosses, sendable) depth 20,
        (
          option.the_field_send L l,
          (
            search (fault.the_send, option.the_field_send, crosses, sendable) depth 20,
            (search (served.the_send, option.the_send, option.the_field_send, crosses, sendable) depth 20, tt),
          ),
        ),
      ),
    ),
  )

module _ (T : RattleType) (g : Ghosts T.Denot) (s : IsSend T) where
  pub worker_send : IsSend (worker.the_field T g).row
  worker_send = struct_send (shape (worker.the_type T g)) (plain_send _ _ _ _ _, (caller_send T g s, tt))

module _ (a : NamedLft) (T K F : RattleType) (g : Ghosts T.Denot) (h : handler.Ghosts F.Denot) (s : IsSend T) (k : IsSync K) (f : IsSync F) where
  pub shared_sync : IsSync (shared.the_field a T K F g h).row
  shared_sync = struct_sync (shape (shared.the_type a T K F g h)) (
    global.the_field_sync,
    (
      search (connection_sync T g s, crosses, sendable) depth 20,
      (
        search (sessions.the_send, crosses, sendable) depth 20,
        (
          search (crosses, sendable) depth 20,
          (
            search (routes.the_sync, crosses, sendable) depth 20,
            (search (checked.the_sync, crosses, sendable) depth 20, (search (amount.the_sync, option.the_field_sync, crosses, sendable) depth 20, (search sendable, tt))),
          ),
        ),
      ),
    ),
  )

pub ruleset crossing = (guest_send, worker_send, shared_sync, global.the_send, global.the_field_send, global.the_sync, global.the_field_sync, crosses, sendable)
