use Rattle.std.proofs.Common.{refl, sym, subst}
use Rattle.conn_shared.specs.Members.{SharedId}
use Rattle.workers.specs.Serving.{Serving}
use Rattle.serve_threads.specs.Threads.{HasNoMore}
use Rattle.serve_threads.specs.declared.worker.Worker.{Worker}
use Rattle.serve_threads.proofs.Working.{ready_of, worker_done}
use Rattle.serve_threads.proofs.worker.WorkerTaskShared.run.Goals as goal

pub returns : goal.returns
returns g c =
    let h = c.args.shared.now.settings.now in
    let ids = c.args.shared.now.connections.now in
    let routes = c.args.shared.now.routes.now in
    let v = c.args.self.now in
    let w : Worker g.row.T.Denot = record { slot = v.slot; caller = c.work_off.new.caller } in
    let id = c.index-shared-self.result in
    worker_done h ids routes v w id c.requires (ready_of h ids v id c.requires (sym c.index-shared-self.is)) refl c.work_off.ensures.same c.work_off.ensures.goes
    (subst (λ (x : SharedId). HasNoMore x.settings c.work_off.new.caller.front) (sym c.index-shared-self.is) c.work_off.ensures.no_more)
    (λ serving. c.work_off.ensures.kept (subst (Serving v.caller.names v.caller.front routes) (sym c.new-work.ensures) serving))
