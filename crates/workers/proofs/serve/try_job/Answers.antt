use Rattle.std.proofs.Common.{subst, sym}
use Rattle.workers.specs.Causes.{IsOfJobs, WholeOfProgress}
use Rattle.workers.proofs.Ended.{went_whole}
use Rattle.workers.proofs.Served.{stays_settled, went_hindered, went_kept, went_of_jobs, went_quietly, went_routed, went_works}
use Rattle.workers.proofs.serve.try_job.Goals as goal

pub returns-then-index-made-clause-at_work : goal.returns-then-index-made-clause-at_work
returns-then-index-made-clause-at_work g c =
    let blocked = c.is_blocked.ensures c.if-is_blocked.true in
    let settled = stays_settled c.args.place c.go_at-going.result c.go_at-going.new.jobs.items blocked in
    let went = c.go_at-going.ensures.went in
    record {
      same = c.go_at-going.ensures.same;
      works = went_works _ c.args.tools.now.routes.now _ _ _ _ _ c.args.place c.args.jobs.now.items c.go_at-going.new.jobs.items c.go_at-going.result went;
      routed = went_routed _ c.args.tools.now.routes.now _ _ _ _ _ c.args.place c.args.jobs.now.items c.go_at-going.new.jobs.items c.go_at-going.new.jobs.items c.go_at-going.result went settled c.requires.routed;
      kept = went_kept _ c.args.tools.now.routes.now _ _ _ _ _ c.args.place c.args.jobs.now.items c.go_at-going.new.jobs.items c.go_at-going.new.jobs.items c.go_at-going.result went settled;
    }

pub returns-then-index-made-clause-quiet : goal.returns-then-index-made-clause-quiet
returns-then-index-made-clause-quiet g c =
    went_quietly _ c.args.tools.now.routes.now _ _ _ _ _ c.args.place c.args.jobs.now.items c.go_at-going.new.jobs.items c.go_at-going.result c.index-2.result.now c.index-then-is_blocked.result.now
    c.go_at-going.ensures.went c.index-2.ensures c.index-then-is_blocked.ensures c.if-index-made.true

pub returns-then-index-made-clause-hindered : goal.returns-then-index-made-clause-hindered
returns-then-index-made-clause-hindered g c =
    went_hindered _ c.args.tools.now.routes.now _ _ _ _ _ c.args.place c.args.jobs.now.items c.go_at-going.new.jobs.items c.go_at-going.result (c.is_blocked.ensures c.if-is_blocked.true) c.go_at-going.ensures.went

pub returns-clause-at_work : goal.returns-clause-at_work
returns-clause-at_work g c =
    let went = c.go_at-going.ensures.went in
    record {
      same = c.go_at-going.ensures.same;
      works = went_works _ c.args.tools.now.routes.now _ _ _ _ _ c.args.place c.args.jobs.now.items c.go_at-going.new.jobs.items c.go_at-going.result went;
      routed = went_routed _ c.args.tools.now.routes.now _ _ _ _ _ c.args.place c.args.jobs.now.items c.go_at-going.new.jobs.items c.settle.new.jobs.items c.go_at-going.result went c.settle.ensures.settled c.requires.routed;
      kept = went_kept _ c.args.tools.now.routes.now _ _ _ _ _ c.args.place c.args.jobs.now.items c.go_at-going.new.jobs.items c.settle.new.jobs.items c.go_at-going.result went c.settle.ensures.settled;
    }

pub returns-clause-cause : goal.returns-clause-cause
returns-clause-cause g c =
    subst (IsOfJobs c.args.tools.now.connection.now.settings c.args.tools.now.routes.now c.args.caller.now.names c.args.caller.now.number c.args.tools.now.most c.args.caller.now.front c.go_at-going.new.caller.front c.args.jobs.now.items c.settle.new.jobs.items) (sym c.settle.ensures.said)
    (went_of_jobs _ c.args.tools.now.routes.now _ _ _ _ _ c.args.place c.args.jobs.now.items c.go_at-going.new.jobs.items c.settle.new.jobs.items c.go_at-going.result c.index.result.now c.index.ensures c.go_at-going.ensures.went c.settle.ensures.settled)

pub returns-clause-whole : goal.returns-clause-whole
returns-clause-whole g c =
    subst (WholeOfProgress c.args.tools.now.connection.now.settings c.args.tools.now.routes.now c.args.caller.now.names c.args.caller.now.number c.args.caller.now.front c.go_at-going.new.caller.front c.args.jobs.now.items c.settle.new.jobs.items) (sym c.settle.ensures.said)
    (went_whole _ c.args.tools.now.routes.now _ _ _ _ _ c.args.place c.args.jobs.now.items c.go_at-going.new.jobs.items c.settle.new.jobs.items c.go_at-going.result c.index.result.now c.index.ensures c.go_at-going.ensures.went c.settle.ensures.settled)
