use Rattle.std.proofs.Common.{◌-◌, subst, sym}
use Rattle.workers.specs.Causes.{IsOfJobs, WholeOfProgress}
use Rattle.workers.proofs.Ended.{went_whole}
use Rattle.workers.proofs.Served.{went_kept, went_of_jobs, went_routed, went_works}
use Rattle.workers.proofs.serve.go_first.Goals as goal

pub returns-clause-at_work : goal.returns-clause-at_work
returns-clause-at_work g c = record {
  same = c.go_at-going.ensures.same;
  works = went_works _ c.args.tools.now.routes.now _ _ _ _ _ (c.len-place.result - 1) c.args.jobs.now.items c.go_at-going.new.jobs.items c.go_at-going.result c.go_at-going.ensures.went;
  routed = went_routed _ c.args.tools.now.routes.now _ _ _ _ _ (c.len-place.result - 1) c.args.jobs.now.items c.go_at-going.new.jobs.items c.settle.new.jobs.items c.go_at-going.result c.go_at-going.ensures.went c.settle.ensures.settled c.requires.routed;
  kept = went_kept _ c.args.tools.now.routes.now _ _ _ _ _ (c.len-place.result - 1) c.args.jobs.now.items c.go_at-going.new.jobs.items c.settle.new.jobs.items c.go_at-going.result c.go_at-going.ensures.went c.settle.ensures.settled;
}

pub returns-clause-cause : goal.returns-clause-cause
returns-clause-cause g c =
    subst (IsOfJobs c.args.tools.now.connection.now.settings c.args.tools.now.routes.now c.args.caller.now.names c.args.caller.now.number c.args.tools.now.most c.args.caller.now.front c.go_at-going.new.caller.front c.args.jobs.now.items c.settle.new.jobs.items) (sym c.settle.ensures.said)
    (went_of_jobs _ c.args.tools.now.routes.now _ _ _ _ _ (c.len-place.result - 1) c.args.jobs.now.items c.go_at-going.new.jobs.items c.settle.new.jobs.items c.go_at-going.result c.index.result.now c.index.ensures c.go_at-going.ensures.went c.settle.ensures.settled)

pub returns-clause-whole : goal.returns-clause-whole
returns-clause-whole g c =
    subst (WholeOfProgress c.args.tools.now.connection.now.settings c.args.tools.now.routes.now c.args.caller.now.names c.args.caller.now.number c.args.caller.now.front c.go_at-going.new.caller.front c.args.jobs.now.items c.settle.new.jobs.items) (sym c.settle.ensures.said)
    (went_whole _ c.args.tools.now.routes.now _ _ _ _ _ (c.len-place.result - 1) c.args.jobs.now.items c.go_at-going.new.jobs.items c.settle.new.jobs.items c.go_at-going.result c.index.result.now c.index.ensures c.go_at-going.ensures.went c.settle.ensures.settled)
