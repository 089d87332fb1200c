use Rattle.std.proofs.Common.{sym, subst}
use Rattle.workers.specs.Serving.{IsRouted}
use Rattle.workers.proofs.Routing.{routed_at}
use Rattle.workers.proofs.Served.{went_here}
use Rattle.workers.proofs.serve.go_at.Goals as goal

pub go_on-requires-clause-routed : goal.go_on-requires-clause-routed
go_on-requires-clause-routed g c =
    subst (IsRouted c.args.tools.now.routes.now) (sym c.index_mut.ensures.value)
    (routed_at c.args.tools.now.routes.now c.args.jobs.now.items c.args.place c.index_mut.result.now c.requires.place c.requires.routed)

pub returns-clause-went : goal.returns-clause-went
returns-clause-went g c =
    went_here _ _ _ _ _ _ _ c.args.place c.args.jobs.now.items c.index_mut.result.now c.go_on.new.job c.go_on.result c.requires.place
    c.index_mut.ensures.value c.go_on.ensures.job c.go_on.ensures.kept c.go_on.ensures.worked c.go_on.ensures.cause c.go_on.ensures.whole
