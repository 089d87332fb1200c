use Rattle.std.proofs.Common.{sym, subst}
use Rattle.std.specs.Prelude.{Some, slice_get}
use Rattle.std.proofs.lemmas.Option.{IfSome_then}
use Rattle.workers.specs.Going.{IsPlan, plan_by}
use Rattle.workers.proofs.plan.routed.Goals as goal

pub returns-in-Response : goal.returns-in-Response
returns-in-Response g c = IfSome_then (slice_get c.args.routes.now c.args.route) c.answer.ensures (λ r shows.
    subst (λ k. IsPlan (plan_by (Some r.law) k c.args.job.now.stream c.args.job.now.message.content c.args.job.now.made c.args.job.now.stage) c.response.result) (sym c.in-Response.is) (c.response.ensures _ shows))

pub returns-in-Stream : goal.returns-in-Stream
returns-in-Stream g c = IfSome_then (slice_get c.args.routes.now c.args.route) c.answer-in-Stream.ensures (λ r shows.
    subst (λ k. IsPlan (plan_by (Some r.law) k c.args.job.now.stream c.args.job.now.message.content c.args.job.now.made c.args.job.now.stage) c.item_or_end.result) (sym c.in-Stream.is) (c.item_or_end.ensures _ shows))
