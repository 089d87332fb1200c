use Rattle.std.proofs.Common.{sym, subst}
use Rattle.std.specs.Prelude.{slice_get}
use Rattle.std.proofs.lemmas.Option.{IfSome_then}
use Rattle.workers.specs.Going.{IsPlan, plan_content}
use Rattle.workers.proofs.plan.on_channel.Goals as goal

pub returns-in-Request : goal.returns-in-Request
returns-in-Request g c = IfSome_then (slice_get c.args.routes.now c.args.route) c.answer.ensures (λ r shows.
    subst (λ at. IsPlan (plan_content r.law c.args.job.now.stream c.args.job.now.message.content at) c.item_or_none.result) (sym c.in-Request.is) (c.item_or_none.ensures _ shows))

pub returns-in-Taken : goal.returns-in-Taken
returns-in-Taken g c = IfSome_then (slice_get c.args.routes.now c.args.route) c.answer-in-Taken.ensures (λ r shows.
    subst (λ at. IsPlan (plan_content r.law c.args.job.now.stream c.args.job.now.message.content at) c.item_or_none-in-Taken.result) (sym c.in-Taken.is) (c.item_or_none-in-Taken.ensures _ shows))
