use Rattle.std.proofs.Common.{refl, sym, subst}
use Rattle.workers.specs.Replies.{law_of}
use Rattle.workers.specs.Going.{IsPlan, plan_of}
use Rattle.workers.proofs.Ended.{whole_quietly}
use Rattle.workers.proofs.Fronts.{sent_none}
use Rattle.workers.proofs.Gone.{gone_skipped, gone_unsaid}
use Rattle.workers.proofs.Within.{once_none}
use Rattle.workers.proofs.step.answer.Goals as goal

pub returns-in-Skip-clause-cause : goal.returns-in-Skip-clause-cause
returns-in-Skip-clause-cause g c = sent_none _ _

pub returns-in-Skip-clause-kept : goal.returns-in-Skip-clause-kept
returns-in-Skip-clause-kept g c =
    gone_skipped _ c.args.tools.now.routes.now _ c.args.job.now
    (sym (subst (IsPlan (plan_of (law_of c.args.tools.now.routes.now c.args.job.now.kind c.args.job.now.message) c.args.job.now)) c.in-Skip.is c.make_plan.ensures))

pub returns-in-Nothing-clause-kept : goal.returns-in-Nothing-clause-kept
returns-in-Nothing-clause-kept g c =
    gone_unsaid _ c.args.tools.now.routes.now _ c.args.job.now
    (sym (subst (IsPlan (plan_of (law_of c.args.tools.now.routes.now c.args.job.now.kind c.args.job.now.message) c.args.job.now)) c.in-Nothing.is c.make_plan.ensures))

pub returns-in-Nothing-clause-whole : goal.returns-in-Nothing-clause-whole
returns-in-Nothing-clause-whole g c =
    whole_quietly _ c.args.tools.now.routes.now _ c.args.job.now
    (sym (subst (IsPlan (plan_of (law_of c.args.tools.now.routes.now c.args.job.now.kind c.args.job.now.message) c.args.job.now)) c.in-Nothing.is c.make_plan.ensures))

pub returns-in-Skip-clause-once : goal.returns-in-Skip-clause-once
returns-in-Skip-clause-once g c = once_none _ _ _ refl

pub returns-in-Nothing-clause-once : goal.returns-in-Nothing-clause-once
returns-in-Nothing-clause-once g c = once_none _ _ _ tt

pub returns-in-OutOfMemory-clause-once : goal.returns-in-OutOfMemory-clause-once
returns-in-OutOfMemory-clause-once g c = once_none _ _ _ tt
