use Rattle.std.proofs.Common.{◌≡◌, ◌+◌, ◌∙◌, sym, ap, subst, rules}
use Rattle.workers.specs.declared.job.OpenJob.{OpenJob}
use Rattle.workers.specs.declared.outcome.Outcome.{Outcome}
use Rattle.workers.specs.declared.outcome.Outcome.TheVariants as outcome
use Rattle.workers.specs.Going.{HasGone}
use Rattle.workers.proofs.Ended.{whole_said}
use Rattle.workers.proofs.Gone.{made_after, said_by, worked_said}
use Rattle.workers.proofs.Reasons.{closed_reply, stopped_reply, waiting_reply, went_reply}
use Rattle.workers.proofs.Within.{once_none, once_said, tells_reply}
use Rattle.workers.proofs.step.say.Goals as goal

pub returns-in-Accepted-clause-worked : goal.returns-in-Accepted-clause-worked
returns-in-Accepted-clause-worked g c =
    let more : c.in-Some.made ≡ c.args.job.now.made + 1 = search rules in
    worked_said _ _ _ _ c.args.job.now c.accepted.new.job c.args.call.now c.ask-answer.result c.requires.on
    (ap (λ (j : OpenJob). j.made) c.accepted.ensures.job ∙ (more ∙ (sym (ap (λ (o : Outcome). made_after o c.args.job.now.made) (sym c.judge.ensures ∙ c.in-Accepted.is))))) c.ask-answer.ensures.goes

pub returns-in-Accepted-clause-cause : goal.returns-in-Accepted-clause-cause
returns-in-Accepted-clause-cause g c = λ routes plans.
    went_reply _ routes _ _ _ _ c.accepted.new.job c.args.job.now.stream c.args.call.now c.args.job.now.made c.args.last c.ask-answer.result c.accepted.result (sym c.judge.ensures ∙ c.in-Accepted.is)
    c.requires.on c.ask-answer.ensures.sent c.accepted.ensures.accepted

pub returns-in-Blocked-clause-cause : goal.returns-in-Blocked-clause-cause
returns-in-Blocked-clause-cause g c = λ routes plans.
    waiting_reply _ routes _ _ _ _ c.args.job.now c.args.call.now c.args.last c.ask-answer.result (sym c.judge.ensures ∙ c.in-Blocked.is)
    c.requires.on c.ask-answer.ensures.told c.ask-answer.ensures.was plans

pub returns-in-Final-clause-cause : goal.returns-in-Final-clause-cause
returns-in-Final-clause-cause g c = λ routes plans.
    stopped_reply _ routes _ _ _ _ c.args.job.now c.args.call.now c.args.last c.ask-answer.result (sym c.judge.ensures ∙ c.in-Final.is)
    c.requires.on c.ask-answer.ensures.may c.ask-answer.ensures.told c.ask-answer.ensures.was plans

pub returns-in-Accepted-clause-kept : goal.returns-in-Accepted-clause-kept
returns-in-Accepted-clause-kept g c = λ routes plans.
    let more : c.in-Some.made ≡ c.args.job.now.made + 1 = search rules in
    subst (HasGone _ routes _ _ c.args.job.now) (sym c.accepted.ensures.left)
    (said_by _ routes _ _ _ c.args.job.now c.args.call.now c.args.last c.ask-answer.result c.in-Some.made outcome.Accepted (sym c.judge.ensures ∙ c.in-Accepted.is) more c.requires.on
    c.ask-answer.ensures.may c.ask-answer.ensures.told c.ask-answer.ensures.goes c.ask-answer.ensures.full plans)

pub returns-in-Blocked-clause-worked : goal.returns-in-Blocked-clause-worked
returns-in-Blocked-clause-worked g c =
    worked_said _ _ _ _ c.args.job.now c.args.job.now c.args.call.now c.ask-answer.result c.requires.on
    (sym (ap (λ (o : Outcome). made_after o c.args.job.now.made) (sym c.judge.ensures ∙ c.in-Blocked.is))) c.ask-answer.ensures.goes

pub returns-in-Blocked-clause-kept : goal.returns-in-Blocked-clause-kept
returns-in-Blocked-clause-kept g c = λ routes plans.
    let more : c.in-Some.made ≡ c.args.job.now.made + 1 = search rules in
    said_by _ routes _ _ _ c.args.job.now c.args.call.now c.args.last c.ask-answer.result c.in-Some.made outcome.Blocked (sym c.judge.ensures ∙ c.in-Blocked.is) more c.requires.on
    c.ask-answer.ensures.may c.ask-answer.ensures.told c.ask-answer.ensures.goes c.ask-answer.ensures.full plans

pub returns-in-OutOfMemory-clause-worked : goal.returns-in-OutOfMemory-clause-worked
returns-in-OutOfMemory-clause-worked g c =
    worked_said _ _ _ _ c.args.job.now c.args.job.now c.args.call.now c.ask-answer.result c.requires.on
    (sym (ap (λ (o : Outcome). made_after o c.args.job.now.made) (sym c.judge.ensures ∙ c.in-OutOfMemory.is))) c.ask-answer.ensures.goes

pub returns-in-Final-clause-worked : goal.returns-in-Final-clause-worked
returns-in-Final-clause-worked g c =
    worked_said _ _ _ _ c.args.job.now c.args.job.now c.args.call.now c.ask-answer.result c.requires.on
    (sym (ap (λ (o : Outcome). made_after o c.args.job.now.made) (sym c.judge.ensures ∙ c.in-Final.is))) c.ask-answer.ensures.goes

pub returns-in-Final-clause-kept : goal.returns-in-Final-clause-kept
returns-in-Final-clause-kept g c = λ routes plans.
    let more : c.in-Some.made ≡ c.args.job.now.made + 1 = search rules in
    said_by _ routes _ _ _ c.args.job.now c.args.call.now c.args.last c.ask-answer.result c.in-Some.made outcome.Final (sym c.judge.ensures ∙ c.in-Final.is) more c.requires.on
    c.ask-answer.ensures.may c.ask-answer.ensures.told c.ask-answer.ensures.goes c.ask-answer.ensures.full plans

pub returns-in-Accepted-clause-whole : goal.returns-in-Accepted-clause-whole
returns-in-Accepted-clause-whole g c = λ routes plans.
    whole_said _ routes _ _ c.args.job.now c.args.call.now c.args.last c.ask-answer.result c.accepted.result c.accepted.ensures.accepted (sym c.judge.ensures ∙ c.in-Accepted.is)
    c.requires.on c.ask-answer.ensures.told plans

pub returns-in-Final-clause-whole : goal.returns-in-Final-clause-whole
returns-in-Final-clause-whole g c = λ routes plans.
    closed_reply _ routes _ _ c.args.job.now c.args.call.now c.ask-answer.result c.requires.on c.ask-answer.ensures.told

pub returns-in_default-clause-once : goal.returns-in_default-clause-once
returns-in_default-clause-once g c = once_none _ _ _ tt

pub returns-in-Accepted-clause-once : goal.returns-in-Accepted-clause-once
returns-in-Accepted-clause-once g c =
    once_said _ _ _ c.args.call.now c.ask-answer.result c.accepted.result
    (tells_reply c.args.job.now.stream c.args.call.now c.args.job.now.made c.args.last c.ask-answer.result c.accepted.result (sym c.judge.ensures ∙ c.in-Accepted.is) c.requires.on c.accepted.ensures.accepted)
    c.ask-answer.ensures.replied

pub returns-in-Blocked-clause-once : goal.returns-in-Blocked-clause-once
returns-in-Blocked-clause-once g c = once_said _ _ _ c.args.call.now c.ask-answer.result _ tt c.ask-answer.ensures.replied

pub returns-in-OutOfMemory-clause-once : goal.returns-in-OutOfMemory-clause-once
returns-in-OutOfMemory-clause-once g c = once_said _ _ _ c.args.call.now c.ask-answer.result _ tt c.ask-answer.ensures.replied

pub returns-in-Final-clause-once : goal.returns-in-Final-clause-once
returns-in-Final-clause-once g c = once_said _ _ _ c.args.call.now c.ask-answer.result _ tt c.ask-answer.ensures.replied
