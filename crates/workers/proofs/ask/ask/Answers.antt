use Rattle.std.proofs.Common.{◌<◌, subst}
use Rattle.conn_lock.specs.Callers.{times}
use Rattle.workers.proofs.Calling.{course_told, full_at, goes_call, may_answer, replied_call, was_answered}
use Rattle.workers.proofs.Within.{sent_of}
use Rattle.workers.proofs.ask.ask.Goals as goal

pub returns-clause-told : goal.returns-clause-told
returns-clause-told g c = course_told _ c.args.caller.now c.args.call.now c.call-answer.result _ (subst (λ n. 0 < times n c.args.caller.now.names) c.number-number.ensures.value c.number-number.ensures.named) c.call-answer.ensures.called

pub returns-clause-goes : goal.returns-clause-goes
returns-clause-goes g c = goes_call _ c.args.caller.now c.args.call.now c.call-answer.result _ (subst (λ n. 0 < times n c.args.caller.now.names) c.number-number.ensures.value c.number-number.ensures.named) c.call-answer.ensures.called

pub returns-clause-sent : goal.returns-clause-sent
returns-clause-sent g c = sent_of _ _ _ _ (replied_call _ c.args.caller.now c.args.call.now c.call-answer.result _ (subst (λ n. 0 < times n c.args.caller.now.names) c.number-number.ensures.value c.number-number.ensures.named) c.call-answer.ensures.called)

pub returns-clause-replied : goal.returns-clause-replied
returns-clause-replied g c = replied_call _ c.args.caller.now c.args.call.now c.call-answer.result _ (subst (λ n. 0 < times n c.args.caller.now.names) c.number-number.ensures.value c.number-number.ensures.named) c.call-answer.ensures.called

pub returns-clause-may : goal.returns-clause-may
returns-clause-may g c = may_answer _ c.args.caller.now c.args.call.now c.call-answer.result _ c.requires.workers c.call-answer.ensures.called

pub returns-clause-was : goal.returns-clause-was
returns-clause-was g c = was_answered _ c.args.caller.now c.args.call.now c.call-answer.result _ c.call-answer.ensures.called

pub returns-clause-full : goal.returns-clause-full
returns-clause-full g c = full_at _ c.args.caller.now c.args.call.now c.call-answer.result _ c.call-answer.ensures.called
