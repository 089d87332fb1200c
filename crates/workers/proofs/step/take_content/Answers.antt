use Rattle.std.proofs.Common.{refl, sym, ◌∙◌}
use Rattle.workers.specs.declared.outcome.Taken.TheVariants as taken
use Rattle.workers.proofs.AtEnd.{take_ends}
use Rattle.workers.proofs.Gone.{took_by, worked_took}
use Rattle.workers.proofs.Reasons.{closed_take, stopped_take, waiting_take}
use Rattle.workers.proofs.Within.{once_took}
use Rattle.workers.proofs.step.take_content.Goals as goal

pub returns-in-Item-clause-worked : goal.returns-in-Item-clause-worked
returns-in-Item-clause-worked g c = worked_took _ _ _ _ c.args.job.now _ c.ask.result refl c.ask.ensures.goes

pub returns-in-Item-clause-cause : goal.returns-in-Item-clause-cause
returns-in-Item-clause-cause g c = λ routes w. c.ask.ensures.sent

pub returns-in-End-clause-cause : goal.returns-in-End-clause-cause
returns-in-End-clause-cause g c = λ routes w. c.ask.ensures.sent

pub returns-in-Blocked-clause-cause : goal.returns-in-Blocked-clause-cause
returns-in-Blocked-clause-cause g c = λ routes w.
    waiting_take _ routes _ _ _ _ c.args.job.now c.ask.result (sym c.sort.ensures ∙ c.in-Blocked.is) c.ask.ensures.told c.ask.ensures.was w

pub returns-clause-cause : goal.returns-clause-cause
returns-clause-cause g c = λ routes w.
    stopped_take _ routes _ _ _ _ c.args.job.now c.ask.result c.in-Final.answer (sym c.sort.ensures ∙ c.in-Final.is) c.ask.ensures.may c.ask.ensures.told c.ask.ensures.was w

pub returns-in-Item-clause-kept : goal.returns-in-Item-clause-kept
returns-in-Item-clause-kept g c = λ routes w.
    took_by _ routes _ _ _ c.args.job.now c.ask.result (taken.Item c.in-Item.content) (sym c.sort.ensures ∙ c.in-Item.is) w
    (take_ends c.args.connection.now.settings routes _ _ _ _ c.args.job.now c.ask.result c.ask.ensures.lawful c.ask.ensures.was w) c.ask.ensures.may c.ask.ensures.told c.ask.ensures.goes c.ask.ensures.full

pub returns-in-End-clause-worked : goal.returns-in-End-clause-worked
returns-in-End-clause-worked g c = worked_took _ _ _ _ c.args.job.now _ c.ask.result refl c.ask.ensures.goes

pub returns-in-End-clause-kept : goal.returns-in-End-clause-kept
returns-in-End-clause-kept g c = λ routes w.
    took_by _ routes _ _ _ c.args.job.now c.ask.result taken.End (sym c.sort.ensures ∙ c.in-End.is) w
    (take_ends c.args.connection.now.settings routes _ _ _ _ c.args.job.now c.ask.result c.ask.ensures.lawful c.ask.ensures.was w) c.ask.ensures.may c.ask.ensures.told c.ask.ensures.goes c.ask.ensures.full

pub returns-in-Blocked-clause-worked : goal.returns-in-Blocked-clause-worked
returns-in-Blocked-clause-worked g c = worked_took _ _ _ _ c.args.job.now _ c.ask.result refl c.ask.ensures.goes

pub returns-in-OutOfMemory-clause-worked : goal.returns-in-OutOfMemory-clause-worked
returns-in-OutOfMemory-clause-worked g c = worked_took _ _ _ _ c.args.job.now _ c.ask.result refl c.ask.ensures.goes

pub returns-clause-worked : goal.returns-clause-worked
returns-clause-worked g c = worked_took _ _ _ _ c.args.job.now _ c.ask.result refl c.ask.ensures.goes

pub returns-clause-kept : goal.returns-clause-kept
returns-clause-kept g c = λ routes w.
    took_by _ routes _ _ _ c.args.job.now c.ask.result (taken.Final c.in-Final.answer) (sym c.sort.ensures ∙ c.in-Final.is) w
    (take_ends c.args.connection.now.settings routes _ _ _ _ c.args.job.now c.ask.result c.ask.ensures.lawful c.ask.ensures.was w) c.ask.ensures.may c.ask.ensures.told c.ask.ensures.goes c.ask.ensures.full

pub returns-clause-whole : goal.returns-clause-whole
returns-clause-whole g c = λ routes w.
    closed_take c.args.connection.now.settings routes _ _ _ _ c.args.job.now c.ask.result c.in-Final.answer (sym c.sort.ensures ∙ c.in-Final.is) c.ask.ensures.may c.ask.ensures.lawful c.ask.ensures.was w

pub returns-in-Item-clause-once : goal.returns-in-Item-clause-once
returns-in-Item-clause-once g c = once_took _ _ _ c.args.job.now.stream c.ask.result _ refl c.ask.ensures.replied

pub returns-in-End-clause-once : goal.returns-in-End-clause-once
returns-in-End-clause-once g c = once_took _ _ _ c.args.job.now.stream c.ask.result _ refl c.ask.ensures.replied

pub returns-in-Blocked-clause-once : goal.returns-in-Blocked-clause-once
returns-in-Blocked-clause-once g c = once_took _ _ _ c.args.job.now.stream c.ask.result _ tt c.ask.ensures.replied

pub returns-in-OutOfMemory-clause-once : goal.returns-in-OutOfMemory-clause-once
returns-in-OutOfMemory-clause-once g c = once_took _ _ _ c.args.job.now.stream c.ask.result _ tt c.ask.ensures.replied

pub returns-clause-once : goal.returns-clause-once
returns-clause-once g c = once_took _ _ _ c.args.job.now.stream c.ask.result _ tt c.ask.ensures.replied
