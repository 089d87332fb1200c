use Rattle.std.proofs.Common.{◌≤◌, ◌+◌, ◌∙◌, arith, refl, sym, true≢false}
use Rattle.workers.proofs.Ended.{closed_after, whole_after}
use Rattle.workers.proofs.Fronts.{enough_sent, sent_none}
use Rattle.workers.proofs.Gone.{gone_after, gone_none, on_both, same_both, sent_after, stopped_after, waiting_after, worked_after, worked_none}
use Rattle.workers.proofs.Within.{room_after, room_begins, within_after}
use Rattle.workers.proofs.going.go_on.Goals as goal

pub returns-then-is_enough-clause-worked : goal.returns-then-is_enough-clause-worked
returns-then-is_enough-clause-worked g c =
    worked_after c.args.caller.now c.loop.caller c.make_step.new.caller c.args.job.now c.loop.job c.make_step.new.job
    c.loop.invariant.same c.loop.invariant.job c.loop.invariant.worked c.make_step.ensures.worked

pub loop-init : goal.loop-init
loop-init g c = record {
  same = refl;
  job = refl;
  worked = worked_none c.args.caller.now.names c.args.caller.now.number c.args.caller.now.front c.args.job.now c.args.job.now refl;
  sent = sent_none c.args.caller.now.names c.args.caller.now.front;
  room = room_begins c.args.caller.now.names c.args.tools.now.most c.args.caller.now.front;
  gone = gone_none c.args.caller.now.names c.args.tools.now.routes.now c.args.caller.now.front c.args.job.now;
}

pub loop-preserved : goal.loop-preserved
loop-preserved g c = record {
  same = on_both c.args.caller.now c.loop.caller c.make_step.new.caller c.loop.invariant.same c.make_step.ensures.same;
  job = same_both c.args.job.now c.loop.job c.make_step.new.job c.loop.invariant.job c.make_step.ensures.job;
  worked = worked_after c.args.caller.now c.loop.caller c.make_step.new.caller c.args.job.now c.loop.job c.make_step.new.job c.loop.invariant.same c.loop.invariant.job c.loop.invariant.worked c.make_step.ensures.worked;
  gone = gone_after c.args.caller.now c.loop.caller c.make_step.new.caller c.args.tools.now.routes.now c.args.job.now c.loop.job _ c.loop.invariant.same c.loop.invariant.job c.loop.invariant.gone c.in-Went.ensures.kept;
  room = room_after c.args.caller.now c.loop.caller c.make_step.new.caller c.args.tools.now.most c.loop.sent c.in-Went.bytes c.saturating_add-sent.result c.loop.invariant.same
      (c.is_enough.ensures.fewer c.if-is_enough.false) (λ m fewer small. omega (arith, c.saturating_add-sent.ensures)) c.loop.invariant.room c.in-Went.ensures.once;
  sent = (let le : c.saturating_add-sent.result ≤ c.loop.sent + c.in-Went.bytes = omega (arith, c.saturating_add-sent.ensures) in
      sent_after c.args.caller.now c.loop.caller c.make_step.new.caller c.loop.sent c.in-Went.bytes c.saturating_add-sent.result c.loop.invariant.same le c.loop.invariant.sent c.in-Went.ensures.cause);
}

pub returns-in-Served-clause-worked : goal.returns-in-Served-clause-worked
returns-in-Served-clause-worked g c =
    worked_after c.args.caller.now c.loop.caller c.make_step.new.caller c.args.job.now c.loop.job c.make_step.new.job
    c.loop.invariant.same c.loop.invariant.job c.loop.invariant.worked c.make_step.ensures.worked

pub returns-in-Blocked-clause-worked : goal.returns-in-Blocked-clause-worked
returns-in-Blocked-clause-worked g c =
    worked_after c.args.caller.now c.loop.caller c.make_step.new.caller c.args.job.now c.loop.job c.make_step.new.job
    c.loop.invariant.same c.loop.invariant.job c.loop.invariant.worked c.make_step.ensures.worked

pub returns-in-Blocked-clause-cause : goal.returns-in-Blocked-clause-cause
returns-in-Blocked-clause-cause g c =
    waiting_after c.args.tools.now.connection.now.settings c.args.tools.now.routes.now c.args.caller.now c.loop.caller c.make_step.new.caller c.args.job.now c.loop.job c.make_step.new.job
    c.loop.invariant.same c.loop.invariant.worked c.in-Blocked.ensures.cause

pub returns-in-Stopped-clause-worked : goal.returns-in-Stopped-clause-worked
returns-in-Stopped-clause-worked g c =
    worked_after c.args.caller.now c.loop.caller c.make_step.new.caller c.args.job.now c.loop.job c.make_step.new.job
    c.loop.invariant.same c.loop.invariant.job c.loop.invariant.worked c.make_step.ensures.worked

pub returns-in-Stopped-clause-cause : goal.returns-in-Stopped-clause-cause
returns-in-Stopped-clause-cause g c =
    stopped_after c.args.tools.now.connection.now.settings c.args.tools.now.routes.now c.args.caller.now c.loop.caller c.make_step.new.caller c.args.job.now c.loop.job c.make_step.new.job c.in-Stopped.answer
    c.loop.invariant.same c.loop.invariant.worked c.in-Stopped.ensures.cause

pub returns-in-OutOfMemory-clause-worked : goal.returns-in-OutOfMemory-clause-worked
returns-in-OutOfMemory-clause-worked g c =
    worked_after c.args.caller.now c.loop.caller c.make_step.new.caller c.args.job.now c.loop.job c.make_step.new.job
    c.loop.invariant.same c.loop.invariant.job c.loop.invariant.worked c.make_step.ensures.worked

pub returns-in-Served-clause-whole : goal.returns-in-Served-clause-whole
returns-in-Served-clause-whole g c =
    whole_after c.args.caller.now c.loop.caller c.make_step.new.caller c.args.tools.now.routes.now c.args.job.now c.loop.job c.in-Served.items
    c.loop.invariant.same c.loop.invariant.job c.loop.invariant.gone c.in-Served.ensures.whole

pub returns-in-Stopped-clause-whole : goal.returns-in-Stopped-clause-whole
returns-in-Stopped-clause-whole g c =
    closed_after c.args.caller.now c.loop.caller c.make_step.new.caller c.args.tools.now.routes.now c.args.job.now c.loop.job c.in-Stopped.answer
    c.loop.invariant.same c.loop.invariant.job c.loop.invariant.gone c.in-Stopped.ensures.whole

pub returns-then-is_enough-clause-cause : goal.returns-then-is_enough-clause-cause
returns-then-is_enough-clause-cause g c =
    let le : c.saturating_add-sent.result ≤ c.loop.sent + c.in-Went.bytes = omega (arith, c.saturating_add-sent.ensures) in
    enough_sent c.args.caller.now.names c.args.tools.now.most c.args.caller.now.front c.make_step.new.caller.front c.saturating_add-sent.result
    (λ none. true≢false (sym c.if-is_enough.true ∙ c.is_enough.ensures.none none)) (c.is_enough.ensures.enough c.if-is_enough.true)
    (sent_after c.args.caller.now c.loop.caller c.make_step.new.caller c.loop.sent c.in-Went.bytes c.saturating_add-sent.result c.loop.invariant.same le c.loop.invariant.sent c.in-Went.ensures.cause)

pub returns-then-is_enough-clause-within : goal.returns-then-is_enough-clause-within
returns-then-is_enough-clause-within g c = within_after c.args.caller.now c.loop.caller c.make_step.new.caller c.args.tools.now.most c.loop.sent _ c.loop.invariant.same c.loop.invariant.room c.in-Went.ensures.once

pub returns-in-Served-clause-within : goal.returns-in-Served-clause-within
returns-in-Served-clause-within g c = within_after c.args.caller.now c.loop.caller c.make_step.new.caller c.args.tools.now.most c.loop.sent _ c.loop.invariant.same c.loop.invariant.room c.in-Served.ensures.once

pub returns-in-Blocked-clause-within : goal.returns-in-Blocked-clause-within
returns-in-Blocked-clause-within g c = within_after c.args.caller.now c.loop.caller c.make_step.new.caller c.args.tools.now.most c.loop.sent _ c.loop.invariant.same c.loop.invariant.room c.in-Blocked.ensures.once

pub returns-in-Stopped-clause-within : goal.returns-in-Stopped-clause-within
returns-in-Stopped-clause-within g c = within_after c.args.caller.now c.loop.caller c.make_step.new.caller c.args.tools.now.most c.loop.sent _ c.loop.invariant.same c.loop.invariant.room c.in-Stopped.ensures.once

pub returns-in-OutOfMemory-clause-within : goal.returns-in-OutOfMemory-clause-within
returns-in-OutOfMemory-clause-within g c = within_after c.args.caller.now c.loop.caller c.make_step.new.caller c.args.tools.now.most c.loop.sent _ c.loop.invariant.same c.loop.invariant.room c.in-OutOfMemory.ensures.once
