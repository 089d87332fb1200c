use Rattle.std.proofs.Common.{rules, true, subst}
use Rattle.workers.specs.Serving.{Serving}
use Rattle.server.proofs.Kept.{serving_look, serving_on}
use Rattle.pump.proofs.Adding.{goes_both, goes_follows, on_both}
use Rattle.server.specs.Attending.{IsHelped}
use Rattle.server.proofs.Helped.{works_goes}
use Rattle.serve_threads.proofs.Working.{no_more, none_left}
use Rattle.serve_threads.proofs.worker.work_off.Goals as goal

pub loop-preserved : goal.loop-preserved
loop-preserved g c =
    let i = c.loop.invariant in
    let me = c.args.caller.now in
    let was = c.loop.caller in
    let mid = c.serve_job-worked.new.caller in
    let now = c.rest.new.caller in
    let P = IsHelped true in
    let on_mid = on_both me was mid i.0 c.serve_job-worked.ensures.same in (
      on_both me mid now on_mid c.rest.ensures.same,
      goes_both P me mid now.front on_mid (goes_both P me was mid.front i.0 i.1 (works_goes was mid.front c.serve_job-worked.ensures.works)) (goes_follows P mid now.front c.rest.ensures.follows),
      c.serve_job-worked.ensures.routed,
      λ h. serving_look me mid now.front c.args.routes.now c.serve_job-worked.new.work on_mid c.rest.ensures.follows (serving_on me was mid.front c.args.routes.now c.loop.work c.serve_job-worked.new.work i.0 c.serve_job-worked.ensures.kept (i.3 h)),
    )

pub loop-preserved-else-is_over-6 : goal.loop-preserved-else-is_over-6
loop-preserved-else-is_over-6 g c =
    let i = c.loop.invariant in
    let me = c.args.caller.now in
    let was = c.loop.caller in
    let mid = c.serve_job-worked.new.caller in
    let now = c.rest.new.caller in
    let P = IsHelped true in
    let on_mid = on_both me was mid i.0 c.serve_job-worked.ensures.same in (
      on_both me mid now on_mid c.rest.ensures.same,
      goes_both P me mid now.front on_mid (goes_both P me was mid.front i.0 i.1 (works_goes was mid.front c.serve_job-worked.ensures.works)) (goes_follows P mid now.front c.rest.ensures.follows),
      c.serve_job-worked.ensures.routed,
      λ h. serving_look me mid now.front c.args.routes.now c.serve_job-worked.new.work on_mid c.rest.ensures.follows (serving_on me was mid.front c.args.routes.now c.loop.work c.serve_job-worked.new.work i.0 c.serve_job-worked.ensures.kept (i.3 h)),
    )

pub loop-preserved-else-is_over-12 : goal.loop-preserved-else-is_over-12
loop-preserved-else-is_over-12 g c =
    let i = c.loop.invariant in
    let me = c.args.caller.now in
    let was = c.loop.caller in
    let mid = c.serve_job-worked.new.caller in
    let now = c.rest.new.caller in
    let P = IsHelped true in
    let on_mid = on_both me was mid i.0 c.serve_job-worked.ensures.same in (
      on_both me mid now on_mid c.rest.ensures.same,
      goes_both P me mid now.front on_mid (goes_both P me was mid.front i.0 i.1 (works_goes was mid.front c.serve_job-worked.ensures.works)) (goes_follows P mid now.front c.rest.ensures.follows),
      c.serve_job-worked.ensures.routed,
      λ h. serving_look me mid now.front c.args.routes.now c.serve_job-worked.new.work on_mid c.rest.ensures.follows (serving_on me was mid.front c.args.routes.now c.loop.work c.serve_job-worked.new.work i.0 c.serve_job-worked.ensures.kept (i.3 h)),
    )

pub returns-then-is_over-clause-goes : goal.returns-then-is_over-clause-goes
returns-then-is_over-clause-goes g c =
    let i = c.loop.invariant in
    let was = c.loop.caller in
    let mid = c.serve_job-worked.new.caller in
    goes_both (IsHelped true) c.args.caller.now was mid.front i.0 i.1 (works_goes was mid.front c.serve_job-worked.ensures.works)

pub returns-then-is_over-clause-no_more : goal.returns-then-is_over-clause-no_more
returns-then-is_over-clause-no_more g c =
    let was = c.loop.caller in
    let mid = c.serve_job-worked.new.caller in
    no_more c.args.connection.now.settings c.args.routes.now was.names was.number was.front mid.front c.loop.work c.serve_job-worked.new.work c.serve_job-worked.result (c.is_over.ensures (search rules)) c.serve_job-worked.ensures.cause

pub returns-then-is_over-clause-empty : goal.returns-then-is_over-clause-empty
returns-then-is_over-clause-empty g c = none_left c.serve_job-worked.result c.serve_job-worked.new.work (c.is_over.ensures (search rules))

pub returns-then-is_over-clause-kept : goal.returns-then-is_over-clause-kept
returns-then-is_over-clause-kept g c h =
    let i = c.loop.invariant in
    let me = c.args.caller.now in
    let mid = c.serve_job-worked.new.caller in
    subst (Serving me.names mid.front c.args.routes.now) (none_left c.serve_job-worked.result c.serve_job-worked.new.work (c.is_over.ensures (search rules)))
    (serving_on me c.loop.caller mid.front c.args.routes.now c.loop.work c.serve_job-worked.new.work i.0 c.serve_job-worked.ensures.kept (i.3 h))
