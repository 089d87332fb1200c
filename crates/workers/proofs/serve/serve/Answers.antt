use Rattle.std.proofs.Common.{◌≤◌, ◌∙◌, length, arith, subst, sym}
use Rattle.workers.specs.Causes.{AreHindered, AreWaiting, IsHindered, IsWaiting}
use Rattle.workers.proofs.AtWork.{all_first, all_wait, at_work_after, still_for, tried_on, wait_on, waiting_if_idle, waiting_of_jobs}
use Rattle.workers.proofs.Ended.{whole_since}
use Rattle.workers.proofs.Gone.{on_both}
use Rattle.workers.proofs.Served.{had_since, hindered_length, hindered_stood, hindered_until, jobs_after, keeps_after, later_of, progress_of_jobs, progress_of_taking, quiet_since, taking_after}
use Rattle.workers.specs.Courses.{IsWorkersCall}
use Rattle.workers.proofs.Within.{within_since}
use Rattle.workers.proofs.serve.serve.Goals as goal

pub returns-in-Some-clause-at_work : goal.returns-in-Some-clause-at_work
returns-in-Some-clause-at_work g c =
    at_work_after c.args.tools.now.routes.now c.args.caller.now c.loop-place.caller c.try_job.new.caller c.args.jobs.now.items c.loop-place.jobs.items c.try_job.new.jobs.items
    c.loop-place.invariant.same c.loop-place.invariant.quiet c.loop-place.invariant.kept c.try_job.ensures.at_work

pub returns-in-Some-clause-cause : goal.returns-in-Some-clause-cause
returns-in-Some-clause-cause g c =
    progress_of_jobs _ c.args.tools.now.routes.now _ _ c.args.tools.now.most _ _ c.args.jobs.now.items c.try_job.new.jobs.items c.in-Some.progress
    (jobs_after c.args.tools.now.connection.now.settings c.args.tools.now.routes.now c.args.tools.now.most c.args.caller.now c.loop-place.caller c.try_job.new.caller c.args.jobs.now.items c.loop-place.jobs.items c.try_job.new.jobs.items c.in-Some.progress
    c.loop-place.invariant.same (later_of _ _ _ _ c.loop-place.invariant.quiet) c.loop-place.invariant.kept
    (had_since c.args.tools.now.connection.now.settings c.args.caller.now.number c.args.caller.now.front c.loop-place.caller.front c.try_job.new.caller.front c.args.jobs.now.items c.loop-place.jobs.items
    (later_of _ _ _ _ c.loop-place.invariant.quiet) c.loop-place.invariant.stood)
    c.in-Some.ensures.cause)

pub returns-in-Some-clause-waits : goal.returns-in-Some-clause-waits
returns-in-Some-clause-waits g c =
    waiting_of_jobs c.args.tools.now.connection.now.settings c.args.tools.now.routes.now c.args.caller.now c.loop-place.caller c.args.tools.now.most c.loop-place.caller.front c.try_job.new.caller.front c.args.caller.now.front c.try_job.new.caller.front
    c.loop-place.jobs.items c.try_job.new.jobs.items c.args.jobs.now.items c.try_job.new.jobs.items c.in-Some.progress c.in-Some.ensures.cause

pub returns-in-Some-clause-whole : goal.returns-in-Some-clause-whole
returns-in-Some-clause-whole g c =
    whole_since c.args.tools.now.connection.now.settings c.args.caller.now c.loop-place.caller c.try_job.new.caller c.args.tools.now.routes.now c.args.jobs.now.items c.loop-place.jobs.items c.try_job.new.jobs.items c.in-Some.progress
    c.loop-place.invariant.same (later_of _ _ _ _ c.loop-place.invariant.quiet) c.loop-place.invariant.kept
    (had_since c.args.tools.now.connection.now.settings c.args.caller.now.number c.args.caller.now.front c.loop-place.caller.front c.try_job.new.caller.front c.args.jobs.now.items c.loop-place.jobs.items
    (later_of _ _ _ _ c.loop-place.invariant.quiet) c.loop-place.invariant.stood)
    c.in-Some.ensures.whole

pub loop-place-preserved : goal.loop-place-preserved
loop-place-preserved g c =
    let settings = c.args.tools.now.connection.now.settings in
    let routes = c.args.tools.now.routes.now in
    let was = c.args.caller.now in
    let mid = c.loop-place.caller in
    let now = c.try_job.new.caller in
    let known = c.loop-place.invariant in
    let before = c.loop-place.jobs.items in
    let after = c.try_job.new.jobs.items in
    let later = later_of _ _ _ _ known.quiet in
    let since = later_of _ _ _ _ c.in_default.ensures.quiet in
    let tried = c.in_default.ensures.hindered in
    let work = c.try_job.ensures.at_work in
    record {
      same = on_both was mid now known.same work.same;
      quiet = quiet_since was mid now known.same known.quiet c.in_default.ensures.quiet;
      routed = work.routed;
      kept = keeps_after was mid now routes c.args.jobs.now.items before after known.same known.kept work.kept;
      many = hindered_length _ _ _ _ _ _ c.loop-place.place before after tried ∙ known.many;
      tried = tried_on settings routes was mid now c.loop-place.place before after known.same later since tried known.tried;
      waits = λ serving. wait_on settings routes was mid now c.loop-place.place before after known.same later since (known.kept serving) tried (known.waits serving);
      stood = λ x there. known.stood x (hindered_stood _ _ _ _ _ _ c.loop-place.place before after tried x there);
    }

-- ---- where a job is to be taken

pub returns-clause-at_work : goal.returns-clause-at_work
returns-clause-at_work g c =
    at_work_after c.args.tools.now.routes.now c.args.caller.now c.loop-place.caller c.take_job.new.caller c.args.jobs.now.items c.loop-place.jobs.items c.take_job.new.jobs.items
    c.loop-place.invariant.same c.loop-place.invariant.quiet c.loop-place.invariant.kept c.take_job.ensures.at_work

pub returns-clause-cause : goal.returns-clause-cause
returns-clause-cause g c =
    let was = c.args.caller.now in
    let mid = c.loop-place.caller in
    let now = c.take_job.new.caller in
    let known = c.loop-place.invariant in
    let settings = c.args.tools.now.connection.now.settings in
    let past : length c.loop-place.jobs.items ≤ c.loop-place.place = omega (arith, known.many, c.loop-place-test.false) in
    let routes = c.args.tools.now.routes.now in
    let works = c.take_job.ensures.at_work.works in
    let tried = all_first (IsHindered settings routes was.number was.front mid.front) c.loop-place.place c.loop-place.jobs.items past known.tried in
    progress_of_taking settings routes was.names was.number c.args.tools.now.most was.front now.front c.args.jobs.now.items c.take_job.new.jobs.items c.take_job.result
    (λ idle. subst (AreHindered settings routes was.number was.front now.front) (sym (c.take_job.ensures.idle idle))
    (hindered_until settings routes was.number was.front mid.front now.front c.loop-place.jobs.items (works.more, works.on) tried))
    (taking_after settings routes c.args.tools.now.most was mid now c.args.jobs.now.items c.loop-place.jobs.items c.take_job.new.jobs.items c.take_job.result known.same known.quiet known.kept
    (had_since settings was.number was.front mid.front now.front c.args.jobs.now.items c.loop-place.jobs.items (later_of _ _ _ _ known.quiet) known.stood)
    c.take_job.ensures.cause)

pub returns-clause-waits : goal.returns-clause-waits
returns-clause-waits g c =
    let was = c.args.caller.now in
    let mid = c.loop-place.caller in
    let now = c.take_job.new.caller in
    let known = c.loop-place.invariant in
    let settings = c.args.tools.now.connection.now.settings in
    let routes = c.args.tools.now.routes.now in
    let past : length c.loop-place.jobs.items ≤ c.loop-place.place = omega (arith, known.many, c.loop-place-test.false) in
    let works = c.take_job.ensures.at_work.works in
    waiting_if_idle settings routes was.names was.number was.front now.front c.args.jobs.now.items c.take_job.new.jobs.items c.take_job.result
    (λ idle serving. subst (AreWaiting settings routes was.names was.number was.front now.front) (sym (c.take_job.ensures.idle idle))
    (all_wait settings routes was.names was.number was.front mid.front now.front c.loop-place.jobs.items (works.more, works.on) (still_for was mid now known.same (c.take_job.ensures.still idle))
    (all_first (IsWaiting settings routes was.names was.number was.front mid.front) c.loop-place.place c.loop-place.jobs.items past (known.waits serving))))

pub returns-clause-whole : goal.returns-clause-whole
returns-clause-whole g c =
    whole_since c.args.tools.now.connection.now.settings c.args.caller.now c.loop-place.caller c.take_job.new.caller c.args.tools.now.routes.now c.args.jobs.now.items c.loop-place.jobs.items c.take_job.new.jobs.items c.take_job.result
    c.loop-place.invariant.same (later_of _ _ _ _ c.loop-place.invariant.quiet) c.loop-place.invariant.kept
    (had_since c.args.tools.now.connection.now.settings c.args.caller.now.number c.args.caller.now.front c.loop-place.caller.front c.take_job.new.caller.front c.args.jobs.now.items c.loop-place.jobs.items
    (later_of _ _ _ _ c.loop-place.invariant.quiet) c.loop-place.invariant.stood)
    c.take_job.ensures.whole

pub returns-in-Some-clause-within : goal.returns-in-Some-clause-within
returns-in-Some-clause-within g c =
    within_since IsWorkersCall c.args.caller.now c.loop-place.caller c.try_job.new.caller c.args.tools.now.most c.loop-place.invariant.same c.loop-place.invariant.quiet c.try_job.ensures.within

pub returns-clause-within : goal.returns-clause-within
returns-clause-within g c =
    within_since IsWorkersCall c.args.caller.now c.loop-place.caller c.take_job.new.caller c.args.tools.now.most c.loop-place.invariant.same c.loop-place.invariant.quiet c.take_job.ensures.within
