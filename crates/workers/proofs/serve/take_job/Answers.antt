use Rattle.std.proofs.Common.{◌∙◌, inr, refl, subst, sym}
use Rattle.rs_wire.specs.declared.call.Call.TheVariants as call
use Rattle.workers.specs.declared.outcome.Found.TheVariants as found
use Rattle.workers.specs.Serving.{AreRouted}
use Rattle.workers.specs.Causes.{IsRefusedOrFull, WasAnswered}
use Rattle.workers.specs.Going.{IsPut, Keeps}
use Rattle.workers.proofs.AtWork.{at_work_after, none_at_work, quiet_at_work}
use Rattle.workers.proofs.Ended.{was_pushed, whole_since}
use Rattle.workers.proofs.Fronts.{goes_later, goes_longer, job_taken_quietly}
use Rattle.workers.proofs.Putting.{had_put, keeps_put, no_job, no_more_found, not_yet_found, put_routed, told_no_job}
use Rattle.workers.proofs.Served.{jobs_after, taking_of_jobs}
use Rattle.workers.specs.Courses.{IsWorkersCall}
use Rattle.workers.proofs.Within.{within_none, within_quietly, within_since}
use Rattle.workers.proofs.serve.take_job.Goals as goal

pub returns-then-is_err-clause-at_work : goal.returns-then-is_err-clause-at_work
returns-then-is_err-clause-at_work g c = none_at_work c.args.tools.now.routes.now c.args.caller.now c.args.jobs.now.items c.reserve.new.self.items c.reserve.ensures.items c.requires.routed

pub go_first-requires-clause-routed : goal.go_first-requires-clause-routed
go_first-requires-clause-routed g c =
    put_routed c.args.tools.now.routes.now _ _ _ c.reserve.new.self.items c.put.new.jobs.items c.put.ensures
    (subst (AreRouted c.args.tools.now.routes.now) (sym c.reserve.ensures.items) c.requires.routed)

pub returns-in-Asked-clause-at_work : goal.returns-in-Asked-clause-at_work
returns-in-Asked-clause-at_work g c =
    at_work_after c.args.tools.now.routes.now c.args.caller.now c.ask.new.caller c.go_first.new.caller c.args.jobs.now.items c.put.new.jobs.items c.go_first.new.jobs.items c.ask.ensures.same
    (job_taken_quietly _ _ _ _ c.ask.result c.ask.ensures.goes)
    (subst (λ jobs. Keeps c.args.caller.now.names c.args.tools.now.routes.now c.args.caller.now.front c.ask.new.caller.front jobs c.put.new.jobs.items) c.reserve.ensures.items
    (keeps_put _ c.args.tools.now.routes.now _ _ _ _ _ c.ask.result c.reserve.new.self.items c.put.new.jobs.items (sym c.sort_job.ensures ∙ c.in-Asked.is) c.ask.ensures.told
    (goes_longer _ _ _ _ _ _ c.ask.ensures.goes) c.put.ensures))
    c.go_first.ensures.at_work

pub returns-in-Asked-clause-cause : goal.returns-in-Asked-clause-cause
returns-in-Asked-clause-cause g c =
    taking_of_jobs _ c.args.tools.now.routes.now _ _ c.args.tools.now.most _ _ c.args.jobs.now.items c.go_first.new.jobs.items c.go_first.result
    (jobs_after c.args.tools.now.connection.now.settings c.args.tools.now.routes.now c.args.tools.now.most c.args.caller.now c.ask.new.caller c.go_first.new.caller c.args.jobs.now.items c.put.new.jobs.items c.go_first.new.jobs.items c.go_first.result
    c.ask.ensures.same (goes_later _ _ _ _ _ _ c.ask.ensures.goes)
    (subst (λ jobs. Keeps c.args.caller.now.names c.args.tools.now.routes.now c.args.caller.now.front c.ask.new.caller.front jobs c.put.new.jobs.items) c.reserve.ensures.items
    (keeps_put _ c.args.tools.now.routes.now _ _ _ _ _ c.ask.result c.reserve.new.self.items c.put.new.jobs.items (sym c.sort_job.ensures ∙ c.in-Asked.is) c.ask.ensures.told
    (goes_longer _ _ _ _ _ _ c.ask.ensures.goes) c.put.ensures))
    (had_put c.args.tools.now.connection.now.settings c.args.caller.now.number c.args.caller.now.front c.ask.new.caller.front c.go_first.new.caller.front c.args.tools.now.routes.now c.in-Asked.stream c.in-Asked.kind c.in-Asked.message c.ask.result c.args.jobs.now.items c.put.new.jobs.items
    (sym c.sort_job.ensures ∙ c.in-Asked.is) c.ask.ensures.was (goes_later _ _ _ _ _ _ c.ask.ensures.goes) (c.go_first.ensures.at_work.works.more, c.go_first.ensures.at_work.works.on)
    (subst (λ jobs. IsPut c.args.tools.now.routes.now c.in-Asked.stream c.in-Asked.kind c.in-Asked.message jobs c.put.new.jobs.items) c.reserve.ensures.items c.put.ensures))
    c.go_first.ensures.cause)

pub returns-in-Pushed-clause-at_work : goal.returns-in-Pushed-clause-at_work
returns-in-Pushed-clause-at_work g c =
    quiet_at_work c.args.tools.now.routes.now c.args.caller.now c.ask.new.caller c.ask.result found.Pushed c.args.jobs.now.items c.reserve.new.self.items c.ask.ensures.same (sym c.sort_job.ensures ∙ c.in-Pushed.is) tt
    c.ask.ensures.told c.ask.ensures.goes c.reserve.ensures.items c.requires.routed

pub returns-in-NotYet-clause-at_work : goal.returns-in-NotYet-clause-at_work
returns-in-NotYet-clause-at_work g c =
    quiet_at_work c.args.tools.now.routes.now c.args.caller.now c.ask.new.caller c.ask.result found.NotYet c.args.jobs.now.items c.reserve.new.self.items c.ask.ensures.same (sym c.sort_job.ensures ∙ c.in-NotYet.is) tt
    c.ask.ensures.told c.ask.ensures.goes c.reserve.ensures.items c.requires.routed

pub returns-in-OutOfMemory-clause-at_work : goal.returns-in-OutOfMemory-clause-at_work
returns-in-OutOfMemory-clause-at_work g c =
    quiet_at_work c.args.tools.now.routes.now c.args.caller.now c.ask.new.caller c.ask.result found.OutOfMemory c.args.jobs.now.items c.reserve.new.self.items c.ask.ensures.same (sym c.sort_job.ensures ∙ c.in-OutOfMemory.is) tt
    c.ask.ensures.told c.ask.ensures.goes c.reserve.ensures.items c.requires.routed

pub returns-in-NoMore-clause-at_work : goal.returns-in-NoMore-clause-at_work
returns-in-NoMore-clause-at_work g c =
    quiet_at_work c.args.tools.now.routes.now c.args.caller.now c.ask.new.caller c.ask.result (found.NoMore c.in-NoMore.answer) c.args.jobs.now.items c.reserve.new.self.items c.ask.ensures.same (sym c.sort_job.ensures ∙ c.in-NoMore.is) tt
    c.ask.ensures.told c.ask.ensures.goes c.reserve.ensures.items c.requires.routed

pub returns-in-NotYet-clause-still : goal.returns-in-NotYet-clause-still
returns-in-NotYet-clause-still g c = λ idle s.
    c.ask.ensures.told s ∙ told_no_job s c.ask.result _ (subst no_job (sym (not_yet_found c.ask.result (sym c.sort_job.ensures ∙ c.in-NotYet.is))) tt)

pub returns-in-NotYet-clause-cause : goal.returns-in-NotYet-clause-cause
returns-in-NotYet-clause-cause g c =
    let is = not_yet_found c.ask.result (sym c.sort_job.ensures ∙ c.in-NotYet.is) in
    (job_taken_quietly _ _ _ _ c.ask.result c.ask.ensures.goes, subst (WasAnswered _ _ _ _ call.TakeJob) is c.ask.ensures.was)

pub returns-in-NoMore-clause-cause : goal.returns-in-NoMore-clause-cause
returns-in-NoMore-clause-cause g c =
    let is = no_more_found c.ask.result c.in-NoMore.answer c.ask.ensures.may (sym c.sort_job.ensures ∙ c.in-NoMore.is) in
    (job_taken_quietly _ _ _ _ c.ask.result c.ask.ensures.goes, (subst (WasAnswered _ _ _ _ call.TakeJob) is.0 c.ask.ensures.was, subst IsRefusedOrFull is.0 is.1))

pub returns-in-Asked-clause-whole : goal.returns-in-Asked-clause-whole
returns-in-Asked-clause-whole g c =
    whole_since c.args.tools.now.connection.now.settings c.args.caller.now c.ask.new.caller c.go_first.new.caller c.args.tools.now.routes.now c.args.jobs.now.items c.put.new.jobs.items c.go_first.new.jobs.items c.go_first.result
    c.ask.ensures.same (goes_later _ _ _ _ _ _ c.ask.ensures.goes)
    (subst (λ jobs. Keeps c.args.caller.now.names c.args.tools.now.routes.now c.args.caller.now.front c.ask.new.caller.front jobs c.put.new.jobs.items) c.reserve.ensures.items
    (keeps_put _ c.args.tools.now.routes.now _ _ _ _ _ c.ask.result c.reserve.new.self.items c.put.new.jobs.items (sym c.sort_job.ensures ∙ c.in-Asked.is) c.ask.ensures.told
    (goes_longer _ _ _ _ _ _ c.ask.ensures.goes) c.put.ensures))
    (had_put c.args.tools.now.connection.now.settings c.args.caller.now.number c.args.caller.now.front c.ask.new.caller.front c.go_first.new.caller.front c.args.tools.now.routes.now c.in-Asked.stream c.in-Asked.kind c.in-Asked.message c.ask.result c.args.jobs.now.items c.put.new.jobs.items
    (sym c.sort_job.ensures ∙ c.in-Asked.is) c.ask.ensures.was (goes_later _ _ _ _ _ _ c.ask.ensures.goes) (c.go_first.ensures.at_work.works.more, c.go_first.ensures.at_work.works.on)
    (subst (λ jobs. IsPut c.args.tools.now.routes.now c.in-Asked.stream c.in-Asked.kind c.in-Asked.message jobs c.put.new.jobs.items) c.reserve.ensures.items c.put.ensures))
    c.go_first.ensures.whole

pub returns-in-Pushed-clause-whole : goal.returns-in-Pushed-clause-whole
returns-in-Pushed-clause-whole g c = inr (refl, refl, was_pushed _ _ _ _ c.ask.result (sym c.sort_job.ensures ∙ c.in-Pushed.is) c.ask.ensures.was)

pub returns-then-is_err-clause-within : goal.returns-then-is_err-clause-within
returns-then-is_err-clause-within g c = within_none _ c.args.tools.now.most _

pub returns-in-Asked-clause-within : goal.returns-in-Asked-clause-within
returns-in-Asked-clause-within g c =
    within_since IsWorkersCall c.args.caller.now c.ask.new.caller c.go_first.new.caller c.args.tools.now.most c.ask.ensures.same (job_taken_quietly _ _ _ _ c.ask.result c.ask.ensures.goes) c.go_first.ensures.within

pub returns-in-Pushed-clause-within : goal.returns-in-Pushed-clause-within
returns-in-Pushed-clause-within g c = within_quietly IsWorkersCall _ _ c.args.tools.now.most _ _ (job_taken_quietly _ _ _ _ c.ask.result c.ask.ensures.goes)

pub returns-in-NotYet-clause-within : goal.returns-in-NotYet-clause-within
returns-in-NotYet-clause-within g c = within_quietly IsWorkersCall _ _ c.args.tools.now.most _ _ (job_taken_quietly _ _ _ _ c.ask.result c.ask.ensures.goes)

pub returns-in-OutOfMemory-clause-within : goal.returns-in-OutOfMemory-clause-within
returns-in-OutOfMemory-clause-within g c = within_quietly IsWorkersCall _ _ c.args.tools.now.most _ _ (job_taken_quietly _ _ _ _ c.ask.result c.ask.ensures.goes)

pub returns-in-NoMore-clause-within : goal.returns-in-NoMore-clause-within
returns-in-NoMore-clause-within g c = within_quietly IsWorkersCall _ _ c.args.tools.now.most _ _ (job_taken_quietly _ _ _ _ c.ask.result c.ask.ensures.goes)
