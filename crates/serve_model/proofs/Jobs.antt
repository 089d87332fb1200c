-- Where TakeJob was refused all jobs were got.
use Rattle.std.proofs.lemmas.Grind.{common_steps}
use Rattle.std.proofs.Common.{◌≡◌, ◌∙◌, List, [], ◌∷◌, ◌++◌, Option, Some, None, refl, sym, ap, subst, arith, append-nil}
use Rattle.rs_wire.specs.declared.call.Call.TheVariants as call
use Rattle.rs_wire.specs.declared.delivery.Job.{Job}
use Rattle.rs_wire.specs.declared.fault.Cause.{Cause}
use Rattle.rs_wire.specs.declared.fault.Refusal.{Refusal}
use Rattle.rs_wire.specs.declared.settings.Settings.{Settings}
use Rattle.std.specs.Option.{option_or}
use Rattle.tape.specs.declared.answer.Answer.TheVariants as answer
use Rattle.tape.specs.declared.event.Event.TheVariants as event
use Rattle.tape.specs.declared.entry.Entry.{Entry}
use Rattle.stream_model.specs.Known.{front_of, known as known_after}
use Rattle.stream_model.specs.Streams.{jobs, jobs_waiting}
use Rattle.session_model.specs.Answers.{answer_to, by_size, closed_refusal, facts, got_job, if_none_waits, refused_call, refused_or}
use Rattle.session_model.specs.Life.{closed}
use Rattle.session_model.specs.Streams.{known, words}
use Rattle.session_laws.specs.Jobs.{jobs_got}
use Rattle.session_laws.specs.Streams.{IsLawful}
use Rattle.session_laws.proofs.ClosedJobs.{none_wait}
use Rattle.session_laws.proofs.HandedOut.{handed_out_first}

-- the tests of a TakeJob, in their order
job_tests : Option Cause → List Job → Option Refusal → Option Refusal
job_tests why waits size = option_or (if_none_waits waits (closed_refusal why)) (option_or size None)

-- the session is closed, and no job waits
IsAtEnd : Option Cause → List Job → Type 0
IsAtEnd why waits = (c : Cause) × (why ≡ Some c) × (waits ≡ [])

tests_at_end : (closed : Option Cause) (waits : List Job) (why : Refusal) → job_tests closed waits None ≡ Some why → IsAtEnd closed waits
unfolding job_tests IsAtEnd
tests_at_end closed (j ∷ waits) why is = absurd (cc)
tests_at_end (Some c) [] why is = (c, refl, refl)
tests_at_end None [] why is = absurd (cc)

refused_is : (o : Option Refusal) (first : Option Job) (why : Refusal) → refused_or o (got_job first) ≡ answer.Refused why → o ≡ Some why
refused_is (Some w) first why is = cc
refused_is None None why is = absurd (cc)
refused_is None (Some j) why is = absurd (cc)

size_none : (g : Settings) → by_size g call.TakeJob ≡ None
size_none g = grind (arith, common_steps)

refused_at_end : (g : Settings) (past : List Entry) (why : Refusal) → answer_to g past (event.Asked call.TakeJob) ≡ answer.Refused why → IsAtEnd (closed g past) (jobs_waiting g.max_streams (words g past))
unfolding facts refused_call job_tests known_after
refused_at_end g past why is =
    let waits = (known g past).jobs in
    let tests : job_tests (closed g past) waits (by_size g call.TakeJob) ≡ Some why = refused_is _ (front_of waits) why is in
    tests_at_end (closed g past) waits why (subst (λ size. job_tests (closed g past) waits size ≡ Some why) (size_none g) tests)

-- from there on all jobs were got, whatever entries follow
pub all_were_got : (g : Settings) (more before : List Entry) (why : Refusal) → IsLawful g (more ++ before) → answer_to g before (event.Asked call.TakeJob) ≡ answer.Refused why
    → jobs_got (more ++ before) ≡ jobs g.max_streams (words g (more ++ before))
unfolding IsAtEnd
all_were_got g more before why h is =
    let ended = refused_at_end g before why is in
    let none : jobs_waiting g.max_streams (words g (more ++ before)) ≡ [] = none_wait g more before ended.0 ended.1 h.legal ended.2 in
    sym (append-nil (jobs_got (more ++ before))) ∙ (ap (λ (l : List Job). jobs_got (more ++ before) ++ l) (sym none) ∙ handed_out_first g (more ++ before) h)
