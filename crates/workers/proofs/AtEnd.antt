-- Why a Take on the stream of a job is refused.
use Rattle.std.proofs.Common.{◌≡◌, ◌∙◌, ◌==◌, ◌⊎◌, inl, inr, ℕ, Bool, true, false, if◌then◌else◌, List, [], ◌∷◌, ◌++◌, refl, sym, subst, arith}
use Rattle.std.specs.Prelude.{None, Some}
use Rattle.std.specs.List.{Contains}
use Rattle.std.proofs.lemmas.List.Elements.{Contains-append_left, Contains-append_right}
use Rattle.rs_wire.specs.declared.call.Call.{Call}
use Rattle.rs_wire.specs.declared.call.Call.TheVariants as call
use Rattle.rs_wire.specs.declared.delivery.Job.{Job}
use Rattle.rs_wire.specs.declared.delivery.Job.TheVariants as job
use Rattle.rs_wire.specs.declared.fault.Cause.{Cause}
use Rattle.rs_wire.specs.declared.fault.Refusal.{Refusal}
use Rattle.rs_wire.specs.declared.fault.Refusal.TheVariants as refusal
use Rattle.rs_wire.specs.declared.settings.Settings.{Settings}
use Rattle.rs_wire.specs.declared.words.Kind.{Kind}
use Rattle.tape.specs.Answers.{leaves}
use Rattle.tape.specs.Told.{entry_of}
use Rattle.tape.specs.declared.answer.Answer.{Answer}
use Rattle.tape.specs.declared.answer.Answer.TheVariants as answer
use Rattle.tape.specs.declared.entry.Entry.{Entry}
use Rattle.tape.specs.declared.event.Event.{Event}
use Rattle.tape.specs.declared.event.Event.TheVariants as event
use Rattle.stream_model.specs.Turns.{is_fnf}
use Rattle.session_model.specs.Answers.{answer_to}
use Rattle.session_core.specs.Seen.{entries_after}
use Rattle.session_laws.specs.Jobs.{got_in, jobs_got}
use Rattle.session_laws.specs.Streams.{IsLawful}
use Rattle.session_laws.proofs.Lawful.{before_lawful}
use Rattle.session_laws.proofs.TakesOfJobs.{take_refused_at_end}
use Rattle.handlers.specs.Listed.{Listed}
use Rattle.workers.specs.declared.job.OpenJob.{OpenJob}
use Rattle.workers.specs.Causes.{IsRight, WasAnswered}
use Rattle.workers.specs.Courses.{Course, after_call, after_event, after_reply, after_take, course, is_named, made_before}
use Rattle.workers.specs.Serving.{IsFinalTake, Stands}
use Rattle.workers.specs.Going.{Awaits}
use Rattle.workers.proofs.Calling.{right_or}

-- the stream or the session is at its end
abbrev pub AtEnd : Refusal → Type 0
AtEnd why = (why ≡ refusal.Ended) ⊎ ((cause : Cause) × (why ≡ refusal.Closed cause))

pub final_of : (why : Refusal) → AtEnd why → (why ≡ refusal.Ended → ⊥) → IsFinalTake (answer.Refused why)
final_of why (inl e) other = absurd (other e)
final_of why (inr e) other = subst (λ w. IsFinalTake (answer.Refused w)) (sym e.1) tt

-- ---- the job of a course was got

job_in_call : (s : ℕ) (asked : Call) (a : Answer) (c : Course) (j : Job) → (after_call s asked a c).job ≡ Some j → (c.job ≡ Some j) ⊎ (a ≡ answer.GotJob j)
job_in_call s (call.Next q message complete) a c j = by (q == s)
  where
    by : (b : Bool) → (if b then after_reply (call.Next q message complete) a c else c).job ≡ Some j → (c.job ≡ Some j) ⊎ (a ≡ answer.GotJob j)
    by true is = inl is
    by false is = inl is
job_in_call s (call.Done q) a c j = by (q == s)
  where
    by : (b : Bool) → (if b then after_reply (call.Done q) a c else c).job ≡ Some j → (c.job ≡ Some j) ⊎ (a ≡ answer.GotJob j)
    by true is = inl is
    by false is = inl is
job_in_call s (call.Fail q code content) a c j = by (q == s)
  where
    by : (b : Bool) → (if b then after_reply (call.Fail q code content) a c else c).job ≡ Some j → (c.job ≡ Some j) ⊎ (a ≡ answer.GotJob j)
    by true is = inl is
    by false is = inl is
job_in_call s (call.Take q) a c j = by (q == s)
  where
    by : (b : Bool) → (if b then after_take q a c else c).job ≡ Some j → (c.job ≡ Some j) ⊎ (a ≡ answer.GotJob j)
    by true is = inl is
    by false is = inl is
job_in_call s call.TakeJob (answer.GotJob (job.Asked q kind initial message complete)) c j = by (q == s)
  where
    by : (b : Bool) → (if b then record { job = Some (job.Asked q kind initial message complete); made = made_before c; got = []; over = false; last = None; tried = c.tried } else c).job ≡ Some j → (c.job ≡ Some j) ⊎ (answer.GotJob (job.Asked q kind initial message complete) ≡ answer.GotJob j)
    by true is = inr (cc)
    by false is = inl is
job_in_call s call.TakeJob (answer.GotJob (job.Pushed metadata)) c j = λ is. inl is
job_in_call s call.TakeJob _ c j = λ is. inl is
job_in_call s _ a c j = λ is. inl is

job_in_event : (s : ℕ) (e : Event) (a : Answer) (c : Course) (j : Job) → (after_event s e a c).job ≡ Some j → (c.job ≡ Some j) ⊎ (a ≡ answer.GotJob j)
job_in_event s (event.Asked asked) a c j = job_in_call s asked a c j
job_in_event s _ a c j = λ is. inl is

got_one : (a : Answer) (j : Job) → a ≡ answer.GotJob j → Contains (got_in a) j
got_one a j is = subst (λ b. Contains (got_in b) j) (sym is) one
  where
    one : Contains (got_in (answer.GotJob j)) j
    one = (0, omega arith, refl)

-- the job that was got last under these names on a stream is among those that callers got
pub job_got : (names : List ℕ) (s : ℕ) (past : List Entry) (j : Job) → (course names s past).job ≡ Some j → Contains (jobs_got past) j
unfolding course jobs_got
job_got names s [] j is = absurd (cc)
job_got names s (x ∷ past) j is = by (job_got names s past j) (is_named names x.who) is
  where
    by : ((course names s past).job ≡ Some j → Contains (jobs_got past) j) → (b : Bool) → (if b then after_event s x.event x.answer (course names s past) else course names s past).job ≡ Some j → Contains (jobs_got past ++ got_in x.answer) j
    by rest true there = elim (job_in_event s x.event x.answer (course names s past) j there) [
      | inl before ↦ Contains-append_left (jobs_got past) (got_in x.answer) j (rest before)
      | inr now ↦ Contains-append_right (jobs_got past) (got_in x.answer) j (got_one x.answer j now)
    ]
    by rest false there = Contains-append_left (jobs_got past) (got_in x.answer) j (rest there)

got_more : (more past : List Entry) (j : Job) → Contains (jobs_got past) j → Contains (jobs_got (more ++ past)) j
unfolding jobs_got
got_more [] past j h = h
got_more (x ∷ more) past j h = Contains-append_left (jobs_got (more ++ past)) (got_in x.answer) j (got_more more past j h)

-- ---- the refusal

answer_is : (g : Settings) (before : List Entry) (e : Call) (a : Answer) (why : Refusal) → IsRight g before e a → a ≡ answer.Refused why → answer_to g before (event.Asked e) ≡ answer.Refused why
unfolding IsRight
answer_is g before e a why right is = elim (right_or a (answer_to g before (event.Asked e)) right) [
  | inl same ↦ sym same ∙ is
  | inr (inl full) ↦ absurd (cc)
  | inr (inr none) ↦ absurd (cc)
]

lawful_before : (g : Settings) (number : ℕ) (e : Event) (a : Answer) (before : List Entry) → IsLawful g (entries_after number e a before) → IsLawful g before
lawful_before g number e a before = by (leaves a)
  where
    by : (b : Bool) → IsLawful g (if b then entry_of number e a ∷ before else before) → IsLawful g before
    by true h = before_lawful g (entry_of number e a ∷ []) before h
    by false h = h

-- a job that stands is a channel, and its Take was refused
pub take_ends : (g : Settings) (routes : List Listed) (names : List ℕ) (number : ℕ) (old new : List Entry) (j : OpenJob) (a : Answer) → IsLawful g new → WasAnswered g number old new (call.Take j.stream) a
    → Awaits routes j → Stands routes (course names j.stream old) j → (why : Refusal) → a ≡ answer.Refused why → AtEnd why
take_ends g routes names number old new j a lawful was w st why is =
    let up : IsLawful g (entries_after number (event.Asked (call.Take j.stream)) a was.before) = before_lawful g was.up_to.0 _ (subst (IsLawful g) was.up_to.1 lawful) in
    let got : Contains (jobs_got was.before) (job.Asked j.stream j.kind st.initial j.message st.complete) =
    subst (λ es. Contains (jobs_got es) (job.Asked j.stream j.kind st.initial j.message st.complete)) (sym was.since.1)
    (got_more was.since.0 old _ (job_got names j.stream old _ st.got)) in
    take_refused_at_end g was.before j.stream j.kind st.initial j.message st.complete why (lawful_before g number _ a was.before up) (subst (λ (k : Kind). is_fnf k ≡ false) (sym w.channel) refl) got
    (answer_is g was.before (call.Take j.stream) a why was.answered is)
