-- Why a worker says what it says: the call that it made, of which job, and the answer that it had.
use Rattle.std.specs.Prelude.{◌≡◌, ◌≢◌, ◌≤◌, ◌↔◌, ◌⊎◌, ◌^◌, ℕ, Bool, true, List, [], ◌∷◌, ◌++◌, length, Option, Some}
use Rattle.std.specs.List.{AllByRecursion}
use Rattle.rs_wire.specs.declared.call.Call.{Call}
use Rattle.rs_wire.specs.declared.call.Call.TheVariants as call
use Rattle.rs_wire.specs.declared.delivery.Job.TheVariants as job
use Rattle.rs_wire.specs.declared.fault.Refusal.TheVariants as refusal
use Rattle.rs_wire.specs.declared.settings.Settings.{Settings}
use Rattle.tape.specs.Answers.{leaves}
use Rattle.tape.specs.declared.answer.Answer.{Answer}
use Rattle.tape.specs.declared.answer.Answer.TheVariants as answer
use Rattle.tape.specs.declared.entry.Entry.{Entry}
use Rattle.tape.specs.declared.event.Event.TheVariants as event
use Rattle.session_model.specs.Answers.{answer_to}
use Rattle.session_core.specs.Seen.{IsOrOutOfMemory, entries_after}
use Rattle.conn_shared.specs.Members.{Continues}
use Rattle.handlers.specs.Listed.{Listed}
use Rattle.workers.specs.declared.job.OpenJob.{OpenJob}
use Rattle.workers.specs.declared.step.Step.{Step}
use Rattle.workers.specs.declared.step.Step.TheVariants as step
use Rattle.workers.specs.declared.going.Going.{Going}
use Rattle.workers.specs.declared.going.Going.TheVariants as going
use Rattle.workers.specs.declared.worked.Worked.{Worked}
use Rattle.workers.specs.declared.worked.Worked.TheVariants as worked
use Rattle.workers.specs.declared.worked.Progress.{Progress}
use Rattle.workers.specs.declared.worked.Progress.TheVariants as progress
use Rattle.workers.specs.Courses.{GoesOn, HasSent, HasSentMost, IsWorkersCall, course}
use Rattle.workers.specs.Serving.{IsFinal, IsFinalTake, Serving, jobs_on}
use Rattle.workers.specs.Going.{HasGone, HasWorked, IsNextOf, IsSameJob, IsWholeOf, StoodIn, WholeOf, left_by}

-- ---- a call that was made

-- the answer to a call after these entries, but for a full tape and out of memory
unfoldable pub IsRight : Settings → List Entry → Call → Answer → Type 0
IsRight g before asked a = IsOrOutOfMemory a (answer_to g before (event.Asked asked))

-- Between two fronts the caller with this number made a call, which was so answered after the entries before it. Its entry stands
-- after them, where the answer leaves one.
pub record WasAnswered (g : Settings) (number : ℕ) (old new : List Entry) (asked : Call) (a : Answer) : Type 0 where
  pub before : List Entry
  pub since : Continues old before
  pub up_to : Continues (entries_after number (event.Asked asked) a before) new
  pub answered : IsRight g before asked a
  pub full : (a ≡ answer.TapeFull) ↔ (2 ^ 63 ≤ length before)

-- the next call of this job was so answered
pub record WasTried (g : Settings) (routes : List Listed) (number : ℕ) (old new : List Entry) (j : OpenJob) (asked : Call) (a : Answer) : Type 0 where
  pub next : IsNextOf routes j asked
  pub was : WasAnswered g number old new asked a

-- where it left an entry, it is the last call on the stream of the job
abbrev pub IsLast : List ℕ → List Entry → OpenJob → Call → Answer → Type 0
IsLast names new j asked a = leaves a ≡ true → (course names j.stream new).last ≡ Some (asked, a)

-- ---- why a job does not go on

-- no credit, no room in the queue, or nothing to take yet
abbrev pub IsHindrance : Answer → Type 0
IsHindrance (answer.Refused (refusal.NoCredit granted)) = Unit {0}
IsHindrance (answer.Refused (refusal.OutFull queued)) = Unit {0}
IsHindrance answer.NotYet = Unit {0}
IsHindrance _ = ⊥

-- any other refusal, or no room on the tape
abbrev pub IsForGood : Answer → Type 0
IsForGood answer.TapeFull = Unit {0}
IsForGood a = IsFinal a

-- and of a Take on the stream of a job: the session is closed, or the tape is full
abbrev pub IsTakeForGood : Answer → Type 0
IsTakeForGood answer.TapeFull = Unit {0}
IsTakeForGood a = IsFinalTake a

-- such an answer to this call stops a job
abbrev pub IsStopBy : Call → Answer → Type 0
IsStopBy (call.Take s) a = IsTakeForGood a
IsStopBy _ a = IsForGood a

-- the next call of the job was hindered
pub record IsHindered (g : Settings) (routes : List Listed) (number : ℕ) (old new : List Entry) (j : OpenJob) : Type 0 where
  pub asked : Call
  pub met : Answer
  pub hindered : IsHindrance met
  pub tried : WasTried g routes number old new j asked met

-- and nothing was called on its stream since
pub record IsWaiting (g : Settings) (routes : List Listed) (names : List ℕ) (number : ℕ) (old new : List Entry) (j : OpenJob) : Type 0 where
  pub met : IsHindered g routes number old new j
  pub last : IsLast names new j met.asked met.met

-- the next call of the job was refused for good, and nothing was called on its stream since
pub record IsStoppedBy (g : Settings) (routes : List Listed) (names : List ℕ) (number : ℕ) (old new : List Entry) (j : OpenJob) (a : Answer) : Type 0 where
  pub asked : Call
  pub tried : WasTried g routes number old new j asked a
  pub last : IsLast names new j asked a
  pub final : IsForGood a

-- why a step leaves the job like this: its reply has so many bytes, or its next call was refused
abbrev pub CauseOfStep : Settings → List Listed → List ℕ → ℕ → List Entry → List Entry → OpenJob → Step → Type 0
CauseOfStep g routes names number old new j (step.Went bytes) = HasSent names old new bytes
CauseOfStep g routes names number old new j (step.Served items) = Unit {0}
CauseOfStep g routes names number old new j step.Blocked = IsWaiting g routes names number old new j
CauseOfStep g routes names number old new j (step.Stopped a) = IsStoppedBy g routes names number old new j a
CauseOfStep g routes names number old new j step.OutOfMemory = Unit {0}

-- the same of several steps, whose replies may have so many bytes
abbrev pub CauseOf : Settings → List Listed → List ℕ → ℕ → Option ℕ → List Entry → List Entry → OpenJob → Going → Type 0
CauseOf g routes names number most old new j (going.Served items) = Unit {0}
CauseOf g routes names number most old new j going.Blocked = IsWaiting g routes names number old new j
CauseOf g routes names number most old new j going.More = HasSentMost names most old new
CauseOf g routes names number most old new j (going.Stopped a) = IsStoppedBy g routes names number old new j a
CauseOf g routes names number most old new j going.OutOfMemory = Unit {0}

-- among these jobs the one at that place went on, to that end
pub record WentAt (names : List ℕ) (routes : List Listed) (number : ℕ) (g : Settings) (most : Option ℕ) (old new : List Entry) (place : ℕ) (was now : List OpenJob) (how : Going) : Type 0 where
  pub before : List OpenJob
  pub job : OpenJob
  pub left : OpenJob
  pub after : List OpenJob
  pub were : was ≡ before ++ job ∷ after
  pub are : now ≡ before ++ left ∷ after
  pub at : length before ≡ place
  pub same : IsSameJob job left
  pub gone : HasGone names routes old new job (left_by how left)
  pub worked : HasWorked names number old new job left
  pub cause : CauseOf g routes names number most old new left how
  pub whole : WholeOf names routes old new job how

-- the job at that place was hindered, and the others stayed
pub record IsHinderedAt (g : Settings) (routes : List Listed) (names : List ℕ) (number : ℕ) (old new : List Entry) (place : ℕ) (was now : List OpenJob) : Type 0 where
  pub before : List OpenJob
  pub job : OpenJob
  pub left : OpenJob
  pub after : List OpenJob
  pub were : was ≡ before ++ job ∷ after
  pub are : now ≡ before ++ left ∷ after
  pub at : length before ≡ place
  pub same : IsSameJob job left
  pub apart : (q : ℕ) → q ≢ job.stream → course names q new ≡ course names q old
  pub waiting : IsWaiting g routes names number old new left

-- ---- whose call it was

-- the job stands in the work
abbrev pub IsIn : List OpenJob → OpenJob → Type 0
IsIn jobs j = (before : List OpenJob) × (after : List OpenJob) × (jobs ≡ before ++ j ∷ after)

-- the request of the job was got between two fronts
pub record WasGot (g : Settings) (number : ℕ) (old new : List Entry) (j : OpenJob) : Type 0 where
  pub initial : Option ℕ
  pub complete : Bool
  pub got : WasAnswered g number old new call.TakeJob (answer.GotJob (job.Asked j.stream j.kind initial j.message complete))

-- the job stood in the work before, or was got since
abbrev pub WasHad : Settings → ℕ → List Entry → List Entry → List OpenJob → OpenJob → Type 0
WasHad g number old new was j = StoodIn was j ⊎ WasGot g number old new j

-- ---- what a worker says

-- a job of stream s stands in the work, and waits
pub record WaitsOn (g : Settings) (routes : List Listed) (names : List ℕ) (number : ℕ) (old new : List Entry) (now : List OpenJob) (s : ℕ) : Type 0 where
  pub job : OpenJob
  pub stream : job.stream ≡ s
  pub stands : IsIn now job
  pub waiting : IsWaiting g routes names number old new job

-- a job of stream s stands in the work, and the replies have as many bytes as were allowed
pub record HasMore (names : List ℕ) (most : Option ℕ) (old new : List Entry) (now : List OpenJob) (s : ℕ) : Type 0 where
  pub job : OpenJob
  pub stream : job.stream ≡ s
  pub stands : IsIn now job
  pub sent : HasSentMost names most old new

-- a job was stopped by this answer: if the statement held before, it has left the work, and the answer stops its call
pub record HasStopped (g : Settings) (routes : List Listed) (names : List ℕ) (number : ℕ) (old new : List Entry) (was now : List OpenJob) (a : Answer) : Type 0 where
  pub job : OpenJob
  pub had : WasHad g number old new was job
  pub left : Serving names old routes was → jobs_on job.stream now ≡ []
  pub stopped : IsStoppedBy g routes names number old new job a
  pub exact : Serving names old routes was → IsStopBy stopped.asked a

-- the next call of each of these jobs was hindered
abbrev pub AreHindered : Settings → List Listed → ℕ → List Entry → List Entry → List OpenJob → Type 0
AreHindered g routes number old new jobs = AllByRecursion (IsHindered g routes number old new) jobs

-- and nothing was called on its stream since
abbrev pub AreWaiting : Settings → List Listed → List ℕ → ℕ → List Entry → List Entry → List OpenJob → Type 0
AreWaiting g routes names number old new jobs = AllByRecursion (IsWaiting g routes names number old new) jobs

abbrev pub IsRefusedOrFull : Answer → Type 0
IsRefusedOrFull (answer.Refused why) = Unit {0}
IsRefusedOrFull answer.TapeFull = Unit {0}
IsRefusedOrFull _ = ⊥

-- TakeJob was so answered
abbrev pub IsNoMore : Settings → ℕ → List Entry → List Entry → Answer → Type 0
IsNoMore g number old new a = WasAnswered g number old new call.TakeJob a × IsRefusedOrFull a

-- why a worker says that, with this work before and after
abbrev pub CauseOfWorked : Settings → List Listed → List ℕ → ℕ → List Entry → List Entry → List OpenJob → List OpenJob → Worked → Type 0
CauseOfWorked g routes names number old new was now (worked.Served stream items) = Unit {0}
CauseOfWorked g routes names number old new was now (worked.Waiting s) = WaitsOn g routes names number old new now s
CauseOfWorked g routes names number old new was now (worked.Stopped a) = HasStopped g routes names number old new was now a
CauseOfWorked g routes names number old new was now (worked.NoMore a) = GoesOn IsWorkersCall names number old new 0 × IsNoMore g number old new a
CauseOfWorked g routes names number old new was now worked.Idle =
    GoesOn IsWorkersCall names number old new 0 × WasAnswered g number old new call.TakeJob answer.NotYet × AreHindered g routes number old new now
CauseOfWorked g routes names number old new was now worked.OutOfMemory = Unit {0}

abbrev pub CauseOfProgress : Settings → List Listed → List ℕ → ℕ → Option ℕ → List Entry → List Entry → List OpenJob → List OpenJob → Progress → Type 0
CauseOfProgress g routes names number most old new was now (progress.More s) = HasMore names most old new now s
CauseOfProgress g routes names number most old new was now (progress.Worked w) = CauseOfWorked g routes names number old new was now w

-- where a worker is idle, each job in its work waits, if the statement held before
abbrev pub WaitingOfWorked : Settings → List Listed → List ℕ → ℕ → List Entry → List Entry → List OpenJob → List OpenJob → Worked → Type 0
WaitingOfWorked g routes names number old new was now worked.Idle = Serving names old routes was → AreWaiting g routes names number old new now
WaitingOfWorked g routes names number old new was now _ = Unit {0}

abbrev pub WaitingOfProgress : Settings → List Listed → List ℕ → ℕ → List Entry → List Entry → List OpenJob → List OpenJob → Progress → Type 0
WaitingOfProgress g routes names number old new was now (progress.More s) = Unit {0}
WaitingOfProgress g routes names number old new was now (progress.Worked w) = WaitingOfWorked g routes names number old new was now w

-- the job of stream s has left the work, and is whole, with so many items
abbrev pub IsOver : List ℕ → List Listed → List Entry → List OpenJob → ℕ → ℕ → Type 0
IsOver names routes past work items s = (jobs_on s work ≡ []) × IsWholeOf routes s items (course names s past)

-- metadata for the whole connection was taken
abbrev pub IsPushed : Settings → ℕ → List Entry → List Entry → Type 0
IsPushed g number old new = (metadata : List ℕ) × WasAnswered g number old new call.TakeJob (answer.GotJob (job.Pushed metadata))

-- a job of stream s stood in the work before or was got since, and is over, if the statement held before
pub record HasServed (g : Settings) (routes : List Listed) (names : List ℕ) (number : ℕ) (old new : List Entry) (was now : List OpenJob) (s items : ℕ) : Type 0 where
  pub job : OpenJob
  pub stream : job.stream ≡ s
  pub had : WasHad g number old new was job
  pub over : Serving names old routes was → IsOver names routes new now items s

-- Where a worker says that the job of a stream is served, it has left the work and is whole, with as many items as it says. Of pushed
-- metadata it says so with stream 0.
abbrev pub WholeOfWorked : Settings → List Listed → List ℕ → ℕ → List Entry → List Entry → List OpenJob → List OpenJob → Worked → Type 0
WholeOfWorked g routes names number old new was now (worked.Served s items) =
    HasServed g routes names number old new was now s items ⊎ ((s ≡ 0) × (items ≡ 0) × IsPushed g number old new)
WholeOfWorked g routes names number old new was now _ = Unit {0}

abbrev pub WholeOfProgress : Settings → List Listed → List ℕ → ℕ → List Entry → List Entry → List OpenJob → List OpenJob → Progress → Type 0
WholeOfProgress g routes names number old new was now (progress.More s) = Unit {0}
WholeOfProgress g routes names number old new was now (progress.Worked w) = WholeOfWorked g routes names number old new was now w

abbrev pub IsNotMore : Progress → Type 0
IsNotMore (progress.More s) = ⊥
IsNotMore (progress.Worked w) = Unit {0}

-- what is said of a job's end, with its cause
abbrev pub IsOfJobs : Settings → List Listed → List ℕ → ℕ → Option ℕ → List Entry → List Entry → List OpenJob → List OpenJob → Progress → Type 0
IsOfJobs g routes names number most old new was now (progress.More s) = HasMore names most old new now s
IsOfJobs g routes names number most old new was now (progress.Worked (worked.Served s items)) = Unit {0}
IsOfJobs g routes names number most old new was now (progress.Worked (worked.Waiting s)) = WaitsOn g routes names number old new now s
IsOfJobs g routes names number most old new was now (progress.Worked (worked.Stopped a)) = HasStopped g routes names number old new was now a
IsOfJobs g routes names number most old new was now (progress.Worked worked.OutOfMemory) = Unit {0}
IsOfJobs g routes names number most old new was now (progress.Worked _) = ⊥

-- the same, where a job was to be taken first
abbrev pub CauseOfTaking : Settings → List Listed → List ℕ → ℕ → Option ℕ → List Entry → List Entry → List OpenJob → List OpenJob → Progress → Type 0
CauseOfTaking g routes names number most old new was now (progress.Worked (worked.NoMore a)) = GoesOn IsWorkersCall names number old new 0 × IsNoMore g number old new a
CauseOfTaking g routes names number most old new was now (progress.Worked worked.Idle) =
    GoesOn IsWorkersCall names number old new 0 × WasAnswered g number old new call.TakeJob answer.NotYet
CauseOfTaking g routes names number most old new was now p = IsOfJobs g routes names number most old new was now p
