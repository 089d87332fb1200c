-- What the calls of a worker do to its job.
use Rattle.std.specs.Prelude.{◌≡◌, ◌≢◌, ◌≤◌, ◌⊎◌, ◌+◌, ℕ, Bool, true, false, if◌then◌else◌, List, [], ◌∷◌, ◌++◌, length, Option, Some, None}
use Rattle.rs_wire.specs.declared.words.Kind.{Kind}
use Rattle.rs_wire.specs.declared.words.Kind.TheVariants as kind
use Rattle.rs_wire.specs.declared.message.Message.{Message}
use Rattle.rs_wire.specs.declared.call.Call.{Call}
use Rattle.rs_wire.specs.declared.call.Call.TheVariants as call
use Rattle.rs_wire.specs.declared.delivery.Delivery.TheVariants as delivery
use Rattle.rs_wire.specs.declared.delivery.Job.TheVariants as job
use Rattle.rs_wire.specs.declared.fault.Refusal.{Refusal}
use Rattle.rs_wire.specs.declared.fault.Refusal.TheVariants as refusal
use Rattle.tape.specs.Answers.{leaves}
use Rattle.tape.specs.declared.answer.Answer.{Answer}
use Rattle.tape.specs.declared.answer.Answer.TheVariants as answer
use Rattle.tape.specs.declared.entry.Entry.{Entry}
use Rattle.conn_shared.specs.Members.{Knowledge}
use Rattle.handlers.specs.Listed.{Listed}
use Rattle.handlers.specs.Values.{value}
use Rattle.handlers.specs.declared.law.Law.{Law}
use Rattle.workers.specs.declared.job.OpenJob.{OpenJob}
use Rattle.workers.specs.declared.job.Stage.{Stage}
use Rattle.workers.specs.declared.job.Stage.TheVariants as stage
use Rattle.workers.specs.declared.plan.Plan.{Plan}
use Rattle.workers.specs.declared.plan.Plan.TheVariants as plan
use Rattle.workers.specs.declared.outcome.Outcome.{Outcome}
use Rattle.workers.specs.declared.outcome.Outcome.TheVariants as outcome
use Rattle.workers.specs.declared.outcome.Found.{Found}
use Rattle.workers.specs.declared.outcome.Found.TheVariants as found
use Rattle.workers.specs.declared.outcome.Taken.{Taken}
use Rattle.workers.specs.declared.outcome.Taken.TheVariants as taken
use Rattle.workers.specs.declared.step.Step.{Step}
use Rattle.workers.specs.declared.step.Step.TheVariants as step
use Rattle.workers.specs.declared.going.Going.{Going}
use Rattle.workers.specs.declared.going.Going.TheVariants as going
use Rattle.workers.specs.declared.worked.Worked.TheVariants as worked
use Rattle.workers.specs.declared.worked.Progress.{Progress}
use Rattle.workers.specs.declared.worked.Progress.TheVariants as progress
use Rattle.workers.specs.Replies.{item_of, items_of, law_of, no_route, plain, response}
use Rattle.workers.specs.Courses.{Course, GoesOn, HasReplied, IsOfJob, WorksOn, after_call, bytes_of, bytes_of_all, course}
use Rattle.workers.specs.Serving.{AreRouted, IsFinalTake, IsRouted, IsServed, IsWholeJob, Serving, Stands, jobs_on}

-- ---- what a job says next

abbrev pub say_end : ℕ → Plan
say_end s = plan.Say (call.Done s) true

abbrev pub plan_item : ℕ → Option (List ℕ) → Plan → Plan
plan_item s (Some item) other = plan.Say (call.Next s (plain item) false) false
plan_item s None other = other

abbrev pub plan_content : Law → ℕ → List ℕ → Stage → Plan
plan_content l s content stage.Request = plan_item s (value l content 0) plan.Skip
plan_content l s content (stage.Taken item) = plan_item s (value l item 0) plan.Skip
plan_content l s content stage.Answered = plan.Skip
plan_content l s content stage.Over = say_end s

abbrev pub plan_by : Option Law → Kind → ℕ → List ℕ → ℕ → Stage → Plan
plan_by (Some l) kind.Response s content made at = plan.Say (response s (value l content 0)) true
plan_by (Some l) kind.Fnf s content made at = plan.Nothing
plan_by (Some l) kind.Stream s content made at = plan_item s (value l content made) (say_end s)
plan_by (Some l) kind.Channel s content made at = plan_content l s content at
plan_by None kind.Fnf s content made at = plan.Nothing
plan_by None _ s content made at = plan.Say (no_route s) true

-- what a job says next, by the law of its route, where there is one
abbrev pub plan_of : Option Law → OpenJob → Plan
plan_of l j = plan_by l j.kind j.stream j.message.content j.made j.stage

-- a channel of this law, all of whose contents so far are answered
pub record Awaits (routes : List Listed) (j : OpenJob) : Type 0 where
  pub law : Law
  pub found : law_of routes j.kind j.message ≡ Some law
  pub channel : j.kind ≡ kind.Channel
  pub answered : j.stage ≡ stage.Answered

-- a job's next call: the one that its plan says, or of a channel that is answered so far the Take of its stream
abbrev pub IsNextOf : List Listed → OpenJob → Call → Type 0
IsNextOf routes j asked =
    ((last : Bool) × (plan_of (law_of routes j.kind j.message) j ≡ plan.Say asked last)) ⊎ (Awaits routes j × (asked ≡ call.Take j.stream))

-- a plan is this one, but for out of memory
abbrev pub IsPlan : Plan → Plan → Type 0
IsPlan right plan.OutOfMemory = Unit {0}
IsPlan right p = p ≡ right

-- ---- what a call leaves

-- how the job of stream s went after a call so answered, which left an entry or none
abbrev pub told : ℕ → Call → Answer → Course → Course
told s asked a c = if leaves a then after_call s asked a c else c

-- the answers that a Take, a TakeJob and a reply can have
abbrev pub IsOfTake : Answer → Type 0
IsOfTake (answer.Got delivery) = Unit {0}
IsOfTake answer.NotYet = Unit {0}
IsOfTake (answer.Refused why) = Unit {0}
IsOfTake answer.TapeFull = Unit {0}
IsOfTake answer.OutOfMemory = Unit {0}
IsOfTake _ = ⊥

abbrev pub IsOfTakeJob : Answer → Type 0
IsOfTakeJob (answer.GotJob job) = Unit {0}
IsOfTakeJob answer.NotYet = Unit {0}
IsOfTakeJob (answer.Refused why) = Unit {0}
IsOfTakeJob answer.TapeFull = Unit {0}
IsOfTakeJob answer.OutOfMemory = Unit {0}
IsOfTakeJob _ = ⊥

abbrev pub IsOfReply : Answer → Type 0
IsOfReply answer.Done = Unit {0}
IsOfReply (answer.Refused why) = Unit {0}
IsOfReply answer.TapeFull = Unit {0}
IsOfReply answer.OutOfMemory = Unit {0}
IsOfReply _ = ⊥

abbrev pub MayAnswer : Call → Answer → Type 0
MayAnswer (call.Take s) a = IsOfTake a
MayAnswer call.TakeJob a = IsOfTakeJob a
MayAnswer _ a = IsOfReply a

-- what the answer to a reply says of the job
abbrev pub outcome_of : Answer → Outcome
outcome_of answer.Done = outcome.Accepted
outcome_of (answer.Refused (refusal.NoCredit granted)) = outcome.Blocked
outcome_of (answer.Refused (refusal.OutFull queued)) = outcome.Blocked
outcome_of answer.NotYet = outcome.Blocked
outcome_of answer.OutOfMemory = outcome.OutOfMemory
outcome_of _ = outcome.Final

-- what a Take gave
abbrev pub taken_of : Answer → Taken
taken_of (answer.Got (delivery.Item message)) = taken.Item message.content
taken_of (answer.Got _) = taken.End
taken_of (answer.Refused refusal.Ended) = taken.End
taken_of (answer.Refused (refusal.NoCredit granted)) = taken.Blocked
taken_of (answer.Refused (refusal.OutFull queued)) = taken.Blocked
taken_of answer.NotYet = taken.Blocked
taken_of answer.OutOfMemory = taken.OutOfMemory
taken_of a = taken.Final a

-- what a TakeJob gave
abbrev pub found_of : Answer → Found
found_of (answer.GotJob (job.Asked s k initial message complete)) = found.Asked s k message
found_of (answer.GotJob (job.Pushed metadata)) = found.Pushed
found_of answer.NotYet = found.NotYet
found_of answer.OutOfMemory = found.OutOfMemory
found_of a = found.NoMore a

-- ---- how a job goes on

-- what is left after a reply with this outcome
abbrev pub left_after : Outcome → Bool → OpenJob → ℕ → List OpenJob
left_after outcome.Accepted true j made = []
left_after outcome.Accepted false j made = record j { made = made; stage = stage.Answered } ∷ []
left_after outcome.Final last j made = []
left_after _ last j made = j ∷ []

-- what is left after a Take that gave this
abbrev pub left_with : Taken → OpenJob → List OpenJob
left_with (taken.Item content) j = record j { stage = stage.Taken content } ∷ []
left_with taken.End j = record j { stage = stage.Over } ∷ []
left_with (taken.Final a) j = []
left_with _ j = j ∷ []

-- what a step leaves of the job
abbrev pub left_by_step : Step → OpenJob → List OpenJob
left_by_step (step.Served items) j = []
left_by_step (step.Stopped a) j = []
left_by_step s j = j ∷ []

abbrev pub left_by : Going → OpenJob → List OpenJob
left_by (going.Served items) j = []
left_by (going.Stopped a) j = []
left_by s j = j ∷ []

-- only how far it is differs
abbrev pub IsSameJob : OpenJob → OpenJob → Type 0
IsSameJob was now = now ≡ record was { made = now.made; stage = now.stage }

-- a job of this request stood in the work
abbrev pub StoodIn : List OpenJob → OpenJob → Type 0
StoodIn [] j = ⊥
StoodIn (i ∷ jobs) j = IsSameJob i j ⊎ StoodIn jobs j

-- between two fronts a job went on by calls under these names: if it stood, it stands now, or is done; and no other stream's job did
pub record HasGone (names : List ℕ) (routes : List Listed) (old new : List Entry) (was : OpenJob) (left : List OpenJob) : Type 0 where
  pub kept : Stands routes (course names was.stream old) was → IsServed routes (length new) was.stream (course names was.stream new) left
  pub apart : (q : ℕ) → q ≢ was.stream → course names q new ≡ course names q old
  pub longer : length old ≤ length new

-- the caller's calls since were those of the job, which has as many replies more as were accepted
pub record HasWorked (names : List ℕ) (number : ℕ) (old new : List Entry) (was now : OpenJob) : Type 0 where
  pub replies : ℕ
  pub goes : GoesOn (IsOfJob was.stream) names number old new replies
  pub made : now.made ≡ was.made + replies

-- the job that was got last on stream s is whole, and its replies brought so many items
abbrev pub IsWholeOf : List Listed → ℕ → ℕ → Course → Type 0
IsWholeOf routes s items c = IsWholeJob routes s c c.job × (items ≡ items_of c.made)

-- if the job stood, it is whole, with so many items
abbrev pub IsEnded : List ℕ → List Listed → List Entry → List Entry → OpenJob → ℕ → Type 0
IsEnded names routes old new was items = Stands routes (course names was.stream old) was → IsWholeOf routes was.stream items (course names was.stream new)

-- where the last call on stream s was a Take that was refused so, the session is closed
abbrev pub ClosesTake : ℕ → Course → Answer → Type 0
ClosesTake s c a = c.last ≡ Some (call.Take s, a) → (why : Refusal) → a ≡ answer.Refused why → IsFinalTake a

-- if the job stood, that is so on its stream
abbrev pub IsClosedOff : List ℕ → List Listed → List Entry → List Entry → OpenJob → Answer → Type 0
IsClosedOff names routes old new was a = Stands routes (course names was.stream old) was → ClosesTake was.stream (course names was.stream new) a

-- a job that is served is whole, and a Take stops one only where the session is closed
abbrev pub WholeOfStep : List ℕ → List Listed → List Entry → List Entry → OpenJob → Step → Type 0
WholeOfStep names routes old new was (step.Served items) = IsEnded names routes old new was items
WholeOfStep names routes old new was (step.Stopped a) = IsClosedOff names routes old new was a
WholeOfStep names routes old new was _ = Unit {0}

abbrev pub WholeOf : List ℕ → List Listed → List Entry → List Entry → OpenJob → Going → Type 0
WholeOf names routes old new was (going.Served items) = IsEnded names routes old new was items
WholeOf names routes old new was (going.Stopped a) = IsClosedOff names routes old new was a
WholeOf names routes old new was _ = Unit {0}

-- a step by this reply, which was accepted after so many items: the last one serves the job, and after another one it goes on
abbrev pub IsAccepted : Call → ℕ → Bool → Step → Type 0
IsAccepted asked before last (step.Served items) = (last ≡ true) × (items ≡ before + item_of asked)
IsAccepted asked before last (step.Went bytes) = bytes ≡ bytes_of asked
IsAccepted asked before last _ = ⊥

-- where a job goes on after a step, the step tells these bytes
abbrev pub Tells : Step → ℕ → Type 0
Tells (step.Went bytes) sum = bytes ≡ sum
Tells _ sum = Unit {0}

-- a step had one reply at most
pub record HasRepliedOnce (names : List ℕ) (old new : List Entry) (how : Step) : Type 0 where
  pub replies : List Call
  pub made : HasReplied names old new replies
  pub one : length replies ≤ 1
  pub bytes : Tells how (bytes_of_all replies)

-- the job at that place stays or leaves
abbrev pub IsSettled : ℕ → Going → List OpenJob → List OpenJob → Type 0
IsSettled place how was now = (before after : List OpenJob) (j : OpenJob) → was ≡ before ++ j ∷ after → length before ≡ place → now ≡ before ++ (left_by how j ++ after)

-- the statement is kept
abbrev pub Keeps : List ℕ → List Listed → List Entry → List Entry → List OpenJob → List OpenJob → Type 0
Keeps names routes old new was now = Serving names old routes was → Serving names new routes now

-- What each call of a worker keeps: its caller's front and note alone change, the entries added are a worker's calls, each job has its route,
-- and the statement goes on.
pub record IsAtWork (routes : List Listed) (old new : Knowledge) (was now : List OpenJob) : Type 0 where
  pub same : new ≡ record old { front = new.front; note = new.note }
  pub works : WorksOn old.names old.number old.front new.front
  pub routed : AreRouted routes now
  pub kept : Keeps old.names routes old.front new.front was now

-- no job of stream s is left, where there was one at most, and the others stay
pub record IsForgotten (s : ℕ) (was now : List OpenJob) : Type 0 where
  pub here : length (jobs_on s was) ≤ 1 → jobs_on s now ≡ []
  pub apart : (q : ℕ) → q ≢ s → jobs_on q now ≡ jobs_on q was
  pub routed : (routes : List Listed) → AreRouted routes was → AreRouted routes now
  pub stood : (j : OpenJob) → StoodIn now j → StoodIn was j

-- a job of that request stands in the work, in place of one of the same stream
pub record IsPut (routes : List Listed) (s : ℕ) (k : Kind) (asked : Message) (was now : List OpenJob) : Type 0 where
  pub rest : List OpenJob
  pub job : OpenJob
  pub forgotten : IsForgotten s was rest
  pub are : now ≡ rest ++ job ∷ []
  pub stream : job.stream ≡ s
  pub kind : job.kind ≡ k
  pub message : job.message ≡ asked
  pub routed : IsRouted routes job
  pub made : job.made ≡ 0
  pub stage : job.stage ≡ stage.Request

-- what is said of the job of stream s that went on so
abbrev pub progress_of : ℕ → Going → Progress
progress_of s (going.Served items) = progress.Worked (worked.Served s items)
progress_of s going.Blocked = progress.Worked (worked.Waiting s)
progress_of s going.More = progress.More s
progress_of s (going.Stopped a) = progress.Worked (worked.Stopped a)
progress_of s going.OutOfMemory = progress.Worked worked.OutOfMemory
