-- What a worker keeps: each job that it got stands in its work, or is done.
use Rattle.std.specs.Prelude.{◌≡◌, ◌≤◌, ◌⊎◌, ◌^◌, ℕ, ◌==◌, Bool, true, false, if◌then◌else◌, List, [], ◌∷◌, ◌++◌, length, Option, Some, None}
use Rattle.rs_wire.specs.declared.words.Kind.{Kind}
use Rattle.rs_wire.specs.declared.words.Kind.TheVariants as kind
use Rattle.rs_wire.specs.declared.message.Message.{Message}
use Rattle.rs_wire.specs.declared.call.Call.{Call}
use Rattle.rs_wire.specs.declared.call.Call.TheVariants as call
use Rattle.rs_wire.specs.declared.delivery.Job.{Job}
use Rattle.rs_wire.specs.declared.delivery.Job.TheVariants as job
use Rattle.rs_wire.specs.declared.fault.Refusal.TheVariants as refusal
use Rattle.tape.specs.declared.answer.Answer.{Answer}
use Rattle.tape.specs.declared.answer.Answer.TheVariants as answer
use Rattle.tape.specs.declared.entry.Entry.{Entry}
use Rattle.handlers.specs.Listed.{Listed, place}
use Rattle.handlers.specs.declared.law.Law.{Law}
use Rattle.workers.specs.declared.job.OpenJob.{OpenJob}
use Rattle.workers.specs.declared.job.Stage.{Stage}
use Rattle.workers.specs.declared.job.Stage.TheVariants as stage
use Rattle.workers.specs.Courses.{Course, course}
use Rattle.workers.specs.Replies.{AreReplies, answers, item_count, law_of, name_of, reply}

-- ---- how far a job is

-- a channel: which content is to be answered, after as many items as replies were made
abbrev pub IsAtContent : Law → List ℕ → List (List ℕ) → Bool → ℕ → Stage → Type 0
IsAtContent l content got over made stage.Request = (got ≡ []) × (over ≡ false) × (made ≡ 0)
IsAtContent l content got over made (stage.Taken item) =
    (earlier : List (List ℕ)) × (got ≡ earlier ++ item ∷ []) × (over ≡ false) × (made ≡ length (answers l (content ∷ earlier)))
IsAtContent l content got over made stage.Answered = (over ≡ false) × (made ≡ length (answers l (content ∷ got)))
IsAtContent l content got over made stage.Over = (over ≡ true) × (made ≡ length (answers l (content ∷ got)))

-- a job that is not finished: its replies but the last were made at most
abbrev pub IsAt : Option Law → Kind → List ℕ → List (List ℕ) → Bool → ℕ → Stage → Type 0
IsAt (Some l) kind.Stream content got over made at = made ≤ item_count l content
IsAt (Some l) kind.Channel content got over made at = IsAtContent l content got over made at
IsAt l k content got over made at = made ≡ 0

-- the replies of a job of this kind and request on stream s, as it went
abbrev pub replies_of : List Listed → ℕ → Kind → Message → Course → ℕ → Option Call
replies_of routes s k message c = reply (law_of routes k message) k s message.content c.got c.over

-- a job stands in the work as it went
pub record Stands (routes : List Listed) (c : Course) (j : OpenJob) : Type 0 where
  -- the request is that of the last job got on its stream
  pub initial : Option ℕ
  pub complete : Bool
  pub got : c.job ≡ Some (job.Asked j.stream j.kind initial j.message complete)
  -- the replies accepted are the first ones, in order, and as many as the work says
  pub made : j.made ≡ length c.made
  pub replies : AreReplies (replies_of routes j.stream j.kind j.message c) c.made
  pub at : IsAt (law_of routes j.kind j.message) j.kind j.message.content c.got c.over j.made j.stage

-- ---- jobs that are not in the work

-- a refusal for good of a reply: no credit and no room in the queue are not
abbrev pub IsFinal : Answer → Type 0
IsFinal (answer.Refused (refusal.NoCredit granted)) = ⊥
IsFinal (answer.Refused (refusal.OutFull queued)) = ⊥
IsFinal (answer.Refused _) = Unit {0}
IsFinal _ = ⊥

-- and of a Take on the stream of a job: the session is closed. That nothing more comes is none, and no other refusal comes there.
abbrev pub IsFinalTake : Answer → Type 0
IsFinalTake (answer.Refused (refusal.Closed cause)) = Unit {0}
IsFinalTake _ = ⊥

-- a call on stream s after these replies is the next one, refused for good, or on a channel a Take so refused
abbrev pub IsStop : (ℕ → Option Call) → ℕ → Kind → ℕ → Call → Answer → Type 0
IsStop at s k made asked a = ((at made ≡ Some asked) × IsFinal a) ⊎ ((k ≡ kind.Channel) × (asked ≡ call.Take s) × IsFinalTake a)

-- the last call was one
pub record IsStopped (at : ℕ → Option Call) (s : ℕ) (k : Kind) (c : Course) : Type 0 where
  pub asked : Call
  pub refused : Answer
  pub last : c.last ≡ Some (asked, refused)
  pub stop : IsStop at s k (length c.made) asked refused

-- no reply is left, were the request way over or not
abbrev pub IsWhole : Option Law → Kind → ℕ → Message → Course → Type 0
IsWhole l k s message c = reply l k s message.content c.got true (length c.made) ≡ None

-- the job that was got last on stream s is whole
abbrev pub IsWholeJob : List Listed → ℕ → Course → Option Job → Type 0
IsWholeJob routes s c None = ⊥
IsWholeJob routes s c (Some (job.Asked q k initial message complete)) = IsWhole (law_of routes k message) k s message c
IsWholeJob routes s c (Some (job.Pushed metadata)) = ⊥

-- no more entries can be left
abbrev pub IsFull : ℕ → Type 0
IsFull entries = 2 ^ 63 ≤ entries

-- a job is done: what was accepted are the first of its replies, in order, and all of them, or the next one was refused for good
pub record IsDone (routes : List Listed) (entries s : ℕ) (k : Kind) (message : Message) (c : Course) : Type 0 where
  pub replies : AreReplies (replies_of routes s k message c) c.made
  pub why : IsWhole (law_of routes k message) k s message c ⊎ IsStopped (replies_of routes s k message c) s k c ⊎ IsFull entries

-- a stream without a job in the work: its job is done, or none was got, and then no reply was tried on it
abbrev pub IsGone : List Listed → ℕ → ℕ → Course → Option Job → Type 0
IsGone routes entries s c None = c.tried ≡ false
IsGone routes entries s c (Some (job.Asked q k initial message complete)) = IsDone routes entries s k message c
IsGone routes entries s c (Some (job.Pushed metadata)) = ⊥

-- a stream with these jobs in the work
abbrev pub IsServed : List Listed → ℕ → ℕ → Course → List OpenJob → Type 0
IsServed routes entries s c [] = IsGone routes entries s c c.job
IsServed routes entries s c (j ∷ []) = Stands routes c j
IsServed routes entries s c (j ∷ i ∷ more) = ⊥

-- the jobs of stream s in the work
abbrev pub jobs_on : ℕ → List OpenJob → List OpenJob
jobs_on s [] = []
jobs_on s (j ∷ jobs) = if j.stream == s then j ∷ jobs_on s jobs else jobs_on s jobs

-- The statement that a worker keeps, of the entries that it has seen, its names, the routes and its work: on each stream the job that was
-- got last under these names stands in the work as it went, or it is done; and where none was got, no reply was tried.
abbrev pub Serving : List ℕ → List Entry → List Listed → List OpenJob → Type 0
Serving names past routes work = (s : ℕ) → IsServed routes (length past) s (course names s past) (jobs_on s work)

-- ---- the condition on the work

-- the route of each job is the one that is found for its request, or none where none is found
abbrev pub IsRouted : List Listed → OpenJob → Type 0
IsRouted routes j = j.route ≡ place routes (name_of j.message) j.kind

abbrev pub AreRouted : List Listed → List OpenJob → Type 0
AreRouted routes [] = Unit {0}
AreRouted routes (j ∷ jobs) = IsRouted routes j × AreRouted routes jobs
