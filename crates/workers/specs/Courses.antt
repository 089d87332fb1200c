-- How the job of a stream went, by the calls of one caller. Entries stand newest first.
use Rattle.std.specs.Prelude.{◌≡◌, ◌<◌, ◌≤◌, ◌+◌, ◌⊎◌, ℕ, ◌==◌, ◌||◌, Bool, true, false, nat_lt, if◌then◌else◌, List, [], ◌∷◌, ◌++◌, length, Option, Some, None, is_none}
use Rattle.std.specs.List.{AllByRecursion}
use Rattle.rs_wire.specs.declared.call.Call.{Call}
use Rattle.rs_wire.specs.declared.call.Call.TheVariants as call
use Rattle.rs_wire.specs.declared.delivery.Delivery.TheVariants as delivery
use Rattle.rs_wire.specs.declared.delivery.Job.{Job}
use Rattle.rs_wire.specs.declared.delivery.Job.TheVariants as job
use Rattle.rs_wire.specs.declared.fault.Refusal.TheVariants as refusal
use Rattle.tape.specs.declared.event.Event.{Event}
use Rattle.tape.specs.declared.event.Event.TheVariants as event
use Rattle.tape.specs.declared.answer.Answer.{Answer}
use Rattle.tape.specs.declared.answer.Answer.TheVariants as answer
use Rattle.tape.specs.declared.entry.Entry.{Entry}
use Rattle.conn_lock.specs.Callers.{times}

pub record Course : Type 0 where
  -- the last job that was got on the stream
  pub job : Option Job
  -- since then, or without one at all: the replies that were accepted, the newest first
  pub made : List Call
  -- the contents of the items that were taken, the oldest first
  pub got : List (List ℕ)
  -- a Take told that nothing more comes
  pub over : Bool
  -- the last reply or Take that was tried, with its answer
  pub last : Option (Call × Answer)
  -- some reply was tried on the stream, accepted or not
  pub tried : Bool

abbrev pub no_course : Course
no_course = record { job = None; made = []; got = []; over = false; last = None; tried = false }

abbrev pub is_done : Answer → Bool
is_done answer.Done = true
is_done _ = false

-- the content of the item that a Take gave
abbrev pub got_in : Answer → List (List ℕ)
got_in (answer.Got (delivery.Item message)) = message.content ∷ []
got_in _ = []

-- a Take so answered tells that nothing more comes
abbrev pub tells_end : Answer → Bool
tells_end (answer.Got (delivery.Item message)) = false
tells_end (answer.Got _) = true
tells_end (answer.Refused refusal.Ended) = true
tells_end _ = false

abbrev pub after_reply : Call → Answer → Course → Course
after_reply asked a c = record c { made = if is_done a then asked ∷ c.made else c.made; last = Some (asked, a); tried = true }

abbrev pub after_take : ℕ → Answer → Course → Course
after_take s a c = record c { got = c.got ++ got_in a; over = c.over || tells_end a; last = Some (call.Take s, a) }

-- the replies that count for the next job: those that were accepted where no job was got yet
abbrev pub made_before : Course → List Call
made_before c = if is_none c.job then c.made else []

abbrev pub after_job : ℕ → Answer → Course → Course
after_job s (answer.GotJob (job.Asked q kind initial message complete)) c =
    if q == s then record { job = Some (job.Asked q kind initial message complete); made = made_before c; got = []; over = false; last = None; tried = c.tried }
    else c
after_job s a c = c

-- how the job of stream s went after a call so answered
abbrev pub after_call : ℕ → Call → Answer → Course → Course
after_call s (call.Next q message complete) a c = if q == s then after_reply (call.Next q message complete) a c else c
after_call s (call.Done q) a c = if q == s then after_reply (call.Done q) a c else c
after_call s (call.Fail q code content) a c = if q == s then after_reply (call.Fail q code content) a c else c
after_call s (call.Take q) a c = if q == s then after_take q a c else c
after_call s call.TakeJob a c = after_job s a c
after_call s _ a c = c

abbrev pub after_event : ℕ → Event → Answer → Course → Course
after_event s (event.Asked asked) a c = after_call s asked a c
after_event s _ a c = c

-- the entry carries one of the names
abbrev pub is_named : List ℕ → ℕ → Bool
is_named names who = nat_lt 0 (times who names)

-- how the job of stream s went, by the calls under these names
unfoldable pub course : List ℕ → ℕ → List Entry → Course
course names s [] = no_course
course names s (x ∷ past) = if is_named names x.who then after_event s x.event x.answer (course names s past) else course names s past

-- ---- what a worker's calls add

-- the calls of a worker
abbrev pub IsWorkersCall : Call → Type 0
IsWorkersCall (call.Take s) = Unit {0}
IsWorkersCall call.TakeJob = Unit {0}
IsWorkersCall (call.Next s message complete) = Unit {0}
IsWorkersCall (call.Done s) = Unit {0}
IsWorkersCall (call.Fail s code content) = Unit {0}
IsWorkersCall _ = ⊥

-- no call of a worker
abbrev pub IsNoWork : Event → Type 0
IsNoWork (event.Asked asked) = IsWorkersCall asked → ⊥
IsNoWork _ = Unit {0}

-- each entry under one of these names is so
abbrev pub Under : List ℕ → (Entry → Type 0) → List Entry → Type 0
Under names P past = AllByRecursion (λ (x : Entry). 0 < times x.who names → P x) past

-- the call is a reply on stream s
abbrev pub IsReplyOn : ℕ → Call → Type 0
IsReplyOn s (call.Next q message complete) = q ≡ s
IsReplyOn s (call.Done q) = q ≡ s
IsReplyOn s (call.Fail q code content) = q ≡ s
IsReplyOn s _ = ⊥

-- or it takes what comes on the stream
abbrev pub IsOfJob : ℕ → Call → Type 0
IsOfJob s (call.Take q) = q ≡ s
IsOfJob s asked = IsReplyOn s asked

abbrev pub Asks : (Call → Type 0) → Event → Type 0
Asks P (event.Asked asked) = P asked
Asks P _ = ⊥

-- the reply in a call, where it was accepted
abbrev pub accepted_of : Call → Answer → List Call
accepted_of (call.Next s message complete) a = if is_done a then call.Next s message complete ∷ [] else []
accepted_of (call.Done s) a = if is_done a then call.Done s ∷ [] else []
accepted_of (call.Fail s code content) a = if is_done a then call.Fail s code content ∷ [] else []
accepted_of _ a = []

abbrev pub accepted_in : Event → Answer → List Call
accepted_in (event.Asked asked) a = accepted_of asked a
accepted_in _ a = []

-- the replies that were accepted under these names, the newest first
abbrev pub accepted : List ℕ → List Entry → List Call
accepted names [] = []
accepted names (x ∷ past) = if is_named names x.who then accepted_in x.event x.answer ++ accepted names past else accepted names past

-- The front went on. Of the entries that were added those under these names carry this number and ask such calls, and so many replies of
-- them were accepted.
pub record GoesOn (P : Call → Type 0) (names : List ℕ) (number : ℕ) (old new : List Entry) (replies : ℕ) : Type 0 where
  pub more : List Entry
  pub on : new ≡ more ++ old
  pub own : AllByRecursion (λ (e : Entry). 0 < times e.who names → (e.who ≡ number) × Asks P e.event) more
  pub count : length (accepted names more) ≡ replies

-- The same for a worker: all replies that were accepted are on one stream.
pub record WorksOn (names : List ℕ) (number : ℕ) (old new : List Entry) : Type 0 where
  pub more : List Entry
  pub on : new ≡ more ++ old
  pub own : AllByRecursion (λ (e : Entry). 0 < times e.who names → (e.who ≡ number) × Asks IsWorkersCall e.event) more
  pub stream : ℕ
  pub one : AllByRecursion (IsReplyOn stream) (accepted names more)

-- the bytes of the content of a reply
abbrev pub bytes_of : Call → ℕ
bytes_of (call.Next s message complete) = length message.content
bytes_of _ = 0

abbrev pub bytes_of_all : List Call → ℕ
bytes_of_all [] = 0
bytes_of_all (c ∷ calls) = bytes_of c + bytes_of_all calls

-- The front went on, and the contents of the replies that were accepted under these names have at least so many bytes.
pub record HasSent (names : List ℕ) (old new : List Entry) (bytes : ℕ) : Type 0 where
  pub more : List Entry
  pub on : new ≡ more ++ old
  pub sent : bytes ≤ bytes_of_all (accepted names more)

-- and as many as are allowed, where there is a bound
abbrev pub HasSentMost : List ℕ → Option ℕ → List Entry → List Entry → Type 0
HasSentMost names None old new = ⊥
HasSentMost names (Some most) old new = HasSent names old new most

-- The front went on, and these replies were accepted under these names, the newest first.
pub record HasReplied (names : List ℕ) (old new : List Entry) (replies : List Call) : Type 0 where
  pub more : List Entry
  pub on : new ≡ more ++ old
  pub replied : accepted names more ≡ replies

-- the replies before the last one, which is the first here, have fewer bytes than this in sum, or there are none
abbrev pub IsWithin : ℕ → List Call → Type 0
IsWithin most [] = Unit {0}
IsWithin most (last ∷ before) = (before ≡ []) ⊎ (bytes_of_all before < most)

-- The front went on by replies that may have so many bytes: after some of them one more was accepted only while those had fewer.
pub record KeepsWithin (names : List ℕ) (most : ℕ) (old new : List Entry) : Type 0 where
  pub replies : List Call
  pub made : HasReplied names old new replies
  pub within : IsWithin most replies
