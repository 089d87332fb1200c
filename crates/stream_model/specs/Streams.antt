-- All streams of an end, after these marks, the newest first.
use Rattle.std.specs.Prelude.{ℕ, zero, suc, ◌+◌, ◌%◌, ◌==◌, ◌&&◌, ◌||◌, Bool, false, not, nat_lt, max, if◌then◌else◌, List, [], ◌∷◌, ◌++◌, ◌^◌, drop, Option, Some, None, is_some}
use Rattle.rs_wire.specs.declared.words.Role.{Role}
use Rattle.rs_wire.specs.declared.words.Role.TheVariants.{Requester, Responder}
use Rattle.rs_wire.specs.declared.words.Way.TheVariants as way
use Rattle.rs_wire.specs.declared.message.Message.{Message}
use Rattle.rs_wire.specs.declared.delivery.Job.{Job}
use Rattle.rs_wire.specs.declared.delivery.Job.TheVariants as job
use Rattle.stream_model.specs.Marks.{Opening, Step, Payload, Mark, Opens, Passed, Sent, Got, Pushed, Took, TookJob}
use Rattle.stream_model.specs.Turns.{Word, Said, Taken, Turn, is_whole, is_over, over, is_fnf, is_role, other}

-- ---- the ids that were used (RSocket 1.0, "Stream Identifiers")

-- the highest of a parity after a request of that id
abbrev pub higher : ℕ → ℕ → ℕ → ℕ
higher parity id before = if id % 2 == parity then max id before else before

abbrev pub higher_in : ℕ → Mark → ℕ → ℕ
higher_in parity (Opens s opening) before = higher parity s before
higher_in parity (Passed s) before = higher parity s before
higher_in parity _ before = before

-- the highest id of a parity that a request was made on, admitted or not, or passed over; 0 for none
unfoldable pub highest : ℕ → List Mark → ℕ
highest parity [] = 0
highest parity (m ∷ seen) = higher_in parity m (highest parity seen)

-- ---- one stream among all

abbrev pub goes_on : Option Turn → (Role → Word) → Option Turn
goes_on None word = None
goes_on (Some t) word = Some (record { opening = t.opening; words = word t.opening.role ∷ t.words })

-- a request that is made is admitted; one that came where one stream more may be open, or where it is a whole fire-and-forget
abbrev pub is_admitted : Bool → Opening → Bool
is_admitted room o = is_role o.role Requester || room || (is_fnf o.kind && is_some o.whole)

-- a stream after a mark on it, where room says whether one stream more may be open
abbrev pub turn_after : Bool → Mark → Option Turn → Option Turn
turn_after room (Opens s opening) before = if is_admitted room opening then Some (record { opening = opening; words = [] }) else before
turn_after room (Passed s) before = before
turn_after room (Sent s step) before = goes_on before (λ role. Said role step)
turn_after room (Got s step) before = goes_on before (λ role. Said (other role) step)
turn_after room (Pushed metadata) before = before
turn_after room (Took s d) before = goes_on before (λ role. Taken d)
turn_after room TookJob before = before

-- a mark is on the stream of that id; a request that is passed over has none
abbrev pub on : ℕ → Mark → Bool
on s (Opens stream opening) = stream == s
on s (Passed stream) = false
on s (Sent stream step) = stream == s
on s (Got stream step) = stream == s
on s (Pushed metadata) = false
on s (Took stream d) = stream == s
on s TookJob = false

abbrev pub one_if : Bool → ℕ
one_if b = if b then 1 else 0

-- a stream is open: it was admitted, and is not over
abbrev pub is_live : Option Turn → Bool
is_live None = false
is_live (Some t) = not (is_over t)

-- how many of the ids from 1 to that one pass a test
unfoldable pub count_to : ℕ → (ℕ → Bool) → ℕ
count_to zero test = 0
count_to (suc n) test = one_if (test (suc n)) + count_to n test

-- the highest id of either parity
abbrev pub top : List Mark → ℕ
top seen = max (highest 0 seen) (highest 1 seen)

-- the stream of an id, from its admitted request on
unfoldable pub turn : ℕ → List Mark → ℕ → Option Turn
turn most [] s = None
turn most (m ∷ seen) s =
    if on s m then turn_after (nat_lt (count_to (top seen) (λ q. is_live (turn most seen q))) most) m (turn most seen s)
    else turn most seen s

-- how many streams are open
abbrev pub live : ℕ → List Mark → ℕ
live most seen = count_to (top seen) (λ q. is_live (turn most seen q))

-- one stream more may be open
abbrev pub has_room : ℕ → List Mark → Bool
has_room most seen = nat_lt (live most seen) most

-- ---- jobs: what the peer asks of this end

-- a number above 0 that has 31 bits
abbrev pub if_amount : ℕ → Option ℕ
if_amount n = if nat_lt 0 n && nat_lt n (2 ^ 31) then Some n else None

-- the job of a request whose message is whole
abbrev pub job_of : ℕ → Opening → Message → Bool → Job
job_of s o message complete = job.Asked s o.kind (if_amount o.initial) message complete

abbrev pub opening_job : ℕ → Opening → Option (Message × Bool) → List Job
opening_job s o None = []
opening_job s o (Some m) = job_of s o m.0 m.1 ∷ []

-- a message of the peer's that makes the request's own whole
abbrev pub late_job : ℕ → Step → Option Turn → List Job
late_job s (Payload message complete next) (Some t) = if is_role t.opening.role Responder && not (is_whole t.opening t.words) && not (over t.opening t.words way.Request) then job_of s t.opening message complete ∷ [] else []
late_job s step t = []

-- the jobs that a mark brings
abbrev pub brings_job : ℕ → List Mark → Mark → List Job
brings_job most seen (Opens s o) = if is_role o.role Responder && is_admitted (has_room most seen) o then opening_job s o o.whole else []
brings_job most seen (Got s step) = late_job s step (turn most seen s)
brings_job most seen (Pushed metadata) = job.Pushed metadata ∷ []
brings_job most seen m = []

-- the jobs, in the order in which requests became whole and metadata was pushed
unfoldable pub jobs : ℕ → List Mark → List Job
jobs most [] = []
jobs most (m ∷ seen) = jobs most seen ++ brings_job most seen m

abbrev pub jobs_in : Mark → ℕ
jobs_in TookJob = 1
jobs_in m = 0

-- how many of them were taken
unfoldable pub jobs_taken : List Mark → ℕ
jobs_taken [] = 0
jobs_taken (m ∷ seen) = jobs_taken seen + jobs_in m

-- the jobs that wait to be taken
unfoldable pub jobs_waiting : ℕ → List Mark → List Job
jobs_waiting most seen = drop (jobs_taken seen) (jobs most seen)
