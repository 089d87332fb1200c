-- What an answer says of the event and of what was before it: a table by answer and event, with nothing where the two never meet.
use Rattle.std.specs.Prelude.{◌≡◌, ◌≤◌, ℕ, ◌+◌, ◌==◌, Bool, true, false, [], ◌∷◌, Option, Some, None}
use Rattle.rs_wire.specs.declared.settings.Settings.{Settings}
use Rattle.rs_wire.specs.declared.call.Call.{Call}
use Rattle.rs_wire.specs.declared.call.Call.TheVariants as call
use Rattle.rs_wire.specs.declared.delivery.Delivery.{Delivery}
use Rattle.rs_wire.specs.declared.delivery.Job.{Job}
use Rattle.rs_wire.specs.declared.fault.Gone.{Gone}
use Rattle.rs_frame.specs.declared.frame.Frame.{Frame}
use Rattle.rs_frame.specs.declared.frame.Frame.TheVariants as frame
use Rattle.setup_core.specs.Setup.{setup_fault}
use Rattle.tape.specs.declared.event.Event.{Event}
use Rattle.tape.specs.declared.event.Event.TheVariants as event
use Rattle.tape.specs.declared.answer.Answer.{Answer}
use Rattle.tape.specs.declared.answer.Answer.TheVariants as answer
use Rattle.session_model.specs.Life.{is_live}
use Rattle.stream_model.specs.Known.{next_id, front_of}
use Rattle.keepalive.specs.declared.timer.Due.TheVariants.{Dead, Send}
use Rattle.session_model.specs.Answers.{Facts, asks_alive, broken_rule, due_now, find_full, ok_gone, peer_error, refused_call, resume_gone}

-- a client begins, or resumes; a server can resume by the RESUME that came first, or keep the SETUP
abbrev pub SuitsFirst : Settings → Facts → Option Frame → Bool → Type 0
SuitsFirst g t None taken = t.begun ≡ true → g.resume ≡ true
SuitsFirst g t (Some (frame.Resume r)) taken = resume_gone t r ≡ None
SuitsFirst g t (Some f) taken = (t.begun ≡ false) × (setup_fault f g taken ≡ None)

pub record Opening (g : Settings) (t : Facts) (first : Option Frame) (taken : Bool) (n : ℕ) : Type 0 where
  pub next : n ≡ t.openings + 1
  pub free : t.closed ≡ None
  pub suits : SuitsFirst g t first taken

pub record Starting (g : Settings) (t : Facts) (asked : Call) (id : ℕ) : Type 0 where
  pub next : id ≡ next_id g.side t.streams
  pub accepted : refused_call g t asked ≡ None

pub record Drawing (t : Facts) (conn room n : ℕ) : Type 0 where
  pub here : is_live t.live conn ≡ true
  pub within : n ≤ room
  pub fits : n ≤ t.queued

-- a frame that is handled breaks no rule; where RESUME_OK is waited for, it is that one
abbrev pub MayCome : Settings → Facts → Frame → Type 0
MayCome g t (frame.ResumeOk position) = (t.carrying ≡ false) × (ok_gone t position ≡ None)
MayCome g t f = (t.carrying ≡ true) × (broken_rule g t f ≡ None)

pub record Handling (g : Settings) (t : Facts) (conn : ℕ) (f : Frame) : Type 0 where
  pub here : is_live t.live conn ≡ true
  pub free : t.closed ≡ None
  pub error : peer_error f ≡ None
  pub may : MayCome g t f

pub record Failing (t : Facts) (conn : ℕ) (f : Frame) (code : ℕ) : Type 0 where
  pub here : is_live t.live conn ≡ true
  pub free : t.closed ≡ None
  pub error : peer_error f ≡ Some code

-- there is a live connection, and the session is not closed
pub record Lives (t : Facts) : Type 0 where
  pub here : (t.live == 0) ≡ false
  pub free : t.closed ≡ None

pub record Keeping (g : Settings) (t : Facts) (now : ℕ) : Type 0 where
  pub lives : Lives t
  pub carries : t.carrying ≡ true
  pub place : find_full g t (asks_alive g t ∷ []) ≡ false
  pub due : due_now t (event.Tick now) ≡ Send

pub record Dying (t : Facts) (now last : ℕ) : Type 0 where
  pub lives : Lives t
  pub due : due_now t (event.Tick now) ≡ Dead last

abbrev pub Opens : Settings → Facts → ℕ → Event → Type 0
Opens g t n (event.Open first taken) = Opening g t first taken n
Opens g t n _ = ⊥

abbrev pub Starts : Settings → Facts → ℕ → Event → Type 0
Starts g t id (event.Asked (call.Request kind initial message complete)) = Starting g t (call.Request kind initial message complete) id
Starts g t id _ = ⊥

-- a call that starts no stream and takes nothing is not refused
abbrev pub Does : Settings → Facts → Event → Type 0
Does g t (event.Asked (call.Request kind initial message complete)) = ⊥
Does g t (event.Asked (call.Take s)) = ⊥
Does g t (event.Asked call.TakeJob) = ⊥
Does g t (event.Asked asked) = refused_call g t asked ≡ None
Does g t _ = ⊥

-- what waits first is taken
abbrev pub Takes : Facts → Delivery → Event → Type 0
Takes t delivery (event.Asked (call.Take s)) = front_of (t.streams.waits s) ≡ Some delivery
Takes t delivery _ = ⊥

abbrev pub TakesJob : Facts → Job → Event → Type 0
TakesJob t job (event.Asked call.TakeJob) = front_of t.streams.jobs ≡ Some job
TakesJob t job _ = ⊥

abbrev pub Parts : Facts → Event → Type 0
Parts t (event.Cut conn) = is_live t.live conn ≡ true
Parts t _ = ⊥

abbrev pub GivesBytes : Facts → ℕ → Event → Type 0
GivesBytes t n (event.Draw conn room) = Drawing t conn room n
GivesBytes t n _ = ⊥

abbrev pub Handles : Settings → Facts → Event → Type 0
Handles g t (event.Came conn f) = Handling g t conn f
Handles g t _ = ⊥

abbrev pub Fails : Facts → ℕ → Event → Type 0
Fails t code (event.Came conn f) = Failing t conn f code
Fails t code _ = ⊥

-- what comes is answered so on another connection than the live one alone
abbrev pub Strays : Facts → Event → Type 0
Strays t (event.Came conn f) = is_live t.live conn ≡ false
Strays t (event.Bad conn rule) = is_live t.live conn ≡ false
Strays t (event.Draw conn room) = is_live t.live conn ≡ false
Strays t (event.Cut conn) = is_live t.live conn ≡ false
Strays t (event.Open first taken) = Unit {0}
Strays t (event.Tick now) = ⊥
Strays t (event.Asked asked) = ⊥

-- something came on the live connection of a session that is not closed
abbrev pub Lands : Facts → Event → Type 0
Lands t (event.Came conn f) = (is_live t.live conn ≡ true) × (t.closed ≡ None)
Lands t (event.Bad conn rule) = (is_live t.live conn ≡ true) × (t.closed ≡ None)
Lands t _ = ⊥

-- a first frame is refused on a session that is not closed
abbrev pub RefusesFirst : Facts → Event → Type 0
RefusesFirst t (event.Open (Some f) taken) = t.closed ≡ None
RefusesFirst t _ = ⊥

-- a resumption is refused, of the first frame or of RESUME_OK
abbrev pub RefusesResume : Facts → Gone → Event → Type 0
RefusesResume t why (event.Open (Some (frame.Resume r)) taken) = (t.closed ≡ None) × (resume_gone t r ≡ Some why)
RefusesResume t why (event.Came conn (frame.ResumeOk position)) = (is_live t.live conn ≡ true) × (t.closed ≡ None) × (t.carrying ≡ false) × (ok_gone t position ≡ Some why)
RefusesResume t why _ = ⊥

-- a call is refused
abbrev pub RefusesCall : Event → Type 0
RefusesCall (event.Asked asked) = Unit {0}
RefusesCall _ = ⊥

-- nothing waits to be drawn on the live connection, or to be taken
abbrev pub FindsNothing : Facts → Event → Type 0
FindsNothing t (event.Draw conn room) = (is_live t.live conn ≡ true) × (t.queued ≡ 0)
FindsNothing t (event.Asked (call.Take s)) = front_of (t.streams.waits s) ≡ None
FindsNothing t (event.Asked call.TakeJob) = front_of t.streams.jobs ≡ None
FindsNothing t _ = ⊥

-- a moment is taken, and nothing else is done
abbrev pub Rests : Event → Type 0
Rests (event.Tick now) = Unit {0}
Rests _ = ⊥

-- a KEEPALIVE is sent
abbrev pub KeepsAlive : Settings → Facts → Event → Type 0
KeepsAlive g t (event.Tick now) = Keeping g t now
KeepsAlive g t _ = ⊥

-- the peer counts as dead
abbrev pub FindsDead : Facts → ℕ → Event → Type 0
FindsDead t last (event.Tick now) = Dying t now last
FindsDead t last _ = ⊥

abbrev pub Means : Settings → Facts → Event → Answer → Type 0
Means g t e (answer.Opened n) = Opens g t n e
Means g t e (answer.Started id) = Starts g t id e
Means g t e answer.Done = Does g t e
Means g t e (answer.Got delivery) = Takes t delivery e
Means g t e (answer.GotJob job) = TakesJob t job e
Means g t e (answer.Drawn n) = GivesBytes t n e
Means g t e answer.Parted = Parts t e
Means g t e answer.Quiet = Rests e
Means g t e answer.Sent = KeepsAlive g t e
Means g t e (answer.Dead last) = FindsDead t last e
Means g t e answer.Handled = Handles g t e
Means g t e (answer.PeerError code) = Fails t code e
Means g t e (answer.Violation rule) = Lands t e
Means g t e (answer.OutBusy n) = Lands t e
Means g t e (answer.SetupRefused fault) = RefusesFirst t e
Means g t e (answer.ResumeRefused why) = RefusesResume t why e
Means g t e (answer.Refused why) = RefusesCall e
Means g t e answer.NotYet = FindsNothing t e
Means g t e (answer.Stale n) = Strays t e
Means g t e (answer.Closed why) = t.closed ≡ Some why
Means g t e answer.TapeFull = ⊥
Means g t e answer.OutOfMemory = ⊥
