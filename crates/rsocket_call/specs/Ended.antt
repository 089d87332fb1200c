-- How a call ends, and how its end is told. Entries stand newest first.
use Rattle.std.specs.Prelude.{◌≡◌, ◌≢◌, ◌⊎◌, ℕ, Bool, List, [], ◌∷◌, ◌++◌, Option, Some, None, codes, is_some}
use Rattle.rs_wire.specs.declared.settings.Settings.{Settings}
use Rattle.rs_wire.specs.declared.fault.Cause.{Cause}
use Rattle.outside.specs.Links.{Shown}
use Rattle.outside.specs.declared.net.Ask.{Ask}
use Rattle.outside.specs.Streams.{ByteStream}
use Rattle.tape.specs.declared.entry.Entry.{Entry}
use Rattle.session_core.specs.Seen.{told_by}
use Rattle.session_model.specs.Legal.{Fair, Legal}
use Rattle.call_model.specs.Ran.{cause_line, dead_line, idle_line, link_line}
use Rattle.command_line.specs.declared.call_task.CallTask.{CallTask}
use Rattle.client.specs.declared.called.Called.{Called}
use Rattle.client.specs.declared.called.Called.TheVariants as called
use Rattle.rsocket_output.specs.Written.{CutOff, Writes, WritesLine, memory_line}
use Rattle.rsocket_call.specs.declared.make.Made.{Made}
use Rattle.rsocket_call.specs.declared.make.Made.TheVariants as made
use Rattle.client.specs.Clients.{asking_of}
use Rattle.client.specs.declared.plan.CallPlan.{CallPlan}
use Rattle.rsocket_call.specs.Called.{Finished, FoundDead, WasIdle, WasPrinting, WasRefused, WasUnlinked, asking_for}

-- the tape of a session under these settings came back to the shelf, which tells these entries or nothing
pub record GotTape (g : Settings) (tells : Bool) (past : List Entry) (shelf shelf' : List (Option (List Entry))) : Type 0 where
  pub put_back : shelf' ≡ shelf ++ told_by tells past ∷ []
  pub legal : Legal g past
  pub fair : Fair g past

-- a shelf got nothing, or one tape of a session under these settings, which tells where a fresh one tells
abbrev pub GotSome : Settings → Option (List Entry) → List (Option (List Entry)) → List (Option (List Entry)) → Type 0
GotSome g fresh shelf shelf' = (shelf' ≡ shelf) ⊎ ((past : List Entry) × GotTape g (is_some fresh) past shelf shelf')

-- ---- the last line

abbrev pub word_of : Option (List ℕ) → List ℕ
word_of None = []
word_of (Some word) = word

-- why a session is closed, as the last line tells it
abbrev pub refused_line : Cause → List ℕ
refused_line why = codes "rsocket: refused " ++ (word_of (cause_line why) ++ 10 ∷ [])

-- the last line of a call, where memory did not run out
abbrev pub last_line : Called → List ℕ
last_line called.Finished = []
last_line called.Net = link_line
last_line (called.Dead last) = dead_line last
last_line (called.Idle lulls) = idle_line lulls
last_line (called.Refused why) = refused_line why
last_line called.OutOfMemory = memory_line

abbrev pub status_of : Called → ℕ
status_of called.Finished = 0
status_of called.OutOfMemory = 6
status_of (called.Refused why) = 7
status_of called.Net = 8
status_of (called.Dead last) = 9
status_of (called.Idle lulls) = 10

-- the line was written with the status of what it tells; or a write failed; or memory ran out
abbrev pub IsTold : Called → ByteStream → ByteStream → ℕ → Type 0
IsTold r old new status = ((status ≡ status_of r) × Writes (last_line r) old new) ⊎ (((status ≡ 5) × CutOff (last_line r) old new) ⊎ ((status ≡ 6) × WritesLine memory_line old new))

-- how what a call came to is told
pub record IsTelling (r : Called) (old new : ByteStream) (status : ℕ) : Type 0 where
  pub told : r ≢ called.OutOfMemory → IsTold r old new status
  pub memory : r ≡ called.OutOfMemory → (status ≡ 6) × WritesLine memory_line old new

abbrev pub TellsMade : Made → ByteStream → ByteStream → ℕ → Type 0
TellsMade made.WriteFault old new status = (status ≡ 5) × (new ≡ old)
TellsMade (made.Called r) old new status = IsTelling r old new status

-- ---- what is told

-- by what a call came to, over the text that it printed
abbrev pub TextOf : Called → CallTask → Option (List ℕ) → Option (List Entry) → List (Option (List Entry)) → List (Option (List Entry)) → Option (List Ask) → Option (List Ask) → Option (List Shown) → Option (List Shown) → ℕ → ℕ → List ℕ → Type 0
TextOf called.Finished t moments fresh shelf shelf' asks asks' back back' faults faults' text = Finished t moments fresh shelf shelf' asks asks' back back' text
TextOf (called.Refused why) t moments fresh shelf shelf' asks asks' back back' faults faults' text = WasRefused t moments fresh shelf shelf' asks asks' back back' (text ++ last_line (called.Refused why))
TextOf called.Net t moments fresh shelf shelf' asks asks' back back' faults faults' text = WasUnlinked t moments fresh shelf shelf' asks asks' back back' faults faults' (text ++ last_line called.Net)
TextOf (called.Dead last) t moments fresh shelf shelf' asks asks' back back' faults faults' text = FoundDead t moments fresh shelf shelf' asks asks' back back' (text ++ last_line (called.Dead last))
TextOf (called.Idle lulls) t moments fresh shelf shelf' asks asks' back back' faults faults' text = WasIdle t moments fresh shelf shelf' asks asks' back back' (text ++ last_line (called.Idle lulls))
TextOf called.OutOfMemory t moments fresh shelf shelf' asks asks' back back' faults faults' text = Unit {0}

-- the call came to this; its text is written, or a write failed
abbrev pub HasCome : Made → CallTask → Option (List ℕ) → Option (List Entry) → List (Option (List Entry)) → List (Option (List Entry)) → Option (List Ask) → Option (List Ask) → Option (List Shown) → Option (List Shown) → ℕ → ℕ → ByteStream → ByteStream → Type 0
HasCome made.WriteFault t moments fresh shelf shelf' asks asks' back back' faults faults' old new = (text : List ℕ) × WasPrinting t moments fresh shelf shelf' asks asks' back back' text × CutOff text old new
HasCome (made.Called r) t moments fresh shelf shelf' asks asks' back back' faults faults' old new = (text : List ℕ) × TextOf r t moments fresh shelf shelf' asks asks' back back' faults faults' text × Writes text old new

-- memory ran out: a part of what the call printed is written, and then the line that says so, or a part of that
abbrev pub EndsInMemory : ByteStream → ByteStream → Type 0
EndsInMemory old new = (text : List ℕ) × WritesLine (text ++ memory_line) old new

abbrev pub IsCallStatus : ℕ → Type 0
IsCallStatus status = (status ≡ 0) ⊎ ((status ≡ 5) ⊎ ((status ≡ 6) ⊎ ((status ≡ 7) ⊎ ((status ≡ 8) ⊎ ((status ≡ 9) ⊎ (status ≡ 10))))))

-- a plan is that of these words
abbrev pub IsPlanOf : CallTask → CallPlan → Type 0
IsPlanOf t p = (asking_of p ≡ asking_for t) × (p.lulls ≡ t.lulls) × (p.tries ≡ t.tries)
