-- Why a run stops, its status, and the line that tells it.
use Rattle.std.specs.Prelude.{◌≡◌, ℕ, ◌⊎◌, Bool, List, [], ◌++◌, Option, Result, Ok, Err, IfErr}
use Rattle.outside.specs.Causes.{one_more}
use Rattle.outside.specs.Streams.{ByteStream}
use Rattle.cable_script.specs.declared.script.ScriptFault.{ScriptFault}
use Rattle.cable_script.specs.declared.script.ScriptFault.TheVariants as scripts
use Rattle.capture.specs.declared.lines.CaptureFault.{CaptureFault}
use Rattle.capture.specs.declared.lines.CaptureFault.TheVariants as captures
use Rattle.capture.specs.declared.back.LineFault.{LineFault}
use Rattle.capture.specs.declared.back.LineFault.TheVariants as texts
use Rattle.rsocket_run.specs.declared.stop.Stop.{Stop}
use Rattle.rsocket_run.specs.declared.stop.Stop.TheVariants as stops
use Rattle.rsocket_run.specs.declared.input.Unread.{Unread}
use Rattle.rsocket_run.specs.declared.input.Unread.TheVariants as unread
use Rattle.command_line.specs.declared.task.Task.{Task}
use Rattle.tape.specs.declared.entry.Entry.{Entry}
use Rattle.command_line.specs.Words.{Asks}
use Rattle.command_line.specs.declared.task.Task.TheVariants as tasks
use Rattle.rsocket_run.specs.Run.{GotEnds, HasBadFrame, HasWrongLine, bad_frame_line, read_fault_line, usage_line, wrong_line}
use Rattle.rsocket_output.specs.Written.{memory_line}
use Rattle.rsocket_output.specs.Written.{CutOff, Writes, WritesLine}

-- what a stop tells of the input, and the text that the run has by then
abbrev pub StoppedBy : Task → List ℕ → Option (List ℕ) → Stop → List ℕ → Type 0
StoppedBy task input left stops.Usage text = ⊥
StoppedBy task input left (stops.WrongLine number) text = HasWrongLine task input left number × (text ≡ [])
StoppedBy task input left stops.ReadFault text = Unit {0}
StoppedBy task input left stops.OutOfMemory text = Unit {0}
StoppedBy task input left (stops.BadFrame place bad) text = HasBadFrame task input left place bad text

-- the run ended with this status and wrote all of the text; or a write failed, and a prefix of it is written; or memory
-- ran out, and just the line of that is written
abbrev pub IsTold : ℕ → List ℕ → ByteStream → ByteStream → ℕ → Type 0
IsTold status text old new result =
    ((result ≡ status) × Writes text old new) ⊎ (((result ≡ 5) × CutOff text old new) ⊎ ((result ≡ 6) × WritesLine memory_line old new))

-- how a stop is told: 2 and 6 stay also where their line can't be written
abbrev pub TellsStop : Stop → List ℕ → ByteStream → ByteStream → ℕ → Type 0
TellsStop stops.Usage text old new result = (result ≡ 2) × WritesLine usage_line old new
TellsStop (stops.WrongLine number) text old new result = IsTold 3 (text ++ wrong_line number) old new result
TellsStop stops.ReadFault text old new result = ((result ≡ 4) × Writes read_fault_line old new) ⊎ ((result ≡ 5) × CutOff read_fault_line old new)
TellsStop stops.OutOfMemory text old new result = (result ≡ 6) × WritesLine memory_line old new
TellsStop (stops.BadFrame place bad) text old new result = IsTold 11 (text ++ bad_frame_line place bad) old new result

-- the count of failed reads once work ended so
abbrev pub faults_after_work : Result Unit Stop → ℕ → ℕ
faults_after_work (Ok done) faults = faults
faults_after_work (Err stops.Usage) faults = faults
faults_after_work (Err (stops.WrongLine number)) faults = faults
faults_after_work (Err stops.ReadFault) faults = one_more faults
faults_after_work (Err stops.OutOfMemory) faults = faults
faults_after_work (Err (stops.BadFrame place bad)) faults = faults

-- the count of failed reads once the input was read, or was not
abbrev pub faults_after_reading : {X : Type 0} → Result X Unread → ℕ → ℕ
faults_after_reading (Ok bytes) faults = faults
faults_after_reading (Err unread.Fault) faults = one_more faults
faults_after_reading (Err unread.OutOfMemory) faults = faults

-- the count of failed writes once all was written, or was not
abbrev pub faults_after_writing : {X E : Type 0} → Result X E → ℕ → ℕ
faults_after_writing (Ok done) faults = faults
faults_after_writing (Err fault) faults = one_more faults

-- the shelf after `cable` ended so: it got nothing; or it got tapes of the ends of a run of its script, where the work was done or memory
-- ran out in it
abbrev pub IsShelfAfterCable : ByteStream → Option (List ℕ) → Option (List Entry) → List (Option (List Entry)) → List (Option (List Entry)) → Result Unit Stop → Type 0
IsShelfAfterCable input left fresh shelf shelf' result =
    (shelf' ≡ shelf) ⊎ (GotEnds input left fresh shelf shelf' × IfErr result (λ stop. stop ≡ stops.OutOfMemory))

-- the shelf after the work of these words ended so
abbrev pub IsShelfAfterWork : List (List ℕ) → ByteStream → Option (List ℕ) → Option (List Entry) → List (Option (List Entry)) → List (Option (List Entry)) → Result Unit Stop → Type 0
IsShelfAfterWork words input left fresh shelf shelf' result =
    (shelf' ≡ shelf) ⊎ ((threads : Bool) × Asks words (tasks.Cable threads) × GotEnds input left fresh shelf shelf' × IfErr result (λ stop. stop ≡ stops.OutOfMemory))

-- the faults of each part as a stop of the run
abbrev pub of_input : Unread → Stop
of_input unread.Fault = stops.ReadFault
of_input unread.OutOfMemory = stops.OutOfMemory

abbrev pub of_script : ScriptFault → Stop
of_script (scripts.Line number) = stops.WrongLine number
of_script scripts.OutOfMemory = stops.OutOfMemory

abbrev pub of_capture : CaptureFault → Stop
of_capture (captures.Frame place bad) = stops.BadFrame place bad
of_capture captures.OutOfMemory = stops.OutOfMemory

abbrev pub of_text : LineFault → Stop
of_text (texts.Line number) = stops.WrongLine number
of_text texts.OutOfMemory = stops.OutOfMemory
