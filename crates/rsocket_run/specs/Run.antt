-- What a run of the program promises.
use Rattle.std.specs.Prelude.{◌≡◌, ℕ, ◌⊎◌, Bool, true, false, List, [], ◌∷◌, ◌++◌, codes, decimal, Option, Some}
use Rattle.outside.specs.Causes.{one_more}
use Rattle.outside.specs.Streams.{ByteStream}
use Rattle.rs_frame.specs.declared.frame.Frame.{Frame}
use Rattle.rs_frame.specs.Framed.{framed_all}
use Rattle.tape.specs.declared.entry.Entry.{Entry}
use Rattle.cable_script.specs.Scripted.{Scripted}
use Rattle.cable_script.specs.Script.{IsScript, IsFault}
use Rattle.cable_script.specs.declared.script.ScriptFault.TheVariants.{Line as WrongLine}
use Rattle.cable.specs.Shelves.{GotTapes, Reports, sides_by}
use Rattle.threaded_play.specs.Reports.{ReportsByThreads}
use Rattle.capture.specs.Captured.{IsBadAt, IsCapture, all_lines}
use Rattle.capture.specs.Text.{IsTextOf, IsWrongLine}
use Rattle.capture.specs.declared.lines.BadFrame.{BadFrame}
use Rattle.capture.specs.declared.lines.BadFrame.TheVariants as bads
use Rattle.rs_frame.specs.Rules.{number_of_rule}
use Rattle.std.specs.Option.{unwrap_or}
use Rattle.command_line.specs.Words.{Asks}
use Rattle.command_line.specs.Asked.{AsksFor}
use Rattle.command_line.specs.Calls.{AsksCall}
use Rattle.command_line.specs.Loads.{AsksLoad}
use Rattle.command_line.specs.Serves.{AsksServe}
use Rattle.command_line.specs.declared.serve_task.ServeTask.{ServeTask}
use Rattle.command_line.specs.declared.call_task.CallTask.{CallTask}
use Rattle.command_line.specs.declared.task.Asked.{Asked}
use Rattle.command_line.specs.declared.task.Task.{Task}
use Rattle.command_line.specs.declared.task.Task.TheVariants as tasks
use Rattle.rsocket_run.specs.declared.tasks.TheConstants.{READ_FOR_CAPTURE, READ_FOR_SCRIPT}
use Rattle.rsocket_call.specs.Ended.{IsCallStatus}
use Rattle.rsocket_serve.specs.Served.{IsServeStatus}
use Rattle.rsocket_run.specs.Streams.{IsReadTo}

-- ---- the last lines

abbrev pub usage_line : List ℕ
usage_line = codes "rsocket: usage" ++ 10 ∷ []

abbrev pub wrong_line : ℕ → List ℕ
wrong_line number = codes "rsocket: script line " ++ (decimal number ++ 10 ∷ [])

-- the number in the line of a frame that can't be read: that of the least rule that it breaks, or 0 where it is not whole
abbrev pub number_of_bad : BadFrame → ℕ
number_of_bad (bads.Breaks fault) = unwrap_or (number_of_rule fault) 0
number_of_bad bads.NotWhole = 0

abbrev pub bad_frame_line : ℕ → BadFrame → List ℕ
bad_frame_line place bad = codes "rsocket: frame at " ++ (decimal place ++ (codes " rule " ++ (decimal (number_of_bad bad) ++ 10 ∷ [])))

abbrev pub read_fault_line : List ℕ
read_fault_line = codes "rsocket: read fault" ++ 10 ∷ []

-- ---- the work that is done

-- this is the report of a run of the script over a shelf: line by line, or by threads
abbrev pub ReportsBy : Bool → Scripted → Option (List Entry) → List (Option (List Entry)) → List (Option (List Entry)) → List ℕ → Type 0
ReportsBy false script fresh shelf shelf' out = Reports script fresh shelf shelf' out
ReportsBy true script fresh shelf shelf' out = ReportsByThreads script fresh shelf shelf' out

-- `cable`: the input was read to its end and is a script, and this is the report of a run of it
pub record RanCable (threads : Bool) (input : List ℕ) (left : Option (List ℕ)) (fresh : Option (List Entry)) (shelf shelf' : List (Option (List Entry))) (out : List ℕ) : Type 0 where
  pub to_its_end : left ≡ Some []
  pub script : Scripted
  pub is_script : IsScript input script
  pub reports : ReportsBy threads script fresh shelf shelf' out

-- `frames`: the input was read to its end and is a capture, and these are the lines of its frames
pub record RanFrames (input : List ℕ) (left : Option (List ℕ)) (out : List ℕ) : Type 0 where
  pub to_its_end : left ≡ Some []
  pub frames : List Frame
  pub capture : IsCapture input frames
  pub lines : out ≡ all_lines frames

-- `frames --back`: the input was read to its end and is the lines of frames, and these are their bytes
pub record RanBack (input : List ℕ) (left : Option (List ℕ)) (out : List ℕ) : Type 0 where
  pub to_its_end : left ≡ Some []
  pub frames : List Frame
  pub text : IsTextOf input frames
  pub bytes : out ≡ framed_all frames

-- `cable` over any input, also one that does not show its text: some script was played, and this is the report of a run of it
abbrev pub PlayedSome : Bool → Option (List Entry) → List (Option (List Entry)) → List (Option (List Entry)) → List ℕ → Type 0
PlayedSome threads fresh shelf shelf' out = (script : Scripted) × ReportsBy threads script fresh shelf shelf' out

abbrev pub IsDone : Task → List ℕ → Option (List ℕ) → Option (List Entry) → List (Option (List Entry)) → List (Option (List Entry)) → List ℕ → Type 0
IsDone (tasks.Cable threads) input left fresh shelf shelf' out = RanCable threads input left fresh shelf shelf' out
IsDone (tasks.Frames false) input left fresh shelf shelf' out = RanFrames input left out
IsDone (tasks.Frames true) input left fresh shelf shelf' out = RanBack input left out

-- ---- what is wrong with the input: all of it was read, or as much as is read at most

-- the line of this number is the first that is wrong in the script; 0 where the script is too long
pub record HasWrongScript (input : List ℕ) (left : Option (List ℕ)) (number : ℕ) : Type 0 where
  pub read : List ℕ
  pub is_read : IsReadTo READ_FOR_SCRIPT input read left
  pub wrong : IsFault read (WrongLine number)

-- the line of this number is the first that is the line of no frame, or that passes the limit
pub record HasWrongText (input : List ℕ) (left : Option (List ℕ)) (number : ℕ) : Type 0 where
  pub read : List ℕ
  pub is_read : IsReadTo READ_FOR_CAPTURE input read left
  pub before : List Frame
  pub wrong : IsWrongLine read number before

abbrev pub HasWrongLine : Task → List ℕ → Option (List ℕ) → ℕ → Type 0
HasWrongLine (tasks.Cable threads) input left number = HasWrongScript input left number
HasWrongLine (tasks.Frames false) input left number = ⊥
HasWrongLine (tasks.Frames true) input left number = HasWrongText input left number

-- the frame at this place is the first that can't be read; these are the lines of the frames before it
pub record HasBadCapture (input : List ℕ) (left : Option (List ℕ)) (place : ℕ) (bad : BadFrame) (lines : List ℕ) : Type 0 where
  pub read : List ℕ
  pub is_read : IsReadTo READ_FOR_CAPTURE input read left
  pub before : List Frame
  pub found : IsBadAt read place bad before
  pub lines_are : lines ≡ all_lines before

abbrev pub HasBadFrame : Task → List ℕ → Option (List ℕ) → ℕ → BadFrame → List ℕ → Type 0
HasBadFrame (tasks.Cable threads) input left place bad lines = ⊥
HasBadFrame (tasks.Frames false) input left place bad lines = HasBadCapture input left place bad lines
HasBadFrame (tasks.Frames true) input left place bad lines = ⊥

-- nothing is wrong with the input
abbrev pub IsRightInput : Task → List ℕ → Type 0
IsRightInput (tasks.Cable threads) input = (script : Scripted) × IsScript input script
IsRightInput (tasks.Frames false) input = (frames : List Frame) × IsCapture input frames
IsRightInput (tasks.Frames true) input = (frames : List Frame) × IsTextOf input frames

-- ---- the output

-- the lines of the frames before the first bad one, and the line that tells it
abbrev pub TellsBadFrame : Task → List ℕ → Option (List ℕ) → List ℕ → Type 0
TellsBadFrame task input left out = (place : ℕ) × (bad : BadFrame) × (lines : List ℕ) × HasBadFrame task input left place bad lines × (out ≡ lines ++ bad_frame_line place bad)

-- the line that tells the first wrong one
abbrev pub TellsWrongLine : Task → List ℕ → Option (List ℕ) → List ℕ → Type 0
TellsWrongLine task input left out = (number : ℕ) × HasWrongLine task input left number × (out ≡ wrong_line number)

-- the line that tells a failed read
abbrev pub TellsReadFault : ByteStream → ByteStream → List ℕ → Type 0
TellsReadFault input input' out = (input'.faults ≡ one_more input.faults) × (out ≡ read_fault_line)

-- the whole output that a run was about to write: that of its work, or the line that tells why it stopped
abbrev pub IsDue : Task → List ℕ → ByteStream → ByteStream → Option (List Entry) → List (Option (List Entry)) → List (Option (List Entry)) → List ℕ → Type 0
IsDue task text input input' fresh shelf shelf' out =
    IsDone task text input'.told fresh shelf shelf' out ⊎ (TellsBadFrame task text input'.told out ⊎ (TellsWrongLine task text input'.told out ⊎ TellsReadFault input input' out))

-- ---- the task, and how much of the input it reads at most: one byte more than it may have

abbrev pub most_of : Task → ℕ
most_of (tasks.Cable threads) = READ_FOR_SCRIPT
most_of (tasks.Frames back) = READ_FOR_CAPTURE

-- the words ask for nothing
abbrev pub AskNothing : List (List ℕ) → Type 0
AskNothing words = (asked : Asked) → ¬ (AsksFor words asked)

-- this holds of the call that the words ask for
abbrev pub OfCall : List (List ℕ) → (CallTask → Type 0) → Type 0
OfCall words P = (t : CallTask) → AsksCall words t → P t

-- this holds of the seed of the large run that the words ask for
abbrev pub OfLoad : List (List ℕ) → (ℕ → Type 0) → Type 0
OfLoad words P = (seed : ℕ) → AsksLoad words seed → P seed

-- this holds of the server that the words ask for
abbrev pub OfServe : List (List ℕ) → (ServeTask → Type 0) → Type 0
OfServe words P = (t : ServeTask) → AsksServe words t → P t

-- this holds of the task that the words ask for, and of the text of the input, where it is told
abbrev pub OfTask : List (List ℕ) → ByteStream → (Task → List ℕ → Type 0) → Type 0
OfTask words input P = (task : Task) (text : List ℕ) → Asks words task → input.told ≡ Some text → P task text

-- ---- the shelf

-- a script was read, which is the whole input where that is told, and the shelf got tapes of the two ends of a run of it
pub record GotEnds (input : ByteStream) (left : Option (List ℕ)) (fresh : Option (List Entry)) (shelf shelf' : List (Option (List Entry))) : Type 0 where
  pub script : Scripted
  pub to_its_end : (text : List ℕ) → input.told ≡ Some text → left ≡ Some []
  pub is_script : (text : List ℕ) → input.told ≡ Some text → IsScript text script
  pub got : GotTapes (sides_by script.settings) fresh shelf shelf'

-- the shelf after a run with this status: it got nothing; or the words ask for `cable`, and on 0, 5 and 6 it got tapes of its ends
abbrev pub IsShelfAfter : List (List ℕ) → ByteStream → Option (List ℕ) → Option (List Entry) → List (Option (List Entry)) → List (Option (List Entry)) → ℕ → Type 0
IsShelfAfter words input left fresh shelf shelf' status =
    (shelf' ≡ shelf) ⊎ ((threads : Bool) × Asks words (tasks.Cable threads) × GotEnds input left fresh shelf shelf' × ((status ≡ 0) ⊎ ((status ≡ 5) ⊎ (status ≡ 6))))

-- ---- the status

-- of a task, of a call, of a large run, of a server, and of words that ask for nothing
abbrev pub IsTaskStatus : ℕ → Type 0
IsTaskStatus status = (status ≡ 0) ⊎ ((status ≡ 3) ⊎ ((status ≡ 4) ⊎ ((status ≡ 5) ⊎ ((status ≡ 6) ⊎ (status ≡ 11)))))

abbrev pub IsLoadStatus : ℕ → Type 0
IsLoadStatus status = (status ≡ 0) ⊎ ((status ≡ 5) ⊎ (status ≡ 6))

abbrev pub IsStatus : ℕ → Type 0
IsStatus status = IsTaskStatus status ⊎ (IsCallStatus status ⊎ (IsLoadStatus status ⊎ (IsServeStatus status ⊎ (status ≡ 2))))
