-- What words ask for: a task, a call, a large run, or a server.
use Rattle.std.specs.Prelude.{ℕ, List, codes}
use Rattle.command_line.specs.declared.task.Asked.{Asked}
use Rattle.command_line.specs.declared.task.Asked.TheVariants as asked
use Rattle.command_line.specs.declared.task.Name.{Name}
use Rattle.command_line.specs.declared.task.Name.TheVariants as name
use Rattle.command_line.specs.Calls.{AsksCall}
use Rattle.command_line.specs.Loads.{AsksLoad}
use Rattle.command_line.specs.Serves.{AsksServe}
use Rattle.command_line.specs.Words.{Asks}

abbrev pub AsksFor : List (List ℕ) → Asked → Type 0
AsksFor words (asked.Task task) = Asks words task
AsksFor words (asked.Call call) = AsksCall words call
AsksFor words (asked.Load seed) = AsksLoad words seed
AsksFor words (asked.Serve task) = AsksServe words task

-- the word of a command
abbrev pub name_word : Name → List ℕ
name_word name.Cable = codes "cable"
name_word name.Frames = codes "frames"
name_word name.Call = codes "call"
name_word name.Load = codes "load"
name_word name.Serve = codes "serve"
