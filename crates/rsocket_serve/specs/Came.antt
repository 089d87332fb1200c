-- How a server ends, and how its end is told.
use Rattle.std.specs.Prelude.{◌≡◌, ◌⊎◌, ℕ, List, Option, Result, Ok, Err}
use Rattle.handlers.specs.Listed.{Listed}
use Rattle.outside.specs.Causes.{Rose}
use Rattle.outside.specs.Streams.{ByteStream}
use Rattle.tape.specs.declared.entry.Entry.{Entry}
use Rattle.server.specs.declared.served.Served.{Served}
use Rattle.serve.specs.Links.{NetShown}
use Rattle.serve.specs.declared.plan.ServeFault.{ServeFault}
use Rattle.serve.specs.declared.plan.ServeFault.TheVariants as faults
use Rattle.rsocket_output.specs.Written.{CutOff, Writes, WritesLine, memory_line}
use Rattle.command_line.specs.declared.serve_task.ServeTask.{ServeTask}
use Rattle.rsocket_serve.specs.Served.{CouldNotListen, ServesFor, link_line, served_line}

-- it served so, or failed for this cause
abbrev pub HasCome : ServeTask → List Listed → Option (List ℕ) → List (Option (List Entry)) → List (Option (List Entry)) → NetShown → NetShown → Result (List Served) ServeFault → Type 0
HasCome t routes moments shelf shelf' net net' (Ok list) = ServesFor t routes moments shelf shelf' net net' (Ok list)
HasCome t routes moments shelf shelf' net net' (Err faults.Net) = (CouldNotListen t shelf shelf' net net' ⊎ ServesFor t routes moments shelf shelf' net net' (Err faults.Net)) × Rose net.faults net'.faults
HasCome t routes moments shelf shelf' net net' (Err faults.OutOfMemory) = Unit {0}

-- a line was written with its status; or a write failed; or memory ran out
abbrev pub IsTold : List ℕ → ℕ → ByteStream → ByteStream → ℕ → Type 0
IsTold line due old new status = ((status ≡ due) × Writes line old new) ⊎ (((status ≡ 5) × CutOff line old new) ⊎ ((status ≡ 6) × WritesLine memory_line old new))

-- how a server's end is told, of so many connections
abbrev pub TellsServed : ℕ → Result (List Served) ServeFault → ByteStream → ByteStream → ℕ → Type 0
TellsServed connections (Ok list) old new status = IsTold (served_line connections) 0 old new status
TellsServed connections (Err faults.Net) old new status = IsTold link_line 8 old new status
TellsServed connections (Err faults.OutOfMemory) old new status = (status ≡ 6) × WritesLine memory_line old new
