-- What a server of the program came to. Entries stand newest first.
use Rattle.std.specs.Prelude.{◌≡◌, ◌⊎◌, ℕ, List, [], ◌∷◌, ◌++◌, Option, Result, Ok, Err, codes, decimal, is_some}
use Rattle.std.specs.List.{AllByRecursion}
use Rattle.rs_wire.specs.Settings.{usual}
use Rattle.rs_wire.specs.declared.settings.Settings.{Settings}
use Rattle.rs_wire.specs.declared.words.Side.TheVariants.{Server}
use Rattle.handlers.specs.Listed.{Listed}
use Rattle.outside.specs.Causes.{Rose}
use Rattle.outside.specs.Links.{and_then_one}
use Rattle.outside.specs.declared.net.Ask.TheVariants as ask
use Rattle.tape.specs.declared.entry.Entry.{Entry}
use Rattle.server.specs.declared.served.Served.{Served}
use Rattle.serve_slots.specs.Tapes.{GotBackAs}
use Rattle.serve.specs.Links.{NetShown}
use Rattle.serve.specs.Whole.{IsLawful, Serves}
use Rattle.serve.specs.declared.plan.ServeFault.{ServeFault}
use Rattle.serve.specs.declared.plan.ServeFault.TheVariants as faults
use Rattle.serve.specs.declared.plan.ServePlan.{ServePlan}
use Rattle.command_line.specs.declared.serve_task.ServeTask.{ServeTask}

-- ---- what is served

-- the settings of the server: the usual ones, with leases and resumption as the words ask for them
abbrev pub settings_for : ServeTask → Settings
settings_for t = record (usual Server) { lease = is_some t.lease; resume = t.resume }

abbrev pub plan_for : ServeTask → ServePlan
plan_for t = record { connections = t.connections; workers = t.workers; ws = t.ws; grant = t.lease }

-- ---- what the net and the shelf are left with

-- the net was asked to listen at the address of the words, once
abbrev pub listened : ServeTask → NetShown → NetShown
listened t net = record net { asked = and_then_one net.asked (ask.Listen t.address) }

-- after that the links that came were served with this result: each is back on the net, and its session's tape on the shelf
abbrev pub ServesFor : ServeTask → List Listed → Option (List ℕ) → List (Option (List Entry)) → List (Option (List Entry)) → NetShown → NetShown → Result (List Served) ServeFault → Type 0
ServesFor t routes moments shelf shelf' net net' result = Serves (settings_for t) (plan_for t) routes moments shelf shelf' (listened t net) net' result

-- the net could not listen, and nothing else was asked of it, or of the shelf
pub record CouldNotListen (t : ServeTask) (shelf shelf' : List (Option (List Entry))) (net net' : NetShown) : Type 0 where
  pub kept : shelf' ≡ shelf
  pub asked : net' ≡ record (listened t net) { faults = net'.faults }

-- the tapes of sessions under these settings, none or some, came back to the shelf
pub record GotLegal (g : Settings) (shelf shelf' : List (Option (List Entry))) : Type 0 where
  pub tapes : List (List Entry)
  pub shelved : GotBackAs tapes shelf shelf'
  pub legal : AllByRecursion (IsLawful g) tapes

-- ---- status by status, with the whole output

abbrev pub served_line : ℕ → List ℕ
served_line connections = codes "served " ++ (decimal connections ++ 10 ∷ [])

abbrev pub link_line : List ℕ
link_line = codes "rsocket: link fault" ++ 10 ∷ []

-- 0: as many links as the words say came, and each was served
pub record AllWereServed (t : ServeTask) (routes : List Listed) (moments : Option (List ℕ)) (shelf shelf' : List (Option (List Entry))) (net net' : NetShown) (out : List ℕ) : Type 0 where
  -- how each was served, in the order in which they came
  pub list : List Served
  pub serves : ServesFor t routes moments shelf shelf' net net' (Ok list)
  pub line : out ≡ served_line t.connections

-- 8: the net failed, as it was to listen or as a link was to come; those that came before were served
pub record NetFailed (t : ServeTask) (routes : List Listed) (moments : Option (List ℕ)) (shelf shelf' : List (Option (List Entry))) (net net' : NetShown) (out : List ℕ) : Type 0 where
  pub fails : CouldNotListen t shelf shelf' net net' ⊎ ServesFor t routes moments shelf shelf' net net' (Err faults.Net)
  pub rose : Rose net.faults net'.faults
  pub line : out ≡ link_line

-- 5: what was to be written when the write failed
abbrev pub WasEnding : ServeTask → List Listed → Option (List ℕ) → List (Option (List Entry)) → List (Option (List Entry)) → NetShown → NetShown → List ℕ → Type 0
WasEnding t routes moments shelf shelf' net net' out = AllWereServed t routes moments shelf shelf' net net' out ⊎ NetFailed t routes moments shelf shelf' net net' out

abbrev pub IsServeStatus : ℕ → Type 0
IsServeStatus status = (status ≡ 0) ⊎ ((status ≡ 5) ⊎ ((status ≡ 6) ⊎ (status ≡ 8)))
