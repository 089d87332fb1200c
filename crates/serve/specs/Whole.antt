-- What a server leaves behind. Entries stand newest first.
use Rattle.std.specs.Prelude.{◌≡◌, ℕ, List, length, Option, Result, Ok, Err}
use Rattle.std.specs.List.{AllByRecursion}
use Rattle.rs_wire.specs.declared.settings.Settings.{Settings}
use Rattle.outside.specs.Links.{Shown}
use Rattle.tape.specs.declared.entry.Entry.{Entry}
use Rattle.session_model.specs.Legal.{Fair, Legal}
use Rattle.handlers.specs.Listed.{Listed}
use Rattle.server.specs.declared.served.Served.{Served}
use Rattle.serve_slots.specs.Tapes.{GotBackAs}
use Rattle.serve_laws.specs.Serving.{HasServed}
use Rattle.serve_links.specs.Callers.{lease_of}
use Rattle.serve_told.specs.Answers.{AreAnswered}
use Rattle.serve.specs.Links.{LeavesNet, NetShown}
use Rattle.serve.specs.declared.plan.ServeFault.{ServeFault}
use Rattle.serve.specs.declared.plan.ServeFault.TheVariants as faults
use Rattle.serve.specs.declared.plan.ServePlan.{ServePlan}

-- each answer of a tape's entries is that of a session with these settings, and each event is as a caller has to bring it
abbrev pub IsLawful : Settings → List Entry → Type 0
IsLawful g past = Legal g past × Fair g past

-- Legal tapes were put back to the shelf, and the links to the net.
pub record Leaves (g : Settings) (plan : ServePlan) (shelf shelf' : List (Option (List Entry))) (net net' : NetShown) : Type 0 where
  pub tapes : List (List Entry)
  pub shelved : GotBackAs tapes shelf shelf'
  pub legal : AllByRecursion (IsLawful g) tapes
  pub links : List Shown
  pub leaves : LeavesNet plan.ws plan.connections links net net'

-- What a server does that answers so. Where it answers a list, all links came, and each was served as the list says; and where the net failed those that
-- came are served too. Of memory that ran out it is said alone that what was taken is put back.
abbrev pub Serves : Settings → ServePlan → List Listed → Option (List ℕ) → List (Option (List Entry)) → List (Option (List Entry)) → NetShown → NetShown → Result (List Served) ServeFault → Type 0
Serves g plan routes moments shelf shelf' net net' (Ok list) =
    (links : List Shown) × (has : HasServed g (lease_of plan.grant) plan.ws plan.connections routes moments links shelf shelf' net.asked net'.asked net.back net'.back net.out net'.out)
    × (length links ≡ plan.connections) × (length list ≡ plan.connections) × AreAnswered g moments plan.grant has.tapes has.rows links list
Serves g plan routes moments shelf shelf' net net' (Err faults.Net) =
    (links : List Shown) × HasServed g (lease_of plan.grant) plan.ws plan.connections routes moments links shelf shelf' net.asked net'.asked net.back net'.back net.out net'.out
Serves g plan routes moments shelf shelf' net net' (Err faults.OutOfMemory) = Leaves g plan shelf shelf' net net'
