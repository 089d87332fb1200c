-- What the callers of a server's slots tell, once they took all others in. Entries stand newest first.
use Rattle.std.specs.Prelude.{ℕ, List, Option}
use Rattle.rs_wire.specs.declared.settings.Settings.{Settings}
use Rattle.outside.specs.Links.{Shown}
use Rattle.conn_shared.specs.Members.{Knowledge}
use Rattle.handlers.specs.Listed.{Listed}
use Rattle.server.specs.Opening.{fronts}
use Rattle.server.specs.declared.served.Served.{Served}
use Rattle.serve_laws.specs.Links.{AreServedLinks}
use Rattle.serve_laws.specs.Tapes.{AreServersTapes}
use Rattle.serve_links.specs.Callers.{lease_of}
use Rattle.serve_told.specs.Answers.{AreAnswered}

-- What the last caller of each slot has seen is the tape of a server, whose jobs are served, and these links are served over the tapes, as these answers say.
pub record Tells (g : Settings) (moments : Option (List ℕ)) (grant : Option ℕ) (routes : List Listed) (links : List Shown) (answers : List Served) (lasts : List Knowledge) : Type 0 where
  -- the callers of each link
  pub rows : List (List ℕ)
  pub tapes : AreServersTapes g moments (lease_of grant) routes rows (fronts lasts)
  pub linked : AreServedLinks g moments (lease_of grant) (fronts lasts) rows links
  pub answered : AreAnswered g moments grant (fronts lasts) rows links answers
