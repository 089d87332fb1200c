-- What a server's answer says of each link, once the callers of each slot took all others in. Entries stand newest first.
use Rattle.std.specs.Prelude.{◌≡◌, ◌≢◌, ℕ, Bool, List, [], ◌∷◌, ◌++◌, slice_get, Option, Some}
use Rattle.std.specs.List.{AllByRecursion}
use Rattle.rs_wire.specs.declared.settings.Settings.{Settings}
use Rattle.outside.specs.Links.{Shown}
use Rattle.tape.specs.declared.entry.Entry.{Entry}
use Rattle.conn_shared.specs.Members.{Knowledge}
use Rattle.server.specs.Opening.{AreBack}
use Rattle.server.specs.Serving.{Adds, ServedFor}
use Rattle.server.specs.declared.served.Served.{Served}
use Rattle.server.specs.declared.served.Served.TheVariants as served
use Rattle.serve_links.specs.Callers.{IsNewCaller, numbers}

-- each tape went on from what the caller of its slot had seen
abbrev pub GoOnFrom : List Knowledge → List (List Entry) → Type 0
GoOnFrom [] [] = Unit {0}
GoOnFrom (k ∷ callers) (past ∷ tapes) = ((more : List Entry) × (past ≡ more ++ k.front)) × GoOnFrom callers tapes
GoOnFrom _ _ = ⊥

-- Link k was served so. Its callers, one of each slot, had these numbers and had seen nothing; what they had seen when it was left, from which the tapes
-- went on, and the link itself show why.
pub record IsAnswered (g : Settings) (moments : Option (List ℕ)) (grant : Option ℕ) (tapes : List (List Entry)) (k : ℕ) (row : List ℕ) (link : Shown) (s : Served) : Type 0 where
  -- the slot and the number of the opening that was accepted
  pub opened : Option (ℕ × ℕ)
  -- the callers before and after
  pub olds : List Knowledge
  pub news : List Knowledge
  pub new : AllByRecursion IsNewCaller olds
  pub back : AreBack olds news
  pub named : numbers news ≡ row
  pub on : GoOnFrom news tapes
  -- whether its thread helps with the jobs
  pub helps : Bool
  pub added : Adds g moments helps grant k olds news link (s, opened)
  pub cause : ServedFor g moments k olds news link (s, opened)
  pub memory : s ≢ served.OutOfMemory

-- each link was served as its answer says
abbrev pub AreAnswered : Settings → Option (List ℕ) → Option ℕ → List (List Entry) → List (List ℕ) → List Shown → List Served → Type 0
AreAnswered g moments grant tapes rows links answers =
    (k : ℕ) (row : List ℕ) (link : Shown) (s : Served) → slice_get rows k ≡ Some row → slice_get links k ≡ Some link → slice_get answers k ≡ Some s → IsAnswered g moments grant tapes k row link s
