-- How what the carriers keep goes on to the end of a script.
use Rattle.std.specs.Prelude.{◌≡◌, ◌++◌, ◌∷◌, List, [], Option}
use Rattle.conn_shared.specs.Members.{Knowledge}
use Rattle.link_model.specs.Carrying.{Between}
use Rattle.cable_script.specs.declared.line.Line.{Line}
use Rattle.ring.specs.declared.item.Item.{Item}
use Rattle.ring.specs.declared.item.Item.TheVariants as item
use Rattle.ring.specs.declared.item.Mark.TheVariants as mark
use Rattle.threaded_client.specs.Carrying.{IsCarrying}
use Rattle.threaded_server.specs.declared.knows.Knows.{Knows}
use Rattle.threaded_server.specs.Carrying.{KeepsOn}

-- what the client's carrier keeps goes on, over no line
abbrev pub NearGoes : Knowledge → Knowledge → Option Between → Option Between → List Item → List Item → List Item → List Item → Type 0
NearGoes was now p p' s s' r r' = (lines : List Line) → IsCarrying was lines p s r → IsCarrying now lines p' s' r'

-- these items are the others, and then the mark of the end
abbrev pub IsClosedBy : List Item → List Item → Type 0
IsClosedBy before items = items ≡ before ++ item.Mark mark.End ∷ []

-- it goes on, and then both ends say that the script is over
pub record NearEnds (was now : Knowledge) (p p' : Option Between) (s s' r r' : List Item) : Type 0 where
  pub sent : List Item
  pub received : List Item
  pub goes : NearGoes was now p p' s sent r received
  pub sent_all : IsClosedBy sent s'
  pub received_all : IsClosedBy received r'

-- the same of the server's carrier
pub record FarEnds (was now : Knowledge) (k k' : Knows) (s s' r r' : List Item) : Type 0 where
  pub sent : List Item
  pub received : List Item
  pub goes : KeepsOn 0 0 was now k k' s sent r received
  pub sent_all : IsClosedBy sent s'
  pub received_all : IsClosedBy received r'
