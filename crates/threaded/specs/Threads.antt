-- What threads get and hand back. Entries stand newest first.
use Rattle.std.specs.Prelude.{◌≡◌, ◌+◌, ◌++◌, ◌∷◌, Bool, false, List, [], Option}
use Rattle.rs_wire.specs.declared.words.Side.{Side}
use Rattle.rs_wire.specs.declared.words.Side.TheVariants as side
use Rattle.conn_lock.specs.Callers.{all_parts}
use Rattle.conn_shared.specs.Members.{Knowledge, SharedId}
use Rattle.link_model.specs.Carrying.{Between}
use Rattle.cable_script.specs.declared.line.Line.{Line}
use Rattle.cable_script.specs.declared.line.Line.TheVariants as line
use Rattle.ring.specs.declared.item.Item.{Item}
use Rattle.threaded_model.specs.Threaded.{calls_of}
use Rattle.threaded_asker.specs.Asking.{HasAsked}
use Rattle.threaded_client.specs.Carrying.{IsCarrying as IsCarryingNear}
use Rattle.threaded_server.specs.declared.knows.Knows.{Knows}
use Rattle.threaded_server.specs.Carrying.{IsCarrying}

-- the two callers of a connection of which nothing happened yet: one carries, and one asks
pub record AreShared (of : SharedId) (carrier asker : Knowledge) : Type 0 where
  pub carrier_of : carrier.of ≡ of
  pub asker_of : asker.of ≡ of
  pub carrier_names : carrier.names ≡ carrier.number ∷ []
  pub asker_names : asker.names ≡ asker.number ∷ []
  pub carrier_new : carrier.front ≡ []
  pub asker_new : asker.front ≡ []
  pub parts : carrier.parts + asker.parts ≡ all_parts

-- a caller of whom only the front and the note have changed
abbrev pub IsOn : Knowledge → Knowledge → Type 0
IsOn was now = now ≡ record was { front = now.front; note = now.note }

-- the calls of one end were made, unless memory ran out
pub record HasMade (side : Side) (lines : List Line) (was now : Knowledge) (want : Bool) : Type 0 where
  pub same : IsOn was now
  pub made : want ≡ false → HasAsked was (calls_of side lines) now.front

-- the client's carrier opened a connection and followed the lines
abbrev pub NearFollows : List Line → Knowledge → Knowledge → Option Between → Option Between → List Item → List Item → List Item → List Item → Type 0
NearFollows lines was now p p' s s' r r' = (before : List Line) → IsCarryingNear was before p s r → IsCarryingNear now (before ++ lines) p' s' r'

-- the server's carrier followed the lines
abbrev pub FarFollows : List Line → Knowledge → Knowledge → Knows → Knows → List Item → List Item → List Item → List Item → Type 0
FarFollows lines was now k k' s s' r r' = (before : List Line) → IsCarrying was before k s r → IsCarrying now (before ++ lines) k' s' r'

-- the two callers of a connection have all its parts
pub record AreParts (of : SharedId) (carrier asker : Knowledge) : Type 0 where
  pub carrier_of : carrier.of ≡ of
  pub asker_of : asker.of ≡ of
  pub all : carrier.parts + asker.parts ≡ all_parts

-- What the threads of the client handed back: who asked made the calls, and the carrier opened a connection and followed the lines.
pub record NearHands (lines : List Line) (of : SharedId) (asker : Knowledge) (want : Bool) (carrier : Knowledge) (p : Option Between) (sent received : List Item) : Type 0 where
  pub first : Knowledge
  pub second : Knowledge
  pub shared : AreShared of first second
  pub carried : IsOn first carrier
  pub made : HasMade side.Client lines second asker want
  pub carrying : IsCarryingNear carrier (line.Open ∷ lines) p sent received

-- the same of the server
pub record FarHands (lines : List Line) (of : SharedId) (asker : Knowledge) (want : Bool) (carrier : Knowledge) (k : Knows) (sent received : List Item) : Type 0 where
  pub first : Knowledge
  pub second : Knowledge
  pub shared : AreShared of first second
  pub carried : IsOn first carrier
  pub made : HasMade side.Server lines second asker want
  pub carrying : IsCarrying carrier lines k sent received
