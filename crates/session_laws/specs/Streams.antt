-- The streams of one end.
use Rattle.std.specs.Prelude.{◌≡◌, ℕ, true, false, List, [], ◌∷◌, Option, Some}
use Rattle.rs_wire.specs.declared.settings.Settings.{Settings}
use Rattle.tape.specs.declared.entry.Entry.{Entry}
use Rattle.stream_model.specs.Marks.{Step, Sent}
use Rattle.stream_model.specs.Turns.{Said, Turn, ends, inbound, over}
use Rattle.stream_model.specs.Streams.{turn}
use Rattle.session_model.specs.Leases.{is_covered}
use Rattle.session_model.specs.Streams.{marks_in, unfinished, words}
use Rattle.session_model.specs.Legal.{Fair, Legal}

-- the stream of an id after these entries, from its admitted request on
abbrev pub stream : Settings → List Entry → ℕ → Option Turn
stream g past s = turn g.max_streams (words g past) s

-- each answer is the one to the entries before it, and whoever brought the events kept their conditions
pub record IsLawful (g : Settings) (past : List Entry) : Type 0 where
  pub legal : Legal g past
  pub fair : Fair g past

-- after these entries, which are lawful, that is the stream of the id
pub record IsStream (g : Settings) (past : List Entry) (s : ℕ) (t : Turn) : Type 0 where
  pub lawful : IsLawful g past
  pub there : stream g past s ≡ Some t

-- an entry after these is an own step on the stream, and ends the way on which this end receives (RSocket 1.0, "CANCEL Frame" and "ERROR Frame")
pub record EndsReceiving (g : Settings) (past : List Entry) (x : Entry) (s : ℕ) (t : Turn) : Type 0 where
  pub there : stream g past s ≡ Some t
  pub receiving : over t.opening t.words (inbound t.opening.role) ≡ false
  pub step : Step
  pub own : marks_in (is_covered g past) (unfinished g past) x.answer x.event ≡ Sent s step ∷ []
  pub last : ends t.opening.kind (inbound t.opening.role) (Said t.opening.role step) ≡ true
