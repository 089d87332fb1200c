-- What the server's carrier keeps: of the connections before, of the one that joins the ends, and of the lines. Entries are the newest first, all other lists the oldest.
use Rattle.std.specs.Prelude.{◌≡◌, ◌<◌, ◌≤◌, ◌+◌, ◌^◌, ℕ, true, List, [], length}
use Rattle.rs_wire.specs.declared.settings.Settings.{Settings}
use Rattle.tape.specs.declared.entry.Entry.{Entry}
use Rattle.tape.specs.declared.event.Event.{Event}
use Rattle.cable_script.specs.declared.line.Line.{Line}
use Rattle.ring.specs.declared.item.Item.{Item}
use Rattle.ring.specs.Parts.{IsEnded, cuts, ends, part}
use Rattle.session_model.specs.Joined.{IsOpening}
use Rattle.session_model.specs.Legal.{Legal}
use Rattle.conn_shared.specs.Members.{Knowledge}
use Rattle.pump.specs.Turns.{IsEmptied}
use Rattle.threaded_model.specs.Handed.{ServerKeeps}
use Rattle.threaded_model.specs.Threaded.{has_cut, moments, told_by}
use Rattle.carriers.specs.Alone.{NeverAsks, OthersAsk}
use Rattle.threaded_server.specs.declared.knows.Knows.{Knows}
use Rattle.threaded_server.specs.declared.knows.Knows.TheVariants as knows
use Rattle.threaded_server.specs.Serving.{HasAccepted, HasRefused, HasServed, KnowsNothing}

-- the limit of its reader is that of the settings, its number that of its pump, and no more of a refusal was pushed than there is
abbrev pub IsSound : Settings → Knows → Type 0
IsSound g (knows.Nothing reader) = (reader.max_in ≡ g.max_in) × (reader.max_in < 2 ^ 24)
IsSound g (knows.Accepted conn b) = (b.max_in ≡ g.max_in) × (b.conn ≡ conn)
IsSound g (knows.Refused bytes pushed) = pushed ≤ length bytes

-- what is kept of the connection after k cuts, which joins the ends
abbrev pub IsHere : Settings → List Entry → (ℕ → ℕ) → ℕ → List Item → List Item → Knows → Type 0
IsHere h S place k sent received (knows.Nothing reader) = KnowsNothing S place k sent received reader.bytes
IsHere h S place k sent received (knows.Accepted conn b) = HasAccepted h S place k sent received b
IsHere h S place k sent received (knows.Refused bytes pushed) = HasRefused h S place k sent received bytes pushed

-- The server's carrier has followed these lines, and so many cuts that it read are not answered.
pub record ServerCarries (h : Settings) (S : List Entry) (number : ℕ) (lines : List Line) (unanswered : ℕ) (knows : Knows) (sent received : List Item) : Type 0 where
  -- after how many cuts an opening is the connection
  pub place : ℕ → ℕ
  pub served : HasServed h S number place (told_by lines) sent received
  pub here : IsHere h S place (cuts sent) sent received knows
  pub both : cuts received ≡ cuts sent + unanswered
  -- nothing was read after the next cut
  pub empty : part (cuts sent + 1) received ≡ []
  -- it has not said that the script is over
  pub open_end : ends sent ≡ 0

-- What it hands back once it has followed these lines, and both ends have said that the script is over: it pushed `down` and read `up`, with n cuts in each.
pub record ServerHands (h : Settings) (S : List Entry) (number : ℕ) (lines : List Line) (knows : Knows) (n : ℕ) (down up : List Item) : Type 0 where
  pub place : ℕ → ℕ
  pub keeps : ServerKeeps h S place down up
  pub ticks : moments S ≡ told_by lines
  pub cut : (d : ℕ) → has_cut S d ≡ true → IsOpening S d × (place d < n)
  pub unasked : NeverAsks number S
  -- the connection after the last cut
  pub here : IsHere h S place n down up knows
  pub cuts_down : cuts down ≡ n
  pub both : cuts up ≡ n
  pub ended : IsEnded down

-- what is kept of the server's carrier, by what its caller knows, where so many cuts are not answered: where the other callers only ask
abbrev pub IsReading : ℕ → List Line → Knowledge → Knows → List Item → List Item → Type 0
IsReading unanswered lines me knows sent received = OthersAsk me → Legal me.of.settings me.front → ServerCarries me.of.settings me.front me.number lines unanswered knows sent received

-- and each is answered
abbrev pub IsCarrying : Knowledge → List Line → Knows → List Item → List Item → Type 0
IsCarrying me lines knows sent received = IsReading 0 lines me knows sent received

-- that goes on, over no line
abbrev pub KeepsOn : ℕ → ℕ → Knowledge → Knowledge → Knows → Knows → List Item → List Item → List Item → List Item → Type 0
KeepsOn u u' was now k k' s s' r r' = (lines : List Line) → IsReading u lines was k s r → IsReading u' lines now k' s' r'

-- nothing stands in front that can come, where the connection was accepted
abbrev pub IsEmptiedOn : Knows → Type 0
IsEmptiedOn (knows.Accepted conn b) = IsEmptied b
IsEmptiedOn _ = Unit {0}

-- any event
abbrev pub IsAny : Event → Type 0
IsAny e = Unit {0}
