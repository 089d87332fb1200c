-- What the code of a cable keeps, and the two ends that it follows.
use Rattle.std.specs.Prelude.{◌≡◌, ◌≢◌, ◌<◌, ◌≤◌, ℕ, Bool, [], ◌++◌, false, List, length, take, Option, Some, None, IfSome}
use Rattle.rs_wire.specs.declared.words.Side.{Side}
use Rattle.rs_wire.specs.Settings.{IsChecked}
use Rattle.rs_wire.specs.declared.words.Side.TheVariants.{Client, Server}
use Rattle.rs_wire.specs.declared.settings.Settings.{Settings}
use Rattle.rs_frame.specs.declared.frame.Frame.{Frame}
use Rattle.rs_frame.specs.Framed.{framed_all}
use Rattle.tape.specs.declared.entry.Entry.{Entry}
use Rattle.tape.specs.declared.answer.Answer.{Answer}
use Rattle.tape.specs.declared.answer.Answer.TheVariants as answer
use Rattle.session_model.specs.Frames.{drawn, due}
use Rattle.session_model.specs.Legal.{Fair, Legal}
use Rattle.session_model.specs.Joined.{IsOpening, refused}
use Rattle.session_core.specs.Seen.{Seen}
use Rattle.cable.specs.declared.wire.Wire.{Wire}
use Rattle.cable.specs.declared.carrying.Most.{Most}
use Rattle.cable.specs.declared.hearing.Crossing.{Crossing}
use Rattle.cable.specs.declared.hearing.Known.{Known}
use Rattle.cable.specs.declared.hearing.Known.TheVariants as known
use Rattle.cable.specs.Played.{Ends, Gives, Link, Sides, There, arrivals, arrives_up, bytes_down, frames_down, gave, moved}
use Rattle.cable.specs.Hearing.{Crosses, Grew, Nears}

-- what is seen of a cable
pub record Wires : Type 0 where
  pub client : Seen
  pub server : Seen
  pub wire : Option Wire
  -- the last connection that the server accepted and the client alone gave up
  pub dropped : Option ℕ

abbrev pub sides_of : Wires → Sides
sides_of v = record { client = v.client.settings; server = v.server.settings }

-- both ends have the settings as before, and their tapes tell as before
pub record Keeps (v w : Wires) : Type 0 where
  pub client : w.client ≡ record v.client { entries = w.client.entries; spare = w.client.spare }
  pub server : w.server ≡ record v.server { entries = w.server.entries; spare = w.server.spare }

-- what the server knows of a connection, to which the first n bytes of these frames crossed
abbrev pub Knows : There → Known → ℕ → List Frame → Seen → Crossing → Type 0
Knows There.Nowhere known.Nothing n frames v x = Nears n frames v x
Knows (There.Accepted d) (known.Accepted e) n frames v x = (e ≡ d) × Crosses d n frames v x
Knows (There.Refused d m) (known.Refused left) n frames v x = (left.bytes ≡ framed_all (refused v.entries d)) × (left.crossed ≡ m) × (m ≤ length left.bytes)
Knows _ _ n frames v x = ⊥

-- the server of these ends and the connection, which a client under settings g opened
pub record ServerAt (g : Settings) (r : Ends) (t : There) (v : Seen) (w : Wire) : Type 0 where
  pub server : r.server ≡ v.entries
  pub link : r.link ≡ Some (record { client = w.client; there = t })
  pub number : 0 < w.client
  pub knows : Knows t w.known (drawn r.client w.client) (due g r.client w.client) v w.up

-- some server and connection
abbrev pub IsServerAt : Seen → Wire → Type 0
IsServerAt v w = (g : Settings) × (r : Ends) × (t : There) × ServerAt g r t v w

-- all came at the server that can, and whether something did; nothing crossed to the client
pub record Arrives (g : Settings) (r : Ends) (t : There) (v v' : Seen) (w w' : Wire) (some : Bool) : Type 0 where
  pub there : There
  pub at : ServerAt g (arrives_up (record { client = g; server = v.settings }) w.client t r) there v' w'
  pub same : w' ≡ record w { known = w'.known; up = w'.up }
  pub grew : Grew some (arrivals v.entries) (arrivals v'.entries)

-- the server gave what it can, and whether it gave something; nothing crossed to it
pub record Gave (m : Most) (g : Settings) (r : Ends) (t : There) (v v' : Seen) (w w' : Wire) (some : Bool) : Type 0 where
  pub there : There
  pub gives : Gives v.settings m t there v.entries v'.entries
  pub at : ServerAt g (gave w.client there v'.entries r) there v' w'
  pub piece : List ℕ
  pub bytes : take (bytes_down there v'.entries) (framed_all (frames_down v.settings there v'.entries)) ≡ take (bytes_down t v.entries) (framed_all (frames_down v.settings t v.entries)) ++ piece
  pub crossed : w' ≡ record w { known = w'.known; down = record w.down { rest = record w.down.rest { bytes = w.down.rest.bytes ++ piece } } }
  pub grew : Grew some (bytes_down t v.entries) (bytes_down there v'.entries)

-- what crossed to the client on its connection c, of which the server knows this
abbrev pub ClientAt : ℕ → There → Seen → Seen → Crossing → Type 0
ClientAt c t client server x = Crosses c (bytes_down t server.entries) (frames_down server.settings t server.entries) client x

pub record LinkAt (w : Wire) (v : Wires) (r : Ends) : Type 0 where
  pub there : There
  pub up : ServerAt v.client.settings r there v.server w
  pub down : ClientAt w.client there v.client v.server w.down

abbrev pub WireAt : Option Wire → Wires → Ends → Type 0
WireAt None v r = r.link ≡ None
WireAt (Some w) v r = LinkAt w v r

-- the last connection that the client alone gave up, once it gives up one of which the server knows this
abbrev pub dropped_by : Known → Option ℕ → Option ℕ
dropped_by (known.Accepted e) before = Some e
dropped_by _ before = before

-- an opening of the server, and none of the connection that joins the ends
pub record IsLost (S : List Entry) (l : Option Link) (d : ℕ) : Type 0 where
  pub opening : IsOpening S d
  pub apart : (c : ℕ) → l ≢ Some (record { client = c; there = There.Accepted d })

-- an end with settings in their ranges: its answers are right, and whoever brought the events kept their conditions
pub record IsCheckedEnd (side : Side) (v : Seen) : Type 0 where
  pub side_is : v.settings.side ≡ side
  pub checked : IsChecked v.settings
  pub legal : Legal v.settings v.entries
  pub fair : Fair v.settings v.entries

-- the cable follows these ends
pub record At (v : Wires) (r : Ends) : Type 0 where
  pub client_is : IsCheckedEnd Client v.client
  pub server_is : IsCheckedEnd Server v.server
  pub client : r.client ≡ v.client.entries
  pub server : r.server ≡ v.server.entries
  pub wire : WireAt v.wire v r
  pub dropped : r.dropped ≡ v.dropped
  pub lost : IfSome v.dropped (IsLost r.server r.link)

-- it follows some ends
abbrev pub IsAt : Wires → Type 0
IsAt v = (r : Ends) × At v r

-- it follows ends of which this holds
pub record Reaches (v : Wires) (Holds : Ends → Type 0) : Type 0 where
  pub ends : Ends
  pub at : At v ends
  pub holds : Holds ends

-- whether something moved or came between these ends and those
abbrev pub IsMoved : Bool → Ends → Ends → Type 0
IsMoved some r r' = Grew some (moved r) (moved r')

-- the connection that an answer to the client opens, between a client and a server that take frames of so many bytes
abbrev pub wire_of : Answer → ℕ → ℕ → Option Wire
wire_of (answer.Opened c) most here = Some (record { client = c; known = known.Nothing; up = record { rest = record { bytes = []; max_in = most }; over = false }; down = record { rest = record { bytes = []; max_in = here }; over = false } })
wire_of _ most here = None
