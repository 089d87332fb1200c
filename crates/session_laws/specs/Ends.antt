-- The two ends of a session.
use Rattle.std.specs.Prelude.{◌≡◌, ℕ, true, List, None}
use Rattle.rs_wire.specs.declared.words.Side.TheVariants.{Client, Server}
use Rattle.rs_wire.specs.Settings.{IsChecked}
use Rattle.rs_wire.specs.declared.settings.Settings.{Settings}
use Rattle.tape.specs.declared.entry.Entry.{Entry}
use Rattle.session_model.specs.Life.{carrying, closed, is_live, live}
use Rattle.session_model.specs.Frames.{due, came}
use Rattle.session_model.specs.Legal.{Fair, Legal}
use Rattle.session_model.specs.Joined.{Joined}

-- a client under settings g and a server under settings h, each with legal and fair entries
pub record AreEnds (g h : Settings) (C S : List Entry) : Type 0 where
  pub client : g.side ≡ Client
  pub server : h.side ≡ Server
  pub client_checked : IsChecked g
  pub server_checked : IsChecked h
  pub client_legal : Legal g C
  pub server_legal : Legal h S
  pub client_fair : Fair g C
  pub server_fair : Fair h S

-- the two ends of a session, whose bytes crossed
pub record AreJoined (g h : Settings) (C S : List Entry) (pair : ℕ → ℕ) : Type 0 where
  pub ends : AreEnds g h C S
  pub joined : Joined g h C S pair

-- neither end is closed, and on the connection, which is number c at the client and d at the server and live at both, all came that was due, in both directions; a
-- client that resumes has its RESUME_OK
pub record AreDrained (g h : Settings) (C S : List Entry) (c d : ℕ) : Type 0 where
  pub at_client : is_live (live C) c ≡ true
  pub at_server : is_live (live S) d ≡ true
  pub carries : carrying g C ≡ true
  pub client_is_whole : closed g C ≡ None
  pub server_is_whole : closed h S ≡ None
  pub up : came S d ≡ due g C c
  pub down : came C c ≡ due h S d
