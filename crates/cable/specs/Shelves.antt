-- A script that is played over a shelf of tapes.
use Rattle.std.specs.Prelude.{◌≡◌, ℕ, Bool, List, [], ◌∷◌, ◌++◌, Option, is_some}
use Rattle.rs_wire.specs.declared.settings.Settings.{Settings}
use Rattle.rs_wire.specs.Settings.{IsChecked}
use Rattle.rs_wire.specs.declared.words.Side.TheVariants.{Client, Server}
use Rattle.tape.specs.declared.entry.Entry.{Entry}
use Rattle.session_core.specs.Seen.{Seen, told_by}
use Rattle.session_model.specs.Lists.{IsPrefix}
use Rattle.session_model.specs.Frames.{made, handled}
use Rattle.session_model.specs.Legal.{Fair, Legal}
use Rattle.session_model.specs.Joined.{Joined}
use Rattle.session_laws.specs.Headline.{HasHeadline}
use Rattle.honest_laws.specs.Accusing.{AccusesNobody}
use Rattle.cable_script.specs.declared.line.Line.{Line}
use Rattle.cable.specs.Played.{Played, Sides, pair_of}
use Rattle.cable_script.specs.Setting.{settings_by}
use Rattle.cable_script.specs.declared.setting.SettingLine.{SettingLine}
use Rattle.cable_script.specs.Scripted.{Scripted}
use Rattle.cable.specs.Report.{report_of}

-- an end with these settings and these entries, the newest first, over a tape that tells them where a fresh one tells; its spare
-- is left out
abbrev pub end_of : Settings → Option (List Entry) → List Entry → Seen
end_of g fresh entries = record { settings = g; entries = entries; tells = is_some fresh; spare = 0 }

abbrev pub IsEnd : Settings → Option (List Entry) → List Entry → Seen → Type 0
IsEnd g fresh entries v = v ≡ record (end_of g fresh entries) { spare = v.spare }

-- the settings of the two ends that setting lines make
abbrev pub sides_by : List SettingLine → Sides
sides_by lines = record { client = settings_by Client lines; server = settings_by Server lines }

-- the two ends of a run of these lines under these settings, their entries the newest first: each list is a session's and has the headline,
-- the bytes of the two crossed, what each end has handled is a prefix of what the other made, and neither accuses the other
pub record EndsOf (s : Sides) (lines : List Line) (client server : List Entry) : Type 0 where
  pub played : Played s lines client server
  pub client_side : s.client.side ≡ Client
  pub server_side : s.server.side ≡ Server
  pub client_checked : IsChecked s.client
  pub server_checked : IsChecked s.server
  pub client_legal : Legal s.client client
  pub server_legal : Legal s.server server
  pub client_fair : Fair s.client client
  pub server_fair : Fair s.server server
  pub client_headline : HasHeadline s.client client
  pub server_headline : HasHeadline s.server server
  pub pairs : List ℕ
  pub joined : Joined s.client s.server client server (pair_of pairs)
  pub server_handled : IsPrefix (handled server) (made s.client client)
  pub client_handled : IsPrefix (handled client) (made s.server server)
  pub client_accuses_nobody : AccusesNobody client
  pub server_accuses_nobody : AccusesNobody server

-- the text is the report of a run of this script, and the shelf has got back the tapes of just this client and this
-- server: of tapes that tell nothing there are the two lines of counts
pub record Reports (script : Scripted) (fresh : Option (List Entry)) (shelf shelf' : List (Option (List Entry))) (text : List ℕ) : Type 0 where
  pub client : List Entry
  pub server : List Entry
  pub ends : EndsOf (sides_by script.settings) script.lines client server
  pub put_back : shelf' ≡ shelf ++ told_by (is_some fresh) client ∷ told_by (is_some fresh) server ∷ []
  pub reported : text ≡ report_of (end_of (settings_by Client script.settings) fresh client) (end_of (settings_by Server script.settings) fresh server)

-- a tape of a session under these settings shows this: the entries of the session, or nothing
pub record IsOfSession (g : Settings) (tells : Bool) (tape : Option (List Entry)) : Type 0 where
  pub past : List Entry
  pub legal : Legal g past
  pub fair : Fair g past
  pub told : tape ≡ told_by tells past

-- each of these tapes is of a session under the settings in its place; the last ones may be missing
abbrev pub AreOfSessions : Bool → List Settings → List (Option (List Entry)) → Type 0
AreOfSessions tells settings [] = Unit {0}
AreOfSessions tells [] (tape ∷ tapes) = ⊥
AreOfSessions tells (g ∷ settings) (tape ∷ tapes) = IsOfSession g tells tape × AreOfSessions tells settings tapes

-- a shelf got back the tapes of a client and of a server under these settings, in this order: both, the client's, or none
pub record GotTapes (s : Sides) (fresh : Option (List Entry)) (shelf shelf' : List (Option (List Entry))) : Type 0 where
  pub tapes : List (Option (List Entry))
  pub of_sessions : AreOfSessions (is_some fresh) (s.client ∷ s.server ∷ []) tapes
  pub back : shelf' ≡ shelf ++ tapes
