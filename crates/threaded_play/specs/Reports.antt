-- A script that is played by threads over a shelf of tapes. Entries stand newest first.
use Rattle.std.specs.Prelude.{◌≡◌, ℕ, List, [], ◌∷◌, ◌++◌, Option, is_some}
use Rattle.rs_wire.specs.declared.words.Side.TheVariants.{Client, Server}
use Rattle.tape.specs.declared.entry.Entry.{Entry}
use Rattle.session_core.specs.Seen.{told_by}
use Rattle.session_model.specs.Lists.{IsPrefix}
use Rattle.session_model.specs.Frames.{made, handled}
use Rattle.session_laws.specs.Ends.{AreEnds}
use Rattle.session_laws.specs.Headline.{HasHeadline}
use Rattle.honest_laws.specs.Accusing.{AccusesNobody}
use Rattle.cable_script.specs.declared.line.Line.{Line}
use Rattle.cable_script.specs.Setting.{settings_by}
use Rattle.cable_script.specs.Scripted.{Scripted}
use Rattle.cable.specs.Played.{Sides}
use Rattle.cable.specs.Report.{report_of}
use Rattle.cable.specs.Shelves.{end_of, sides_by}
use Rattle.threaded.specs.Ran.{AreJoined, IsPlayed}

-- the two ends of a run of these lines under these settings: they were played by threads, or line by line; each list is a session's
-- and has the headline, the bytes of the two crossed, what each end has handled is a prefix of what the other made, and neither
-- accuses the other
pub record EndsByThreads (s : Sides) (lines : List Line) (client server : List Entry) : Type 0 where
  pub played : IsPlayed s.client s.server lines client server
  pub ends : AreEnds s.client s.server client server
  pub client_headline : HasHeadline s.client client
  pub server_headline : HasHeadline s.server server
  pub joined : AreJoined s.client s.server client server
  pub server_handled : IsPrefix (handled server) (made s.client client)
  pub client_handled : IsPrefix (handled client) (made s.server server)
  pub client_accuses_nobody : AccusesNobody client
  pub server_accuses_nobody : AccusesNobody server

-- the text is the report of a run of this script by threads, and the shelf has got back the tapes of just this client and this
-- server: of tapes that tell nothing there are the two lines of counts
pub record ReportsByThreads (script : Scripted) (fresh : Option (List Entry)) (shelf shelf' : List (Option (List Entry))) (text : List ℕ) : Type 0 where
  pub client : List Entry
  pub server : List Entry
  pub ends : EndsByThreads (sides_by script.settings) script.lines client server
  pub put_back : shelf' ≡ shelf ++ told_by (is_some fresh) client ∷ told_by (is_some fresh) server ∷ []
  pub reported : text ≡ report_of (end_of (settings_by Client script.settings) fresh client) (end_of (settings_by Server script.settings) fresh server)
