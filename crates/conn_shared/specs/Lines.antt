-- The lines under the lock: the settings of a session and whether its tape tells its entries, and then the entries, the oldest first.
use Rattle.std.specs.Prelude.{ℕ, Bool, false, List, [], ◌∷◌, ◌++◌}
use Rattle.rs_wire.specs.declared.words.Side.TheVariants.{Client}
use Rattle.rs_wire.specs.declared.settings.Settings.{Settings}
use Rattle.tape.specs.declared.entry.Entry.{Entry}
use Rattle.session_core.specs.Seen.{Seen}
use Rattle.conn_shared.specs.declared.line.Line.{Line}
use Rattle.conn_shared.specs.declared.line.Line.TheVariants as line

-- the number of the caller of an entry
abbrev pub who_of : Entry → ℕ
who_of e = e.who

-- the number that a line carries: the first line is the first caller's
abbrev pub number_of : Line → ℕ
number_of (line.Began g tells) = 0
number_of (line.Noted e) = e.who

-- the lines of entries, the newest of which is given first
abbrev pub noted : List Entry → List Line
noted [] = []
noted (e ∷ past) = noted past ++ line.Noted e ∷ []

-- the lines of a session with these settings and entries, over a tape that tells them or does not
abbrev pub lines_with : Settings → Bool → List Entry → List Line
lines_with g tells past = line.Began g tells ∷ noted past

abbrev pub lines_of : Seen → List Line
lines_of s = lines_with s.settings s.tells s.entries

-- the entries in lines, the newest first
abbrev pub entries_in : List Line → List Entry
entries_in [] = []
entries_in (line.Began g tells ∷ ls) = entries_in ls
entries_in (line.Noted e ∷ ls) = entries_in ls ++ e ∷ []

-- what is said where there is no session
abbrev pub no_settings : Settings
no_settings = record {
  side = Client;
  resume = false;
  lease = false;
  token = [];
  metadata_mime = [];
  content_mime = [];
  keepalive_ms = 0;
  lifetime_ms = 0;
  hold = 0;
  slack = 0;
  mtu = 0;
  max_in = 0;
  max_payload = 0;
  max_streams = 0;
  last_id = 0;
  top_position = 0;
  session_hold_ms = 0;
}

-- the settings in the first line
abbrev pub settings_in : List Line → Settings
settings_in [] = no_settings
settings_in (line.Began g tells ∷ ls) = g
settings_in (line.Noted e ∷ ls) = no_settings

-- whether the tape tells the entries, as the first line says
abbrev pub tells_in : List Line → Bool
tells_in [] = false
tells_in (line.Began g tells ∷ ls) = tells
tells_in (line.Noted e ∷ ls) = false
