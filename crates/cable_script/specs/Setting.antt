-- The setting lines of a script: what each says, its one text, and the settings that they make.
use Rattle.std.specs.Prelude.{ℕ, ◌<◌, ◌≤◌, ◌^◌, Bool, true, false, if◌then◌else◌, List, [], ◌∷◌, ◌++◌, length, Option, Some, None, IsTrue, codes}
use Rattle.std.specs.Char.{is_ascii_graphic}
use Rattle.std.specs.List.{list_all}
use Rattle.rs_wire.specs.declared.words.Side.{Side}
use Rattle.rs_wire.specs.declared.words.Side.TheVariants.{Client, Server}
use Rattle.rs_wire.specs.declared.settings.Settings.{Settings}
use Rattle.rs_wire.specs.Settings.{IsIn, usual}
use Rattle.cable_script.specs.declared.TheConstants.{MOST_TOKEN}
use Rattle.cable_script.specs.declared.setting.Setting.{Setting}
use Rattle.cable_script.specs.declared.setting.Setting.TheVariants as setting
use Rattle.cable_script.specs.declared.setting.SettingLine.{SettingLine}
use Rattle.cable_script.specs.declared.setting.SettingLine.TheVariants as lines
use Rattle.cable_script.specs.Spoken.{numbered, side_word}

-- ---- their text

abbrev pub setting_words : Setting → List ℕ
setting_words (setting.Keepalive ms) = numbered (codes "keepalive") ms
setting_words (setting.Lifetime ms) = numbered (codes "lifetime") ms
setting_words (setting.Mtu bytes) = numbered (codes "mtu") bytes
setting_words (setting.Hold bytes) = numbered (codes "hold") bytes
setting_words (setting.Slack bytes) = numbered (codes "slack") bytes
setting_words (setting.MaxIn bytes) = numbered (codes "maxin") bytes
setting_words (setting.MaxPayload bytes) = numbered (codes "maxpayload") bytes
setting_words (setting.MaxStreams count) = numbered (codes "streams") count
setting_words (setting.LastId id) = numbered (codes "lastid") id
setting_words (setting.Top position) = numbered (codes "top") position

-- the end that is set, where it is one
abbrev pub end_words : Option Side → List ℕ
end_words None = []
end_words (Some side) = side_word side ++ 32 ∷ []

abbrev pub setting_text : SettingLine → List ℕ
setting_text (lines.Set side x) = codes "set " ++ (end_words side ++ setting_words x)
setting_text (lines.Resume token) = codes "resume " ++ token
setting_text (lines.Lease true) = codes "lease"
setting_text (lines.Lease false) = codes "lease client"

-- no limit, or the bytes of a frame that has room for more than its header
abbrev pub IsMtu : ℕ → Type 0
IsMtu bytes = (bytes < 2 ^ 24) × (0 < bytes → 64 ≤ bytes)

-- the value is in its range
abbrev pub IsSetting : Setting → Type 0
IsSetting (setting.Keepalive ms) = IsIn 1 ms 2147483647
IsSetting (setting.Lifetime ms) = IsIn 1 ms 2147483647
IsSetting (setting.Mtu bytes) = IsMtu bytes
IsSetting (setting.Hold bytes) = IsIn 0 bytes 1073741824
IsSetting (setting.Slack bytes) = IsIn 0 bytes 2147483647
IsSetting (setting.MaxIn bytes) = IsIn 64 bytes 16777215
IsSetting (setting.MaxPayload bytes) = IsIn 1 bytes 16000000
IsSetting (setting.MaxStreams count) = IsIn 1 count 65536
IsSetting (setting.LastId id) = IsIn 1 id 2147483647
IsSetting (setting.Top position) = IsIn 0 position 9223372036854775807

-- a token: 1 to 64 characters from ! to ~
pub record IsToken (token : List ℕ) : Type 0 where
  pub size : IsIn 1 (length token) MOST_TOKEN
  pub graphic : IsTrue (list_all is_ascii_graphic token)

abbrev pub IsSettingLine : SettingLine → Type 0
IsSettingLine (lines.Set side x) = IsSetting x
IsSettingLine (lines.Resume token) = IsToken token
IsSettingLine (lines.Lease both) = Unit {0}

-- ---- the settings that they make

abbrev pub put : Setting → Settings → Settings
put (setting.Keepalive ms) s = record s { keepalive_ms = ms }
put (setting.Lifetime ms) s = record s { lifetime_ms = ms }
put (setting.Mtu bytes) s = record s { mtu = bytes }
put (setting.Hold bytes) s = record s { hold = bytes }
put (setting.Slack bytes) s = record s { slack = bytes }
put (setting.MaxIn bytes) s = record s { max_in = bytes }
put (setting.MaxPayload bytes) s = record s { max_payload = bytes }
put (setting.MaxStreams count) s = record s { max_streams = count }
put (setting.LastId id) s = record s { last_id = id }
put (setting.Top position) s = record s { top_position = position }

-- a line for this end, or for both
abbrev pub is_for : Option Side → Side → Bool
is_for None side = true
is_for (Some Client) Client = true
is_for (Some Client) Server = false
is_for (Some Server) Client = false
is_for (Some Server) Server = true

-- the token of an end after a line that gives one: a client's is that of the line, and a server's stays its own
abbrev pub token_at : Side → List ℕ → List ℕ → List ℕ
token_at Client token own = token
token_at Server token own = own

-- an end takes part in leases, where both ends do or the client alone
abbrev pub leases : Bool → Side → Bool
leases both Client = true
leases both Server = both

-- the settings of an end after a line
abbrev pub set_by : Side → SettingLine → Settings → Settings
set_by side (lines.Set end x) s = if is_for end side then put x s else s
set_by side (lines.Resume token) s = record s { resume = true; token = token_at side token s.token }
set_by side (lines.Lease both) s = record s { lease = leases both side }

-- the settings of an end after these lines, one after the other, so that a later one replaces an earlier
unfoldable pub set_by_all : Side → List SettingLine → Settings → Settings
set_by_all side [] s = s
set_by_all side (l ∷ lines) s = set_by_all side lines (set_by side l s)

-- the settings that an end begins with: the defaults, changed by these lines
abbrev pub settings_by : Side → List SettingLine → Settings
settings_by side lines = set_by_all side lines (usual side)
