-- The script of a large run: items both ways over one session, with cuts between.
use Rattle.std.specs.Prelude.{ℕ, zero, suc, ◌+◌, ◌*◌, ◌/◌, ◌%◌, ◌==◌, nat_lt, ◌&&◌, Bool, false, List, [], ◌∷◌, ◌++◌, Some, None, if◌then◌else◌, codes}
use Rattle.rs_wire.specs.declared.call.Call.TheVariants as call
use Rattle.rs_wire.specs.declared.words.Kind.{Kind}
use Rattle.rs_wire.specs.declared.words.Kind.TheVariants as kind
use Rattle.rs_wire.specs.declared.words.Side.TheVariants.{Client, Server}
use Rattle.cable_script.specs.declared.line.Line.{Line}
use Rattle.cable_script.specs.declared.line.Line.TheVariants as lines
use Rattle.cable_script.specs.declared.setting.SettingLine.{SettingLine}
use Rattle.cable_script.specs.declared.setting.SettingLine.TheVariants as settings
use Rattle.cable_script.specs.Scripted.{Scripted}
use Rattle.load_script.specs.declared.TheConstants.{BLOCK, ITEMS}

-- both ends take part in resumption
abbrev pub load_settings : List SettingLine
load_settings = settings.Resume (codes "load") ∷ []

-- a request of the client without content, which grants the server a million items
abbrev pub request : Kind → Line
request k =
    lines.Ask Client
    (call.Request k (Some 1000000) (record { metadata = None; content = [] }) false)

-- stream 1 is a stream, and stream 3 a channel, on which the server grants a million items too
abbrev pub first_lines : List Line
first_lines =
    request kind.Stream ∷ request kind.Channel ∷ lines.Drain
    ∷ lines.Ask Server (call.Grant 3 1000000) ∷ lines.Drain ∷ []

-- how many bytes item i has: 0 to 63
abbrev pub item_size : ℕ → ℕ → ℕ
item_size seed i = (seed + i) % 64

-- item i: of the server on the stream, and of the client on the channel, in turn
abbrev pub item_line : ℕ → ℕ → Line
item_line seed i =
    if i % 2 == 0 then lines.Many Server 1 1 (item_size seed i)
    else lines.Many Client 3 1 (item_size seed i)

-- how many bytes are carried each way at the end of block k: 1 to 65,536
abbrev pub carried : ℕ → ℕ → ℕ
carried seed k = 1 + (seed + 4099 * k) % 65536

-- some of what waits is carried both ways; then a cut, a new connection, and all the rest is carried
abbrev pub cut_lines : ℕ → ℕ → List Line
cut_lines seed k =
    lines.Up (carried seed k) ∷ lines.Down (carried seed k)
    ∷ lines.Cut ∷ lines.Open ∷ lines.Drain ∷ []

-- a block ends with item i, and more items follow
abbrev pub ends_block : ℕ → Bool
ends_block i = ((i + 1) % BLOCK == 0) && nat_lt (i + 1) ITEMS

-- item i, and a cut after it where a block ends
abbrev pub item_lines : ℕ → ℕ → List Line
item_lines seed i =
    item_line seed i ∷ (if ends_block i then cut_lines seed ((i + 1) / BLOCK) else [])

-- the first n items, with the cuts between them
unfoldable pub first_items : ℕ → ℕ → List Line
first_items seed zero = []
first_items seed (suc i) = first_items seed i ++ item_lines seed i

-- both ends end what they send
abbrev pub last_lines : List Line
last_lines =
    lines.Drain ∷ lines.Ask Server (call.Done 1) ∷ lines.Ask Client (call.Done 3)
    ∷ lines.Ask Server (call.Done 3) ∷ lines.Drain ∷ []

-- the script of a seed
abbrev pub generated : ℕ → Scripted
generated seed =
    record { settings = load_settings; lines = first_lines ++ first_items seed ITEMS ++ last_lines }
