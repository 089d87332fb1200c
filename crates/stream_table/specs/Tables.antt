-- The streams of an end that are open, by id.
use Rattle.std.specs.Prelude.{◌≡◌, ◌⊎◌, ◌<◌, ◌≤◌, ◌^◌, ℕ, ◌%◌, ◌==◌, ◌||◌, Bool, true, false, not, nat_eq, nat_lt, if◌then◌else◌, List, [], length, Option, Some, None}
use Rattle.std.specs.Map.{lookup}
use Rattle.rs_wire.specs.declared.words.Side.{Side}
use Rattle.rs_wire.specs.declared.words.Side.TheVariants.{Client, Server}
use Rattle.rs_wire.specs.declared.words.Kind.{Kind}
use Rattle.rs_wire.specs.declared.words.Kind.TheVariants.{Fnf, Channel}
use Rattle.rs_wire.specs.declared.words.Role.{Role}
use Rattle.rs_wire.specs.declared.words.Role.TheVariants.{Requester, Responder}
use Rattle.rs_wire.specs.declared.words.Way.{Way}
use Rattle.rs_wire.specs.declared.words.Way.TheVariants as way
use Rattle.stream_model.specs.declared.stream.Limits.{Limits}
use Rattle.stream_model.specs.declared.stream.State.{State}
use Rattle.stream_model.specs.declared.stream.State.TheVariants.{Above}
use Rattle.stream_model.specs.declared.stream.Stream.{Stream as Kept}
use Rattle.stream_model.specs.Turns.{is_request_way}
use Rattle.stream_model.specs.Streams.{higher}
use Rattle.stream_model.specs.Kept.{is_done, unless_done, FitsCredit}
use Rattle.stream_model.specs.Known.{state_of, id_after}
use Rattle.stream_table.specs.declared.fault.TableFault.{TableFault}
use Rattle.stream_table.specs.declared.fault.TableFault.TheVariants.{TooMany, OutOfMemory}

pub record TableOf : Type 0 where
  -- the limits of the end
  pub limits : Limits
  -- what is kept of each stream that is open, by its id
  pub kept : List (ℕ × Kept)
  -- for how many more there is room
  pub place : ℕ
  -- the highest even and the highest odd id that were used, 0 for none
  pub even : ℕ
  pub odd : ℕ

-- what is kept of the stream of an id, where it is open
abbrev pub kept_at : List (ℕ × Kept) → ℕ → Option Kept
kept_at kept s = lookup (nat_eq s) kept

-- no stream is open, and no id was used
abbrev pub no_streams : Limits → ℕ → TableOf
no_streams limits place = record { limits = limits; kept = []; place = place; even = 0; odd = 0 }

-- ---- ids (RSocket 1.0, "Stream Identifiers")

-- the highest id of the parity of this one
abbrev pub highest_in : TableOf → ℕ → ℕ
highest_in t s = if s % 2 == 1 then t.odd else t.even

-- of two values, the client's or the server's
abbrev pub by_side : {A : Type 0} → Side → A → A → A
by_side Client client server = client
by_side Server client server = server

-- the highest id that an end used: the client's are odd, the server's even
abbrev pub highest_by : TableOf → Side → ℕ
highest_by t side = by_side side t.odd t.even

-- there was no stream of that id yet
abbrev pub is_above_in : TableOf → ℕ → Bool
is_above_in t s = (s == 0) || nat_lt (highest_in t s) s

-- a new stream may have that id: it has 31 bits, and is above all of its parity that were used
abbrev pub IsNew : TableOf → ℕ → Type 0
IsNew t s = (s < 2 ^ 31) × (highest_in t s < s)

-- the id is used from now on
abbrev pub with_id : TableOf → ℕ → TableOf
with_id t s = record t { even = higher 0 s t.even; odd = higher 1 s t.odd }

-- the id of the next request of this end
abbrev pub next_in : TableOf → ℕ
next_in t = by_side t.limits.side (id_after 1 t.odd) (id_after 2 t.even)

-- the same, where the last id is not passed
abbrev pub own_next : TableOf → Option ℕ
own_next t = if nat_lt t.limits.last_id (next_in t) then None else Some (next_in t)

-- the state of an id
abbrev pub state_in : TableOf → ℕ → State
state_in t s = if is_above_in t s then Above else state_of t.limits.side (kept_at t.kept s)

-- ---- one stream

-- the part of a side in a stream: the requester's where it is the opener
abbrev pub role_of : Side → Side → Role
role_of Client Client = Requester
role_of Server Server = Requester
role_of side opener = Responder

-- a stream of which no more is known than its kind: nothing is granted, and its message is still to come
abbrev pub bare : Role → Kind → Kept
bare role kind = record {
  role = role;
  kind = kind;
  initial = 0;
  whole = false;
  request_over = false;
  reply_over = false;
  request = record { granted = 0; used = 0 };
  reply = record { granted = 0; used = 0 };
}

-- a way that is over ends the whole stream: the reply way of a response or a stream, and either way of a fire-and-forget
abbrev pub ends_all : Kind → Way → Bool
ends_all Fnf w = true
ends_all Channel w = false
ends_all kind way.Reply = true
ends_all kind way.Request = false

-- a stream after a way of it is over
abbrev pub finished : Way → Kept → Kept
finished w f = record f {
  request_over = f.request_over || (is_request_way w || ends_all f.kind w);
  reply_over = f.reply_over || (not (is_request_way w) || ends_all f.kind w);
}

-- what is kept after a way is over, of a stream that is open
abbrev pub kept_finished : Way → Option Kept → Option Kept
kept_finished w None = None
kept_finished w (Some f) = unless_done (finished w f)

-- ---- all streams

-- one stream is kept so from now on, or no more, and all others as before
abbrev pub SetsAt : List (ℕ × Kept) → List (ℕ × Kept) → ℕ → Option Kept → Type 0
SetsAt old new s f = (q : ℕ) → kept_at new q ≡ (if nat_eq s q then f else kept_at old q)

-- the limits and the highest ids are the same
abbrev pub SameIds : TableOf → TableOf → Type 0
SameIds old new = new ≡ record old { kept = new.kept; place = new.place }

-- one stream more may be open, and there is room for it
abbrev pub HasRoom : TableOf → Type 0
HasRoom t = (length t.kept < t.limits.max_streams) × (0 < t.place)

-- what holds where no stream can be started, by the fault
abbrev pub MeansFault : TableOf → TableFault → Type 0
MeansFault t (TooMany n) = (length t.kept ≡ t.limits.max_streams) × (n ≡ t.limits.max_streams)
MeansFault t OutOfMemory = (length t.kept < t.limits.max_streams) × (t.place ≡ 0)

-- what holds of every table
pub record IsTable (t : TableOf) : Type 0 where
  pub even : t.even < 2 ^ 31
  pub odd : t.odd < 2 ^ 31
  pub max_streams : t.limits.max_streams < 2 ^ 32
  pub last_id : t.limits.last_id < 2 ^ 31
  pub even_is : t.even % 2 ≡ 0
  pub odd_is : (t.odd ≡ 0) ⊎ (t.odd % 2 ≡ 1)
  -- as many streams are open as may be, at most
  pub live : length t.kept ≤ t.limits.max_streams
  -- no stream is kept that is over, and none above the highest id of its parity
  pub not_over : (s : ℕ) (f : Kept) → kept_at t.kept s ≡ Some f → is_done f ≡ false
  pub below : (s : ℕ) → highest_in t s < s → kept_at t.kept s ≡ None
  pub credit : (s : ℕ) (f : Kept) → kept_at t.kept s ≡ Some f → FitsCredit f
