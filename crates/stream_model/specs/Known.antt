-- All that the answers of an end depend on of its streams.
use Rattle.std.specs.Prelude.{ℕ, ◌+◌, ◌-◌, ◌%◌, ◌==◌, ◌||◌, ◌&&◌, not, nat_lt, Bool, false, if◌then◌else◌, List, [], ◌∷◌, Option, Some, None}
use Rattle.rs_wire.specs.declared.words.Side.{Side}
use Rattle.rs_wire.specs.declared.words.Side.TheVariants.{Client, Server}
use Rattle.rs_wire.specs.declared.words.Role.{Role}
use Rattle.rs_wire.specs.declared.words.Role.TheVariants.{Requester, Responder}
use Rattle.rs_wire.specs.declared.words.Way.{Way}
use Rattle.rs_wire.specs.declared.words.Way.TheVariants as way
use Rattle.rs_wire.specs.declared.settings.Settings.{Settings}
use Rattle.rs_wire.specs.declared.delivery.Delivery.{Delivery}
use Rattle.rs_wire.specs.declared.delivery.Job.{Job}
use Rattle.credit.specs.declared.Credit.{Credit}
use Rattle.stream_model.specs.declared.stream.Limits.{Limits}
use Rattle.stream_model.specs.declared.stream.State.{State}
use Rattle.stream_model.specs.declared.stream.State.TheVariants.{Above, Over, Live}
use Rattle.stream_model.specs.declared.stream.Stream.{Stream}
use Rattle.stream_model.specs.Marks.{Mark}
use Rattle.stream_model.specs.Turns.{Turn, waiting, is_channel, carries, needs_credit, inbound, other, is_response}
use Rattle.stream_model.specs.Streams.{turn, highest, live, jobs_waiting}
use Rattle.stream_model.specs.Kept.{kept}

-- what is known of the streams of an end
pub record Known : Type 0 where
  -- what is kept of the stream of an id, where it is open
  pub kept : ℕ → Option Stream
  -- what waits on it to be taken
  pub waits : ℕ → List Delivery
  -- the jobs that wait to be taken
  pub jobs : List Job
  -- how many streams are open
  pub live : ℕ
  -- the highest ids, 0 for none
  pub even : ℕ
  pub odd : ℕ

abbrev pub waiting_of : Option Turn → List Delivery
waiting_of None = []
waiting_of (Some t) = waiting t.opening t.words

-- what is known after these marks, the newest first, where so many streams may be open
unfoldable pub known : ℕ → List Mark → Known
known most seen = record {
  kept = λ s. kept (turn most seen s);
  waits = λ s. waiting_of (turn most seen s);
  jobs = jobs_waiting most seen;
  live = live most seen;
  even = highest 0 seen;
  odd = highest 1 seen;
}

-- the limits of an end on its streams
abbrev pub limits_of : Settings → Limits
limits_of g = record { side = g.side; max_streams = g.max_streams; last_id = g.last_id }

-- ---- ids (RSocket 1.0, "Stream Identifiers")

-- the highest id of the parity of this one
abbrev pub highest_at : Known → ℕ → ℕ
highest_at t s = if s % 2 == 1 then t.odd else t.even

-- there was no stream of that id yet
abbrev pub is_above : Known → ℕ → Bool
is_above t s = (s == 0) || nat_lt (highest_at t s) s

-- the client opens odd ids, from 1, the server even ids, from 2
abbrev pub is_own_parity : Side → ℕ → Bool
is_own_parity Client s = s % 2 == 1
is_own_parity Server s = s % 2 == 0

abbrev pub other_side : Side → Side
other_side Client = Server
other_side Server = Client

-- the highest id that an end used, 0 for none
abbrev pub highest_of : Known → Side → ℕ
highest_of t Client = t.odd
highest_of t Server = t.even

-- the first id, and each later one 2 above
abbrev pub id_after : ℕ → ℕ → ℕ
id_after first highest = if highest == 0 then first else highest + 2

-- the id of the next request of an end
abbrev pub next_id : Side → Known → ℕ
next_id Client t = id_after 1 t.odd
next_id Server t = id_after 2 t.even

-- the peer of an end may make a request on that id
abbrev pub is_peers_next : Side → Known → ℕ → Bool
is_peers_next side t s = is_own_parity (other_side side) s && nat_lt (highest_at t s) s

-- ---- one stream

abbrev pub opener_of : Side → Role → Side
opener_of side Requester = side
opener_of side Responder = other_side side

abbrev pub state_of : Side → Option Stream → State
state_of side None = Over
state_of side (Some f) = Live f.kind (opener_of side f.role) f.request_over f.reply_over

-- the state of an id
abbrev pub state : Side → Known → ℕ → State
state side t s = if is_above t s then Above else state_of side (t.kept s)

abbrev pub over_at : Stream → Way → Bool
over_at f way.Request = f.request_over
over_at f way.Reply = f.reply_over

abbrev pub credit_at : Stream → Way → Credit
credit_at f way.Request = f.request
credit_at f way.Reply = f.reply

-- what was granted on a way and what is left, where credit counts its items
abbrev pub credit_on : Option Stream → Way → Option (ℕ × ℕ)
credit_on None w = None
credit_on (Some f) way.Request = if is_channel f.kind then Some (f.request.granted, f.request.granted - f.request.used) else None
credit_on (Some f) way.Reply = if needs_credit f.kind then Some (f.reply.granted, f.reply.granted - f.reply.used) else None

-- the stream is a response that is open
abbrev pub is_open_response : Option Stream → Bool
is_open_response None = false
is_open_response (Some f) = is_response f.kind

-- a message of the peer's is taken in: it is the rest of a request's own, or goes on a way that is not over
abbrev pub hears : Stream → Bool
hears f = (not f.whole || carries f.kind f.whole (inbound f.role) (other f.role)) && not (over_at f (inbound f.role))

abbrev pub hears_on : Option Stream → Bool
hears_on None = false
hears_on (Some f) = hears f

-- ---- what waits

-- what waits first
abbrev pub front_of : {A : Type 0} → List A → Option A
front_of [] = None
front_of (x ∷ xs) = Some x
