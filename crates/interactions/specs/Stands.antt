-- The streams of an end are as what happened on them leaves them.
use Rattle.std.specs.Prelude.{◌≡◌, ◌<◌, ◌≤◌, ◌+◌, ◌++◌, ℕ, if◌then◌else◌, nat_eq, List, Option, Some, None, is_some, length}
use Rattle.rs_wire.specs.declared.delivery.Delivery.{Delivery}
use Rattle.rs_wire.specs.declared.delivery.Job.{Job}
use Rattle.stream_model.specs.Marks.{Mark}
use Rattle.stream_model.specs.Streams.{one_if, higher}
use Rattle.stream_model.specs.Fair.{Fair}
use Rattle.stream_model.specs.Known.{Known, known}
use Rattle.stream_model.specs.declared.stream.Stream.{Stream}
use Rattle.stream_table.specs.Tables.{kept_at}
use Rattle.interactions.specs.Waiting.{waits_at, room_at}
use Rattle.interactions.specs.declared.parts.Parts.{Parts}

-- what the parts show of the streams
abbrev pub known_of : Parts → Known
known_of p = record {
  kept = λ s. kept_at p.table.kept s;
  waits = λ s. waits_at p.waits s;
  jobs = p.jobs.items;
  live = length p.table.kept;
  even = p.table.even;
  odd = p.table.odd;
}

-- how many streams may be open
abbrev pub most_of : Parts → ℕ
most_of p = p.table.limits.max_streams

-- they show what is known after these marks, which the rules of this end let through
pub record Stands (p : Parts) (seen : List Mark) : Type 0 where
  pub fair : Fair (most_of p) seen
  pub known : known_of p ≡ known (most_of p) seen

-- there is room for what comes on a stream
pub record HasRoom (p : Parts) (s : ℕ) : Type 0 where
  pub place : 0 < p.table.place
  pub queue : 0 < p.waits.place
  pub waits : 2 ≤ room_at p.waits s
  pub job : 0 < p.jobs.room

-- there is room for the arrival that comes next, where it was made
abbrev pub IsReady : Parts → Option ℕ → Type 0
IsReady p None = Unit {0}
IsReady p (Some s) = HasRoom p s

-- what holds of the streams of an end with these marks, and with room for an arrival on that stream
pub record IsSound (p : Parts) (seen : List Mark) (ready : Option ℕ) : Type 0 where
  pub stands : Stands p seen
  pub room : IsReady p ready

-- on one stream something is said: what is kept of it and what waits on it are new, and these jobs come
pub record Says (old new : Known) (s : ℕ) (kept' : Option Stream) (waits' : List Delivery) (more : List Job) : Type 0 where
  pub kept : (q : ℕ) → new.kept q ≡ (if nat_eq s q then kept' else old.kept q)
  pub live : new.live + one_if (is_some (old.kept s)) ≡ old.live + one_if (is_some kept')
  pub waits : (q : ℕ) → new.waits q ≡ (if nat_eq s q then waits' else old.waits q)
  pub jobs : new.jobs ≡ old.jobs ++ more
  pub even : new.even ≡ old.even
  pub odd : new.odd ≡ old.odd

-- a request is made: a stream begins, or its id is passed over
pub record Begins (old new : Known) (s : ℕ) (kept' : Option Stream) (waits' : List Delivery) (more : List Job) : Type 0 where
  pub kept : (q : ℕ) → new.kept q ≡ (if nat_eq s q then kept' else old.kept q)
  pub live : new.live ≡ one_if (is_some kept') + old.live
  pub waits : (q : ℕ) → new.waits q ≡ (if nat_eq s q then waits' else old.waits q)
  pub jobs : new.jobs ≡ old.jobs ++ more
  pub even : new.even ≡ higher 0 s old.even
  pub odd : new.odd ≡ higher 1 s old.odd

-- no room is lost
abbrev pub KeepsRoom : Parts → Parts → Type 0
KeepsRoom old new = (s : ℕ) → HasRoom old s → HasRoom new s
