-- What waits to be taken, by stream.
use Rattle.std.specs.Prelude.{ℕ, ◌==◌, if◌then◌else◌, nat_eq, List, [], Option, Some, None}
use Rattle.std.specs.Map.{lookup}
use Rattle.rs_wire.specs.declared.delivery.Delivery.{Delivery}
use Rattle.interactions.specs.Queues.{QueueOf}

pub record WaitsOf : Type 0 where
  -- the queues of the streams on which something waits
  pub queues : List (ℕ × QueueOf Delivery)
  -- for how many queues more there is room
  pub place : ℕ
  -- the empty queue that the next such stream is given
  pub fresh : QueueOf Delivery

-- what is in a queue, where there is one
abbrev pub items_of : Option (QueueOf Delivery) → List Delivery
items_of None = []
items_of (Some q) = q.items

-- what waits on a stream
abbrev pub waits_at : WaitsOf → ℕ → List Delivery
waits_at w s = items_of (lookup (nat_eq s) w.queues)

-- for how much a queue has room, or the fresh one where there is a place for it
abbrev pub room_of : ℕ → QueueOf Delivery → Option (QueueOf Delivery) → ℕ
room_of place fresh None = if place == 0 then 0 else fresh.room
room_of place fresh (Some q) = q.room

-- for how many deliveries of a stream there is room
abbrev pub room_at : WaitsOf → ℕ → ℕ
room_at w s = room_of w.place w.fresh (lookup (nat_eq s) w.queues)
