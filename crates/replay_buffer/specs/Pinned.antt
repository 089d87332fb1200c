-- What is held, and which frames before it a pin keeps.
use Rattle.std.specs.Prelude.{◌≡◌, ◌≤◌, length, IfSome}
use Rattle.position.specs.Boundaries.{pos_by}
use Rattle.replay_buffer.specs.Held.{Buffer, IsReadable, floor_of, lesser}
use Rattle.replay_buffer.specs.Stored.{held_in}
use Rattle.replay_buffer.specs.declared.replay.Replay.TheInside.{Inside}

abbrev pub buffer_of : Inside → Buffer
buffer_of r = record {
  held = held_in r.hold r.store;
  below = r.store.below;
  pin = r.pin;
  spare = r.store.spare;
}

-- the frames that can be read start at the pin, or where those that are held do
pub record IsPinned (r : Inside) : Type 0 where
  pub within : pos_by length r.store.below ≤ r.store.first
  pub floor : floor_of (buffer_of r) ≡ lesser r.pin r.store.first
  pub boundary : IfSome r.pin (IsReadable (buffer_of r))
