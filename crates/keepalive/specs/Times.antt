-- When a peer counts as dead, and when a KEEPALIVE is due (RSocket 1.0, "Keepalive Frame").
-- Moments and spans are in milliseconds.
use Rattle.std.specs.Prelude.{ℕ, ◌+◌, ◌<◌, ◌≤◌, Bool, ◌&&◌, nat_le, IsTrue, if◌then◌else◌}
use Rattle.keepalive.specs.declared.timer.Due.{Due}
use Rattle.keepalive.specs.declared.timer.Due.TheVariants.{Dead, Send, Nothing}

pub record Times : Type 0 where
  -- the span between two KEEPALIVEs
  pub interval : ℕ
  -- the span without an arrival after which the peer counts as dead
  pub lifetime : ℕ
  -- this end sends KEEPALIVEs
  pub sends : Bool
  -- the moments of the last arrival and of the last sending
  pub arrival : ℕ
  pub sending : ℕ
  -- the last moment that was handed in
  pub moment : ℕ

-- nothing came for a lifetime
abbrev pub IsDead : Times → ℕ → Type 0
IsDead t now = t.arrival + t.lifetime ≤ now

-- the peer is not dead, this end sends KEEPALIVEs, and none was sent for an interval
pub record IsSendDue (t : Times) (now : ℕ) : Type 0 where
  pub not_dead : now < t.arrival + t.lifetime
  pub sends : IsTrue t.sends
  pub interval_passed : t.sending + t.interval ≤ now

-- what is due at the moment
abbrev pub due_at : Times → ℕ → Due
due_at t now =
    if nat_le (t.arrival + t.lifetime) now then Dead t.arrival
    else if t.sends && nat_le (t.sending + t.interval) now then Send
    else Nothing
