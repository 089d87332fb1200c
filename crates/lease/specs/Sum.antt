-- What a responder granted and admitted over a session (RSocket 1.0, "Lease Semantics").
use Rattle.std.specs.Prelude.{ℕ}

pub record Sum : Type 0 where
  -- the sum of the counts of the leases that were granted
  pub granted : ℕ
  -- how many requests were admitted
  pub admitted : ℕ
