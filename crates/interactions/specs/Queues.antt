-- Items that wait to be taken, in their order, and for how many more there is room.
use Rattle.std.specs.Prelude.{ℕ, List}

pub record QueueOf (A : Type 0) : Type 0 where
  pub items : List A
  pub room : ℕ
