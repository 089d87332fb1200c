-- What a reader shows: the bytes that came and were not passed, and how long a frame may be.
use Rattle.std.specs.Prelude.{ℕ, List}

pub record Rest : Type 0 where
  pub bytes : List ℕ
  pub max_in : ℕ
