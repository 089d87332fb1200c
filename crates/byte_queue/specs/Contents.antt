-- What a queue shows.
use Rattle.std.specs.Prelude.{ℕ, List}

-- the bytes left, the first to leave first, and how many more are sure to fit
pub record Contents : Type 0 where
  pub bytes : List ℕ
  pub reserved : ℕ
