-- A position, in bytes.
use Rattle.std.specs.Prelude.{ℕ}

pub record Position : Type 0 where
  -- the sum of the lengths so far
  pub bytes : ℕ
  -- the greatest sum
  pub top : ℕ
