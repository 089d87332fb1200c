-- What a source or a sink in memory shows.
use Rattle.std.specs.Prelude.{ℕ, Bool, ◌==◌, List, Some}
use Rattle.std.specs.List.{list_any}
use Rattle.outside.specs.Causes.{one_more}
use Rattle.outside.specs.Streams.{ByteStream}

-- the bytes left or written, how many calls came, how many of them failed, and the numbers of those that are to fail
pub record Memory : Type 0 where
  pub content : List ℕ
  pub calls : ℕ
  pub faults : ℕ
  pub fails : List ℕ

-- whether the call of this number, from 1, is to fail
abbrev pub is_to_fail : List ℕ → ℕ → Bool
is_to_fail fails number = list_any (λ n. n == number) fails

-- whether the next call is to fail
abbrev pub next_fails : Memory → Bool
next_fails m = is_to_fail m.fails (one_more m.calls)

-- what it shows of its bytes and faults
abbrev pub shown_of_memory : Memory → ByteStream
shown_of_memory m = record { told = Some m.content; faults = m.faults }
