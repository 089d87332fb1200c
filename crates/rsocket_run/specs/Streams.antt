-- What is read of the input.
use Rattle.std.specs.Prelude.{◌≡◌, ◌≢◌, ℕ, ◌≤◌, ◌⊎◌, List, [], ◌++◌, length, Option, Some}
use Rattle.std.specs.Io.KnownBytes.{prepend_known}
use Rattle.outside.specs.Causes.{one_more}

-- these bytes of the text were read: all, or as many as that
pub record IsReadTo (most : ℕ) (text bytes : List ℕ) (left : Option (List ℕ)) : Type 0 where
  pub rest : List ℕ
  pub text_is : text ≡ bytes ++ rest
  pub left_is : left ≡ Some rest
  pub to_the_end : (rest ≡ []) ⊎ (length bytes ≡ most)

-- a prefix of the input was read, of at most that many bytes
pub record HasRead (most : ℕ) (old new : Option (List ℕ)) : Type 0 where
  pub bytes : List ℕ
  pub read : old ≡ prepend_known bytes new
  pub within : length bytes ≤ most

-- the failed reads of a run with this status: none, or on 4 and 5 one
abbrev pub FailedReads : ℕ → ℕ → ℕ → Type 0
FailedReads old new status = ((new ≡ old) × (status ≢ 4)) ⊎ ((new ≡ one_more old) × ((status ≡ 4) ⊎ (status ≡ 5)))
