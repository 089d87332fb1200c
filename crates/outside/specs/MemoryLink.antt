-- What a link in memory shows.
use Rattle.std.specs.Prelude.{◌≡◌, ℕ, Bool, List, [], Some}
use Rattle.outside.specs.Causes.{one_more}
use Rattle.outside.specs.Links.{Counts, Shown, no_counts}
use Rattle.outside.specs.Memory.{is_to_fail}
use Rattle.outside.specs.declared.mem_link.After.{After}

-- the bytes taken, left and given, what comes after the last, the most bytes of one call, how many
-- calls came, what was counted, and the numbers of the calls that are to fail
pub record MemoryLink : Type 0 where
  pub taken : List ℕ
  pub left : List ℕ
  pub given : List ℕ
  pub after : After
  pub most : ℕ
  pub calls : ℕ
  pub counts : Counts
  pub fails : List ℕ

abbrev pub shown_of : MemoryLink → Shown
shown_of l = record { taken = Some l.taken; given = Some l.given; counts = l.counts }

-- whether the next call is to fail
abbrev pub link_fails_next : MemoryLink → Bool
link_fails_next l = is_to_fail l.fails (one_more l.calls)

-- what the link was made with is the same
pub record IsSetAlike (old new : MemoryLink) : Type 0 where
  pub after : new.after ≡ old.after
  pub most : new.most ≡ old.most
  pub fails : new.fails ≡ old.fails

-- a link with these bytes
abbrev pub fresh : List ℕ → After → ℕ → List ℕ → MemoryLink
fresh bytes after most fails = record {
  taken = [];
  left = bytes;
  given = [];
  after = after;
  most = most;
  calls = 0;
  counts = no_counts;
  fails = fails;
}
