-- Bytes that lie in blocks of one size.
use Rattle.std.specs.Prelude.{◌≡◌, ℕ, ◌+◌, ◌-◌, ◌*◌, ◌≤◌, List, [], ◌++◌, length, drop}
use Rattle.std.specs.List.{AllByRecursion, flat_map}
use Rattle.replay_buffer.specs.declared.block.TheConstants.{BLOCK}
use Rattle.replay_buffer.specs.declared.blocks.TheConstants.{MOST_BLOCKS}
use Rattle.replay_buffer.specs.declared.blocks.Blocks.TheInside.{Inside}

-- the bytes, the oldest first, and how many more there is room for
pub record Bytes : Type 0 where
  pub items : List ℕ
  pub free : ℕ

-- as many bytes as a block is to hold
abbrev pub IsFull : List ℕ → Type 0
IsFull block = length block ≡ BLOCK

-- a block that nothing was written to
abbrev pub IsEmpty : List ℕ → Type 0
IsEmpty block = block ≡ []

-- the bytes of all blocks
abbrev pub written : Inside → List ℕ
written b = flat_map (λ b. b) b.full.items ++ b.last

abbrev pub bytes_of : Inside → Bytes
bytes_of b = record {
  items = drop b.gone (written b);
  free = (BLOCK - length b.last) + BLOCK * length b.spare.items;
}

-- all blocks are full but for the newest, and as many may become full as there are spare ones
pub record IsBlocks (b : Inside) : Type 0 where
  pub full : AllByRecursion IsFull b.full.items
  pub last : length b.last ≤ BLOCK
  pub spare : AllByRecursion IsEmpty b.spare.items
  pub gone : b.gone ≤ BLOCK
  pub within : b.gone ≤ length (written b)
  pub places : length b.full.items + length b.spare.items ≤ b.full.capacity
  pub few : b.full.capacity ≤ MOST_BLOCKS
