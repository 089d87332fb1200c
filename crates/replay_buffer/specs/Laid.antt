-- How frames lie in the blocks: each after its length, in as few bytes as tell it.
use Rattle.std.specs.Prelude.{◌≡◌, ℕ, zero, suc, ◌+◌, ◌-◌, ◌<◌, ◌≤◌, ◌^◌, if◌then◌else◌, nat_eq, nat_le, nat_lt, List, [], ◌∷◌, ◌++◌, length, take, drop}
use Rattle.std.specs.List.{flat_map}
use Rattle.byteorder.specs.Endian.{big_number}
use Rattle.rs_frame.specs.Framed.{framed}
use Rattle.replay_buffer.specs.declared.laid.TheConstants.{SHORT, LONG}

-- how many bytes stand before a frame of so many bytes
abbrev pub prefix_len : ℕ → ℕ
prefix_len n = if nat_le n SHORT then 1 else (if nat_lt n LONG then 3 else 4)

-- the last of a 1 and the frame's 24-bit length, and then the frame
abbrev pub laid : List ℕ → List ℕ
laid frame = drop (4 - prefix_len (length frame)) (1 ∷ framed frame)

-- so a frame of this length lies as it goes onto a stream
pub record IsPlain (frame : List ℕ) : Type 0 where
  pub longer : SHORT < length frame
  pub shorter : length frame < LONG

-- the position from which on frames lie so, once one more of so many bytes ends at `end`
abbrev pub plain_after : ℕ → ℕ → ℕ → ℕ
plain_after plain end n = if nat_lt SHORT n then (if nat_lt n LONG then plain else end) else end

-- how many bytes frames have as they lie
abbrev pub laid_len : List (List ℕ) → ℕ
laid_len frames = length (flat_map laid frames)

-- the bytes begin with a frame as it lies
pub record Begins (bytes frame : List ℕ) : Type 0 where
  pub rest : List ℕ
  pub is : bytes ≡ laid frame ++ rest
  pub longer : 6 ≤ length frame
  pub shorter : length frame < 2 ^ 24

-- how many bytes stand before the first frame: its first byte tells
abbrev pub prefix_in : List ℕ → ℕ
prefix_in [] = 1
prefix_in (byte ∷ bytes) = if nat_eq byte 0 then 3 else (if nat_eq byte 1 then 4 else 1)

-- and how many bytes this frame has
abbrev pub length_in : List ℕ → ℕ
length_in bytes = if nat_eq (prefix_in bytes) 1 then big_number 1 bytes else big_number 3 (drop (prefix_in bytes - 3) bytes)

-- so many frames, read from their bytes one after the other
abbrev pub frames_in : ℕ → List ℕ → List (List ℕ)
frames_in zero bytes = []
frames_in (suc n) bytes =
    take (length_in bytes) (drop (prefix_in bytes) bytes) ∷ frames_in n (drop (prefix_in bytes + length_in bytes) bytes)
