-- Where frames start, and the marks by which they are found.
use Rattle.std.specs.Prelude.{◌≡◌, ℕ, ◌+◌, ◌*◌, ◌<◌, ◌≤◌, ◌^◌, List, length, get_or, take}
use Rattle.position.specs.Boundaries.{pos_by}
use Rattle.replay_buffer.specs.Laid.{laid_len}
use Rattle.replay_buffer.specs.declared.rings.Mark.{Mark}
use Rattle.replay_buffer.specs.declared.marks.Marks.{Marks}
use Rattle.replay_buffer.specs.declared.marks.Spot.{Spot}
use Rattle.replay_buffer.specs.declared.marks.TheConstants.{EVERY}

-- the mark at the index
abbrev pub mark_at : List Mark → ℕ → Mark
mark_at marks i = get_or marks i (record { position = 0; offset = 0 })

-- the frame at the index starts at the position and lies at the offset, where the first one starts at `at` and lies at
-- `base`; or the newest one ended there
pub record IsAt (at base : ℕ) (frames : List (List ℕ)) (s : Spot) : Type 0 where
  pub within : s.index ≤ length frames
  pub start : s.position ≡ at + pos_by length (take s.index frames)
  pub offset : s.offset ≡ base + laid_len (take s.index frames)

-- the marks say where every EVERY-th of the frames starts and lies, from the one at `lead` on
pub record IsMarked (at base : ℕ) (frames : List (List ℕ)) (m : Marks) : Type 0 where
  pub count : m.frames ≡ length frames
  pub starts : (i : ℕ) → i < length m.starts.items → (mark_at m.starts.items i).position ≡ at + pos_by length (take (m.lead + EVERY * i) frames)
  pub offsets : (i : ℕ) → i < length m.starts.items → (mark_at m.starts.items i).offset ≡ base + laid_len (take (m.lead + EVERY * i) frames)
  pub reach : m.frames ≤ m.lead + EVERY * length m.starts.items
  pub tight : m.lead + EVERY * length m.starts.items < m.frames + EVERY

-- the newest frame is not beyond the last mark's, and how many frames there are fits a number
pub record Counts (m : Marks) : Type 0 where
  pub reach : m.frames ≤ m.lead + EVERY * length m.starts.items
  pub top : m.lead + EVERY * length m.starts.items < 2 ^ 62

-- so many frames more can be marked without memory
abbrev pub HasRoom : Marks → ℕ → Type 0
HasRoom m spare = m.frames + spare ≤ m.lead + EVERY * m.starts.capacity
