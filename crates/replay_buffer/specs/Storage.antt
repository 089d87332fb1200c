-- How the frames lie in the fields.
use Rattle.std.specs.Prelude.{◌≡◌, ℕ, ◌+◌, ◌*◌, ◌<◌, ◌≤◌, ◌^◌, List, length, take, drop}
use Rattle.std.specs.List.{AllByRecursion, flat_map}
use Rattle.position.specs.Boundaries.{pos_by}
use Rattle.replay_buffer.specs.Laid.{IsPlain, frames_in, laid}
use Rattle.replay_buffer.specs.Marked.{HasRoom, IsAt, IsMarked}
use Rattle.replay_buffer.specs.Stored.{Stored}
use Rattle.replay_buffer.specs.declared.store.Store.TheInside.{Inside}

-- the frames lie in these bytes
pub record Stores (bytes : List ℕ) (frames : List (List ℕ)) : Type 0 where
  pub bytes_are : bytes ≡ flat_map laid frames
  pub longer : AllByRecursion (λ f. 6 ≤ length f) frames
  pub shorter : AllByRecursion (λ f. length f < 2 ^ 24) frames

abbrev pub all_of : Inside → List (List ℕ)
all_of r = frames_in r.marks.frames r.bytes.items

abbrev pub stored_of : Inside → Stored
stored_of r = record {
  first = r.oldest.position;
  base = r.base;
  below = take r.oldest.index (all_of r);
  held = drop r.oldest.index (all_of r);
  spare = record { frames = r.spare_frames; bytes = r.spare_bytes };
}

-- from this position on, where the first frame starts at `at`, the frames lie as they go onto a stream
abbrev pub IsPlainFrom : ℕ → ℕ → List (List ℕ) → Type 0
IsPlainFrom plain at frames = (k : ℕ) → k ≤ length frames → plain ≤ at + pos_by length (take k frames) → AllByRecursion IsPlain (drop k frames)

pub record IsStored (r : Inside) : Type 0 where
  pub stored : Stores r.bytes.items (all_of r)
  pub marked : IsMarked r.floor r.base (all_of r) r.marks
  pub end : r.end ≡ r.floor + pos_by length (all_of r)
  pub top : r.end < 2 ^ 63
  pub framed : pos_by length (all_of r) + 3 * length (all_of r) < 2 ^ 63
  pub small : 5 * r.base ≤ 6 * r.floor
  pub oldest : IsAt r.floor r.base (all_of r) r.oldest
  pub near : IsAt r.floor r.base (all_of r) r.near
  pub plain : IsPlainFrom r.plain r.floor (all_of r)
  pub plain_end : r.plain ≤ r.end
  pub spare_of_bytes : r.spare_bytes + 4 * r.spare_frames ≤ r.bytes.free
  pub spare_of_frames : HasRoom r.marks r.spare_frames
