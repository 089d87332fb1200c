-- The frames that can be read: those that are held no longer, and those that are held.
use Rattle.std.specs.Prelude.{◌≡◌, ℕ, ◌+◌, ◌-◌, ◌≤◌, List, [], ◌++◌, length, take}
use Rattle.std.specs.List.{flat_map}
use Rattle.rs_frame.specs.Framed.{framed}
use Rattle.position.specs.Boundaries.{pos_by, IsBoundaryBy, frames_from_by}
use Rattle.replay_buffer.specs.Held.{Held, Spare}

-- the position where the oldest held frame starts, how many bytes lay before the oldest of all, and the frames before
-- the oldest held one and from it on
pub record Stored : Type 0 where
  pub first : ℕ
  pub base : ℕ
  pub below : List (List ℕ)
  pub held : List (List ℕ)
  pub spare : Spare

abbrev pub nothing_stored : Stored
nothing_stored = record { first = 0; base = 0; below = []; held = []; spare = record { frames = 0; bytes = 0 } }

-- all of them
abbrev pub frames_of : Stored → List (List ℕ)
frames_of s = s.below ++ s.held

-- the position where the oldest of them starts
abbrev pub floor_of : Stored → ℕ
floor_of s = s.first - pos_by length s.below

-- the position where the newest of them ended
abbrev pub end_of : Stored → ℕ
end_of s = s.first + pos_by length s.held

-- the position where the oldest held one ends
abbrev pub first_after : Stored → ℕ
first_after s = s.first + pos_by length (take 1 s.held)

-- one of the frames starts at the position, or the newest one ended there
abbrev pub IsStart : Stored → ℕ → Type 0
IsStart s p = (floor_of s ≤ p) × IsBoundaryBy length (frames_of s) (p - floor_of s)

-- the frames from a position on, each after its length
abbrev pub framed_from : Stored → ℕ → List ℕ
framed_from s p = flat_map framed (frames_from_by length (frames_of s) (p - floor_of s))

-- the same of those that are held
abbrev pub held_from : Stored → ℕ → List ℕ
held_from s p = flat_map framed (frames_from_by length s.held (p - s.first))

-- the held ones of them
abbrev pub held_in : ℕ → Stored → Held
held_in hold s = record { first = s.first; frames = s.held; hold = hold }

-- the same frames can be read, of which fewer may be held
pub record IsPassed (old new : Stored) : Type 0 where
  pub frames : frames_of new ≡ frames_of old
  pub floor : floor_of new ≡ floor_of old
  pub base : new.base ≡ old.base
  pub end : end_of new ≡ end_of old
  pub spare : new.spare ≡ old.spare

-- the frames before the position are forgotten, none of which was held
pub record IsTrimmed (old new : Stored) (low : ℕ) : Type 0 where
  pub same : new ≡ record old { base = new.base; below = new.below }
  pub floor : floor_of new ≡ low
  pub frames : frames_of new ≡ frames_from_by length (frames_of old) (low - floor_of old)
  pub within : pos_by length new.below ≤ new.first
  pub none : low ≡ old.first → new.below ≡ []
