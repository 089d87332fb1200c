-- What is held of the frames made, and how it changes (RSocket 1.0, "Resuming Operation").
use Rattle.std.specs.Prelude.{◌≡◌, ℕ, ◌+◌, ◌-◌, ◌<◌, ◌≤◌, ◌⊎◌, max, min, List, [], ◌∷◌, ◌++◌, length, take, drop, map, Option, Some, None}
use Rattle.std.specs.List.{flat_map}
use Rattle.rs_frame.specs.declared.frame.Frame.{Frame}
use Rattle.rs_frame.specs.Spelling.{canonical}
use Rattle.rs_frame.specs.Framed.{framed}
use Rattle.position.specs.Boundaries.{pos_by, IsBoundaryBy, acked_by, least_boundary_by, frames_from_by, first, frames_from}

-- the bytes of the frames held, the position where the oldest one starts, and how many bytes may be held
pub record Held : Type 0 where
  pub first : ℕ
  pub frames : List (List ℕ)
  pub hold : ℕ

-- how many frames may be kept before more is reserved, and their bytes in sum
pub record Spare : Type 0 where
  pub frames : ℕ
  pub bytes : ℕ

-- what is held; the frames before it that can be read though they are held no longer; the position from which on
-- frames stay readable; and what may be kept without memory
pub record Buffer : Type 0 where
  pub held : Held
  pub below : List (List ℕ)
  pub pin : Option ℕ
  pub spare : Spare

-- this is held of the frames made, where the peer has acknowledged them up to `told`
pub record IsHeldOf (made : List Frame) (told : ℕ) (h : Held) : Type 0 where
  pub first_is : h.first ≡ first made told h.hold
  pub frames_are : h.frames ≡ map canonical (frames_from made h.first)

abbrev pub new_buffer : ℕ → Buffer
new_buffer hold = record {
  held = record { first = 0; frames = []; hold = hold };
  below = [];
  pin = None;
  spare = record { frames = 0; bytes = 0 };
}

-- the position where the newest frame ended
abbrev pub end_of : Held → ℕ
end_of h = h.first + pos_by length h.frames

-- a held frame starts at the position, or the newest one ended there
abbrev pub IsHeldBoundary : Held → ℕ → Type 0
IsHeldBoundary h p = (h.first ≤ p) × IsBoundaryBy length h.frames (p - h.first)

-- the held frames from a position on, each after its length
abbrev pub framed_from : Held → ℕ → List ℕ
framed_from h p = flat_map framed (frames_from_by length h.frames (p - h.first))

-- the position from which on frames can be read
abbrev pub floor_of : Buffer → ℕ
floor_of b = b.held.first - pos_by length b.below

-- the frames that can be read
abbrev pub readable : Buffer → Held
readable b = record { first = floor_of b; frames = b.below ++ b.held.frames; hold = b.held.hold }

-- a frame that can be read starts at the position, or the newest one ended there
abbrev pub IsReadable : Buffer → ℕ → Type 0
IsReadable b p = IsHeldBoundary (readable b) p

-- frames can be read from the position on: it is such a start, or one of a frame that is held
abbrev pub CanReadFrom : Buffer → ℕ → Type 0
CanReadFrom b p = IsReadable b p ⊎ IsHeldBoundary b.held p

-- the lesser of the pin and the position where the oldest held frame starts
abbrev pub lesser : Option ℕ → ℕ → ℕ
lesser None first = first
lesser (Some p) first = min p first

-- the frames are left from this boundary on
abbrev pub from_boundary : Held → ℕ → Held
from_boundary h p = record { first = p; frames = frames_from_by length h.frames (p - h.first); hold = h.hold }

-- a frame more
abbrev pub with_newest : Held → List ℕ → Held
with_newest h frame = record h { frames = h.frames ++ frame ∷ [] }

-- the oldest frames are forgotten, which have `n` bytes
abbrev pub without_first : Held → ℕ → Held
without_first h n = record h { first = h.first + n; frames = frames_from_by length h.frames n }

-- the frames are left from the least boundary on that is at least `low`
abbrev pub from_least : Held → ℕ → Held
from_least h low = without_first h (least_boundary_by length h.frames (low - h.first))

-- the frames are left from the greatest boundary on that is not above the position
abbrev pub from_acked : Held → ℕ → Held
from_acked h position = without_first h (acked_by length h.frames (position - h.first))

-- the oldest frame is forgotten
abbrev pub without_oldest : Held → Held
without_oldest h = record h { first = h.first + pos_by length (take 1 h.frames); frames = drop 1 h.frames }

-- a frame of `n` bytes may be kept
abbrev pub HasSpare : Spare → ℕ → Type 0
HasSpare s n = (0 < s.frames) × (n ≤ s.bytes)

-- what may be kept once it was reserved
abbrev pub spare_for : Spare → ℕ → ℕ → Spare
spare_for s frames bytes = record { frames = max s.frames frames; bytes = max s.bytes bytes }

-- what may be kept once a frame of `n` bytes was
abbrev pub spare_after : Spare → ℕ → Spare
spare_after s n = record { frames = s.frames - 1; bytes = s.bytes - n }
