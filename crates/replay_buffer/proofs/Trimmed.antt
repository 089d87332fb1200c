-- What can be read once the frames are forgotten that no pin keeps.
use Rattle.std.proofs.Common.{◌≡◌, ℕ, ◌-◌, List, [], ◌∷◌, ◌++◌, length, refl, sym, ap, subst, ◌∙◌, append_assoc, inl, inr, Option, Some, None}
use Rattle.std.specs.Option.{IfSome}
use Rattle.position.specs.Boundaries.{IsBoundaryBy}
use Rattle.position.proofs.Growing.{boundary_grown}
use Rattle.replay_buffer.specs.Held.{CanReadFrom, Held, Spare, from_boundary, lesser, with_newest}
use Rattle.replay_buffer.specs.Pinned.{IsPinned, buffer_of}
use Rattle.replay_buffer.specs.Stored.{Stored, IsPassed, IsStart, IsTrimmed, floor_of, frames_of, held_in}
use Rattle.replay_buffer.specs.declared.replay.Replay.TheInside.{Inside}
use Rattle.replay_buffer.proofs.Passed.{starts_held}

-- the frames of a store that can be read
abbrev pub all_in : ℕ → Stored → Held
all_in hold v = record { first = floor_of v; frames = frames_of v; hold = hold }

-- what is held stays as it is
pub trimmed-held : (v w : Stored) (low hold : ℕ) → IsTrimmed v w low → held_in hold w ≡ held_in hold v
trimmed-held v w low hold t = ap (held_in hold) t.same

-- what can be read starts there
pub trimmed-from : (v w : Stored) (low hold : ℕ) → IsTrimmed v w low → all_in hold w ≡ from_boundary (all_in hold v) low
trimmed-from v w low hold t = λ i. record { first = t.floor i; frames = t.frames i; hold = hold }

-- what can be read starts where the pin is, or where the oldest held frame starts
pub trimmed-all : (v w : Stored) (pin : Option ℕ) (hold : ℕ) → IsTrimmed v w (lesser pin v.first) → all_in hold w ≡ from_boundary (all_in hold v) (lesser pin w.first)
trimmed-all v w pin hold t =
    let first : v.first ≡ w.first = sym (ap (λ (s : Stored). s.first) t.same) in
    trimmed-from v w _ hold t ∙ ap (λ p. from_boundary (all_in hold v) (lesser pin p)) first

pub trimmed-pinned : (v w : Stored) (pin : Option ℕ) (hold : ℕ) → IsTrimmed v w (lesser pin v.first) → IfSome pin (IsStart w) → IsPinned (record { store = w; hold = hold; pin = pin })
trimmed-pinned v w pin hold t start = record {
  within = t.within;
  floor = t.floor ∙ ap (λ (s : Stored). lesser pin s.first) (sym t.same);
  boundary = start;
}

-- without a pin what can be read is what is held
pub trimmed-none : (v w : Stored) (hold : ℕ) → IsTrimmed v w v.first → buffer_of (record { store = w; hold = hold; pin = None })
    ≡ record { held = held_in hold v; below = []; pin = None; spare = v.spare }
trimmed-none v w hold t = λ i. record { held = held_in hold (t.same i); below = t.none refl i; pin = None; spare = (t.same i).spare }

-- where fewer are held, the same frames start
pub passed-start : (v w : Stored) (p : ℕ) → IsPassed v w → IsStart v p → IsStart w p
passed-start v w p is start = rw (is.frames, is.floor) start

pub passed-pinned : (v w : Stored) (pin : Option ℕ) → IsPassed v w → IfSome pin (IsStart v) → IfSome pin (IsStart w)
passed-pinned v w None is none = tt
passed-pinned v w (Some p) is start = passed-start v w p is start

pub passed-all : (v w : Stored) (hold : ℕ) → IsPassed v w → all_in hold w ≡ all_in hold v
passed-all v w hold is = λ i. record { first = is.floor i; frames = is.frames i; hold = hold }

-- a frame more
abbrev pub appended : Stored → List ℕ → Spare → Stored
appended v frame spare = record v { held = v.held ++ frame ∷ []; spare = spare }

pub appended-all : (v : Stored) (frame : List ℕ) (spare : Spare) (hold : ℕ) → all_in hold (appended v frame spare) ≡ with_newest (all_in hold v) frame
appended-all v frame spare hold = λ i. record { first = floor_of v; frames = sym (append_assoc v.below v.held (frame ∷ [])) i; hold = hold }

pub appended-start : (v : Stored) (frame : List ℕ) (spare : Spare) (p : ℕ) → IsStart v p → IsStart (appended v frame spare) p
appended-start v frame spare p start =
    (start.0, subst (λ fs. IsBoundaryBy length fs (p - floor_of v)) (append_assoc v.below v.held (frame ∷ [])) (boundary_grown length (frames_of v) (frame ∷ []) (p - floor_of v) start.1))

pub appended-pinned : (v : Stored) (frame : List ℕ) (spare : Spare) (pin : Option ℕ) → IfSome pin (IsStart v) → IfSome pin (IsStart (appended v frame spare))
appended-pinned v frame spare None none = tt
appended-pinned v frame spare (Some p) start = appended-start v frame spare p start

-- frames start where they can be read from
pub can_start : (r : Inside) (p : ℕ) → IsPinned r → CanReadFrom (buffer_of r) p → IsStart r.store p
can_start r p pinned (inl start) = start
can_start r p pinned (inr held) = (starts_held r.store r.hold p pinned.within held).1
