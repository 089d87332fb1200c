-- What waits to be drawn, and what is held.
use Rattle.std.specs.Prelude.{◌≡◌, ℕ, ◌+◌, ◌-◌, ◌<◌, ◌≤◌, ◌^◌, List, [], ◌∷◌, ◌++◌, length}
use Rattle.rs_frame.specs.declared.frame.Frame.{Frame}
use Rattle.rs_frame.specs.Framed.{framed_frame}
use Rattle.rs_frame.specs.Spelling.{canonical}
use Rattle.position.specs.Boundaries.{pos}
use Rattle.replay_buffer.specs.Held.{HasSpare, Held, IsHeldOf, Spare, end_of, from_least, with_newest}

-- how many frames may be kept without memory, and how many of the last bytes that wait lie in one piece
pub record Room : Type 0 where
  pub spare : Spare
  pub loose : ℕ

-- the bytes that wait, and what is held of the frames made
pub record Waiting : Type 0 where
  pub queue : List ℕ
  pub held : Held
  pub room : Room

abbrev pub nothing_waits : ℕ → Waiting
nothing_waits hold = record {
  queue = [];
  held = record { first = 0; frames = []; hold = hold };
  room = record { spare = record { frames = 0; bytes = 0 }; loose = 0 };
}

-- bytes more wait, in one piece with the last ones
abbrev pub with_last : Waiting → List ℕ → Waiting
with_last o bytes = record o { queue = o.queue ++ bytes; room = record o.room { loose = o.room.loose + length bytes } }

-- these bytes wait, of which so many lie in one piece
abbrev pub with_queue : Waiting → List ℕ → ℕ → Waiting
with_queue o bytes loose = record o { queue = bytes; room = record o.room { loose = loose } }

-- frames may be kept
abbrev pub with_spare : Waiting → Spare → Waiting
with_spare o spare = record o { room = record o.room { spare = spare } }

-- the last bytes can be kept as a frame
pub record CanKeepLast (o : Waiting) (n : ℕ) : Type 0 where
  pub spare : HasSpare o.room.spare n
  pub shortest : 6 ≤ n
  pub longest : n < 2 ^ 24
  pub top : end_of o.held + n < 2 ^ 63
  pub loose : n ≤ o.room.loose
  pub within : n ≤ length o.queue

-- the frame was put in line last, and is kept
pub record IsKept (f : Frame) (old new : Waiting) : Type 0 where
  pub queue : new.queue ≡ old.queue ++ framed_frame f
  pub held : new.held ≡ from_least (with_newest old.held (canonical f)) (end_of (with_newest old.held (canonical f)) - old.held.hold)
  pub of_made : (made : List Frame) (told : ℕ) → IsHeldOf made told old.held → told ≤ pos made → IsHeldOf (made ++ f ∷ []) told new.held
