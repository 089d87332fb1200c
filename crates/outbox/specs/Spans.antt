-- How the line lies in stretches of own bytes and of spans of the frames that can be read.
use Rattle.std.specs.Prelude.{◌≡◌, ⊤, true, ℕ, ◌+◌, ◌-◌, ◌<◌, ◌≤◌, ◌^◌, List, [], ◌∷◌, ◌++◌, length, take, drop, Option, Some}
use Rattle.std.specs.VecDeque.{deque_len, deque_capacity}
use Rattle.std.specs.List.{AllByRecursion, flat_map}
use Rattle.replay_buffer.specs.Held.{Buffer, IsReadable, framed_from, readable}
use Rattle.outbox.specs.declared.stretch.Stretch.{Stretch}
use Rattle.outbox.specs.declared.spans.Spans.TheInside.{Inside}
use Rattle.outbox.specs.Line.{Line, own_in, run}

-- the framed bytes from a position on
abbrev pub bytes_from : Buffer → ℕ → List ℕ
bytes_from b p = framed_from (readable b) p

-- the held bytes of a stretch
abbrev pub span : Buffer → Stretch → List ℕ
span b s = take s.count (drop s.place.skip (bytes_from b s.place.position))

abbrev pub piece : Buffer → Stretch → List (Option ℕ)
piece b s = run s.own (span b s)

-- the pin keeps what can be read from the position on
pub record IsPinned (b : Buffer) (p : ℕ) : Type 0 where
  pub at : ℕ
  pub pin : b.pin ≡ Some at
  pub boundary : IsReadable b at
  pub low : at ≤ p

-- the span stays readable
pub record IsPart (b : Buffer) (s : Stretch) : Type 0 where
  pub boundary : IsReadable b s.place.position
  pub within : s.place.skip + s.count ≤ length (bytes_from b s.place.position)
  pub pinned : IsPinned b s.place.position

-- and something waits
abbrev pub IsSpan : Buffer → Stretch → Type 0
IsSpan b s = (0 < s.own + s.count) × IsPart b s

abbrev pub AreSpans : Buffer → List Stretch → Type 0
AreSpans b ss = AllByRecursion (IsSpan b) ss

abbrev pub pieces : Buffer → List Stretch → List (Option ℕ)
pieces b ss = flat_map (piece b) ss

abbrev pub line_of : Inside → Line
line_of r = record {
  bytes = pieces r.replay r.stretches.items;
  held = r.replay.held;
  spare = r.replay.spare;
  room = deque_capacity r.stretches - deque_len r.stretches;
}

-- the last stretch reaches the end of the frames
unfoldable pub Reaches : Buffer → List Stretch → Type 0
Reaches b [] = ⊤
Reaches b (s ∷ []) = s.place.skip + s.count ≡ length (bytes_from b s.place.position)
Reaches b (s ∷ t ∷ ss) = Reaches b (t ∷ ss)

pub record IsLine (r : Inside) : Type 0 where
  pub each : AreSpans r.replay r.stretches.items
  pub own : r.own ≡ own_in (line_of r).bytes
  pub all : r.own + r.held ≡ length (line_of r).bytes
  pub reaches : r.reaches ≡ true → Reaches r.replay r.stretches.items

-- the last stretch is longer by `n` held bytes, and reached the end before
pub record IsLonger (b : Buffer) (old new : List Stretch) (n : ℕ) : Type 0 where
  pub front : List Stretch
  pub last : Stretch
  pub before : old ≡ front ++ last ∷ []
  pub after : new ≡ front ++ record last { count = last.count + n } ∷ []
  pub end : last.place.skip + last.count ≡ length (bytes_from b last.place.position)
