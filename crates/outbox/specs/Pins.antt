-- What a change of the frames that can be read leaves of those that are pinned.
use Rattle.std.specs.Prelude.{◌≡◌, ℕ, List, ◌++◌}
use Rattle.replay_buffer.specs.Held.{Buffer, IsReadable}
use Rattle.outbox.specs.Spans.{IsPinned, bytes_from}

-- the bytes from a pinned boundary on stay, and more may come after them
pub record GoesAt (b new : Buffer) (p : ℕ) : Type 0 where
  pub boundary : IsReadable new p
  pub pinned : IsPinned new p
  pub more : List ℕ
  pub bytes : bytes_from new p ≡ bytes_from b p ++ more

abbrev pub Goes : Buffer → Buffer → Type 0
Goes b new = (p : ℕ) → IsReadable b p → IsPinned b p → GoesAt b new p
