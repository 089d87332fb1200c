use Rattle.std.proofs.Common.{◌-◌, ◌<◌, ◌≤◌, ℕ, List, length}
use Rattle.replay_buffer.specs.Marked.{mark_at}
use Rattle.replay_buffer.specs.declared.rings.Mark.{Mark}
use Rattle.replay_buffer.proofs.rings.count_up_to.Given as goal

-- the marks from `high` on start after the position looked for
pub record IsBelow (marks : List Mark) (position low high : ℕ) : Type 0 where
  pub order : low ≤ high
  pub inside : high ≤ length marks
  pub after : (k : ℕ) → high ≤ k → k < length marks → position < (mark_at marks k).position

-- and those before `low` at or before it
pub record IsNarrowed (marks : List Mark) (position low high : ℕ) : Type 0 where
  pub below : IsBelow marks position low high
  pub within : (k : ℕ) → k < low → (mark_at marks k).position ≤ position

abbrev pub invariant-loop-low : goal.invariant-loop-low
invariant-loop-low l = IsBelow l.marks.items l.position l.low l.high

abbrev pub decreases-loop-low : goal.decreases-loop-low
decreases-loop-low l = l.low

abbrev pub invariant-loop-low-2 : goal.invariant-loop-low-2
invariant-loop-low-2 l = IsNarrowed l.marks.items l.position l.low l.high

abbrev pub decreases-loop-low-2 : goal.decreases-loop-low-2
decreases-loop-low-2 l = l.high - l.low
