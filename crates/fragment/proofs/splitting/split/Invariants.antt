use Rattle.std.proofs.Common.{◌≡◌, ◌++◌}
use Rattle.rs_frame.specs.Spelling.{IsSpellable, length_of}
use Rattle.fragment.specs.Splitting.{IsSplittable, split_of}
use Rattle.fragment.specs.Views.{frame_in}
use Rattle.fragment.proofs.splitting.split.Given as goal

-- what was cut off, and then the split of the rest, are the split of the whole
abbrev pub invariant-loop-rest : goal.invariant-loop-rest
invariant-loop-rest l = record {
  split : l.frames.items ++ split_of (frame_in l.rest) l.mtu ≡ split_of l.frame l.mtu;
  whole : IsSplittable (frame_in l.rest);
  spellable : IsSpellable (frame_in l.rest);
}

abbrev pub decreases-loop-rest : goal.decreases-loop-rest
decreases-loop-rest l = length_of (frame_in l.rest)
