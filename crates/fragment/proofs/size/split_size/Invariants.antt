use Rattle.std.proofs.Common.{◌≤◌, ◌+◌, ◌^◌, ◌*◌}
use Rattle.rs_frame.specs.declared.frame.Frame.{Frame}
use Rattle.fragment.specs.Splitting.{carried_length}
use Rattle.fragment.specs.Views.{message_in}
use Rattle.fragment.proofs.Sizes.{IsOf, IsLeft}
use Rattle.fragment.proofs.size.split_size.Given as goal

-- a frame more is a byte less that is left, at least
abbrev pub invariant-loop-rest : goal.invariant-loop-rest
invariant-loop-rest l = record {
  head : l.rest.head ≤ 10;
  few : l.size.frames + (l.rest.head + carried_length (message_in l.rest.parts)) ≤ 16000014;
  small : l.size.bytes ≤ 2 ^ 24 * l.size.frames;
  left : (f : Frame) → IsOf l.head l.message f
      → IsLeft l.mtu f l.size.frames l.size.bytes l.rest.head (message_in l.rest.parts);
}

abbrev pub decreases-loop-rest : goal.decreases-loop-rest
decreases-loop-rest l = l.rest.head + carried_length (message_in l.rest.parts)
