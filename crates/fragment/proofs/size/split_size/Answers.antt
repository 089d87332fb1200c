use Rattle.std.proofs.Common.{◌≡◌, ◌<◌, ◌≤◌, ◌+◌, length, ap, arith}
use Rattle.rs_frame.specs.declared.frame.Frame.{Frame}
use Rattle.position.specs.Boundaries.{pos}
use Rattle.fragment.specs.Splitting.{IsSplittable, carried_by, carried_length, head_length, split_of}
use Rattle.fragment.specs.Views.{message_in}
use Rattle.fragment.proofs.Sizes.{left_shorter, one_cut, last_left}
use Rattle.fragment.proofs.size.split_size.Goals as goal
use Rattle.fragment.proofs.size.split_size.Goals.{then-loop-rest-test+else-length-most, else-loop-rest-test}

pub loop-rest-preserved : goal.loop-rest-preserved
loop-rest-preserved c =
    let mtu = c.args.mtu in
    let head = c.loop-rest.rest.head in
    let m = message_in c.loop-rest.rest.parts in
    let least : 64 ≤ mtu = c.requires.limit.1 (omega arith) in
    let longer : mtu < head + carried_length m = omega arith in
    let shorter = left_shorter mtu head m least c.loop-rest.invariant.head longer in
    let after = c.after-rest.ensures in
    record {
      head = omega arith;
      few = omega (arith, ap carried_length after.parts);
      small = omega arith;
      left = λ f is.
          one_cut mtu f c.loop-rest.size.frames c.loop-rest.size.bytes head m least longer (c.loop-rest.invariant.left f is)
          c.from-most.result c.after-rest.result.head (message_in c.after-rest.result.parts) c.from-most.ensures after.head after.parts;
    }

pub returns : goal.returns
returns c =
    let mtu = c.args.mtu in
    let size = c.loop-rest.size in
    let head = c.loop-rest.rest.head in
    let m = message_in c.loop-rest.rest.parts in
    let fits : 0 < mtu → head + carried_length m ≤ mtu = elim c.loop-rest-test.branch [
      | then-loop-rest-test+else-length-most w ↦ λ some. omega arith
      | else-loop-rest-test w ↦ λ some. omega arith
    ] in
    let all : (f : Frame) → IsSplittable f → carried_by f ≡ c.args.message.now → head_length f ≡ c.args.head
    → (size.frames ≡ length (split_of f mtu)) × (size.bytes + (head + carried_length m) ≡ pos (split_of f mtu)) =
    λ f whole message_is head_is.
    last_left mtu f size.frames size.bytes head m fits
    (c.loop-rest.invariant.left f (record { whole = whole; head_is = head_is; message_is = message_is })) in
    record {
      frames = λ f whole message_is head_is. (all f whole message_is head_is).0;
      bytes = λ f whole message_is head_is. omega (arith, (all f whole message_is head_is).1);
      few = omega arith;
      small = omega arith;
    }
