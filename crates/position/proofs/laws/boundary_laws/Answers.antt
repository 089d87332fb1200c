use Rattle.std.proofs.Common.{ℕ, ◌-◌, ◌≤◌, max, List, arith}
use Rattle.rs_frame.specs.declared.frame.Frame.{Frame}
use Rattle.rs_frame.specs.Spelling.{length_of}
use Rattle.position.specs.Boundaries.{pos, acked, first}
use Rattle.position.proofs.Boundaries.{pos-append, acked-boundary, acked-at_most, acked-greatest, boundary-le, least-boundary, least-at_least, least-least, from-kept, pos-from}
use Rattle.position.proofs.Held.{boundary_test, test_boundary}
use Rattle.position.proofs.laws.boundary_laws.Goals as goal

first_least : (fs : List Frame) (told hold : ℕ) → max (acked fs told) (pos fs - hold) ≤ first fs told hold
first_least fs told hold =
    let below = boundary-le length_of fs (acked fs told) (acked-boundary length_of fs told) in
    least-at_least length_of fs (max (acked fs told) (pos fs - hold)) (omega arith)

pub returns : goal.returns
returns c = record {
  test = λ fs p. (boundary_test length_of fs p, test_boundary length_of fs p);
  sum = pos-append length_of;
  acked_boundary = acked-boundary length_of;
  acked_at_most = acked-at_most length_of;
  acked_greatest = acked-greatest length_of;
  least_boundary = least-boundary length_of;
  least_at_least = least-at_least length_of;
  least_least = least-least length_of;
  first_boundary = λ fs told hold. least-boundary length_of fs (max (acked fs told) (pos fs - hold));
  first_after_acked = λ fs told hold. omega (arith, first_least fs told hold);
  first_within_hold = λ fs told hold. omega (arith, first_least fs told hold);
  frames_from = from-kept length_of;
  rest = pos-from length_of;
}
