-- A pin keeps the bytes of frames from a boundary on as they are.
use Rattle.std.proofs.Common.{◌≡◌, ℕ, ◌+◌, ◌-◌, ◌<◌, ◌≤◌, ◌^◌, ◌⊎◌, min, List, [], ◌∷◌, ◌++◌, length, take, drop, refl, sym, ap, subst, ◌∙◌, append_assoc, arith, inl, inr, Option, None, Some, is_some, if◌then◌else◌, append-nil}
use Rattle.std.specs.List.{flat_map}
use Rattle.std.specs.Option.{IfSome}
use Rattle.std.proofs.lemmas.List.{length-append, take_all}
use Rattle.std.proofs.lemmas.List.Concat.{flat_map-append}
use Rattle.std.proofs.lemmas.Bool.{cases_lt}
use Rattle.rs_frame.specs.Framed.{framed}
use Rattle.position.specs.Boundaries.{pos_by, IsBoundaryBy, acked_by, frames_from_by, least_boundary_by}
use Rattle.position.proofs.Boundaries.{acked-boundary, boundary-le, boundary_zero, least-boundary, pos-append}
use Rattle.position.proofs.Growing.{boundary_grown, boundary_rest, from_after, from_grown}
use Rattle.position.proofs.Held.{front_of}
use Rattle.replay_buffer.specs.Held.{Buffer, Held, IsHeldBoundary, IsReadable, floor_of, framed_from, from_acked, from_boundary, from_least, lesser, end_of, readable, with_newest}
use Rattle.replay_buffer.specs.Stored.{Stored}
use Rattle.replay_buffer.proofs.Passed.{starts_held}
use Rattle.replay_buffer.proofs.Stored.{framed_all-push}
use Rattle.outbox.specs.Pins.{Goes, GoesAt}
use Rattle.outbox.specs.Spans.{IsPinned, bytes_from}

-- ---- frames from a later boundary on

-- a boundary that is not before the first one stays one, and the bytes from it on stay
pub record Stays (h g : Held) (p : ℕ) : Type 0 where
  pub boundary : IsHeldBoundary g p
  pub bytes : framed_from g p ≡ framed_from h p

pub stays : (h g : Held) (low p : ℕ) → g ≡ from_boundary h low → IsHeldBoundary h low → low ≤ p → IsHeldBoundary h p → Stays h g p
stays h g low p is start le at =
    let sum : (low - h.first) + (p - low) ≡ p - h.first = omega (arith, start.0) in
    let there = subst (IsBoundaryBy length h.frames) (sym sum) at.1 in
    let same = from_after length h.frames (low - h.first) (p - low) start.1 in
    record {
      boundary = subst (λ k. IsHeldBoundary k p) (sym is) (le, boundary_rest length h.frames (low - h.first) (p - low) start.1 there);
      bytes = ap (λ k. framed_from k p) is ∙ ap (flat_map framed) (sym same ∙ ap (frames_from_by length h.frames) sum);
    }

-- ---- which boundaries can be read

pub can_read : (b : Buffer) (p : ℕ) → pos_by length b.below ≤ b.held.first → IsHeldBoundary b.held p → IsReadable b p
can_read b p within at =
    (starts_held (record { first = b.held.first; base = 0; below = b.below; held = b.held.frames; spare = b.spare }) b.held.hold p within at).1

first_is : (h : Held) → IsHeldBoundary h h.first
first_is h = let none : 0 ≡ h.first - h.first = omega arith in (omega arith, subst (IsBoundaryBy length h.frames) none (boundary_zero length h.frames))

pub can_read_first : (b : Buffer) → pos_by length b.below ≤ b.held.first → IsReadable b b.held.first
can_read_first b within = can_read b b.held.first within (first_is b.held)

-- where the oldest held frame starts once some were forgotten

after : (h : Held) (d : ℕ) → IsBoundaryBy length h.frames d → IsHeldBoundary h (h.first + d)
after h d at = let same : d ≡ (h.first + d) - h.first = omega arith in (omega arith, subst (IsBoundaryBy length h.frames) same at)

pub acked_start : (b : Buffer) (position first : ℕ) → pos_by length b.below ≤ b.held.first → first ≡ (from_acked b.held position).first → IsReadable b first
acked_start b position first within is =
    let d = position - b.held.first in
    can_read b first within (subst (IsHeldBoundary b.held) (sym is) (after b.held (acked_by length b.held.frames d) (acked-boundary length b.held.frames d)))

-- what can be read with a frame more
abbrev pub with_frame : Buffer → List ℕ → Held
with_frame b frame = with_newest (readable b) frame

more_can_read : (b : Buffer) (frame : List ℕ) → readable (record b { held = with_newest b.held frame }) ≡ with_frame b frame
more_can_read b frame = ap (λ fs. record (readable b) { frames = fs }) (sym (append_assoc b.below b.held.frames (frame ∷ [])))

pub least_start : (b : Buffer) (frame : List ℕ) (low first : ℕ) → pos_by length b.below ≤ b.held.first → first ≡ (from_least (with_newest b.held frame) low).first → IsHeldBoundary (with_frame b frame) first
least_start b frame low first within is =
    let all = with_newest b.held frame in
    let d = low - all.first in
    let held = subst (IsHeldBoundary all) (sym is) (after all (least_boundary_by length all.frames d) (least-boundary length all.frames d)) in
    subst (λ h. IsHeldBoundary h first) (more_can_read b frame) (can_read (record b { held = all }) first within held)

-- a frame more comes after all
pub record More (b : Buffer) (frame : List ℕ) (p : ℕ) : Type 0 where
  pub boundary : IsHeldBoundary (with_frame b frame) p
  pub bytes : framed_from (with_frame b frame) p ≡ framed_from (readable b) p ++ framed frame

pub more : (b : Buffer) (frame : List ℕ) (p : ℕ) → IsReadable b p → More b frame p
more b frame p at =
    let fs = (readable b).frames in
    let d = p - floor_of b in
    record {
      boundary = (at.0, boundary_grown length fs (frame ∷ []) d at.1);
      bytes = ap (flat_map framed) (from_grown length fs (frame ∷ []) d (boundary-le length fs d at.1)) ∙ framed_all-push (frames_from_by length fs d) frame;
    }

-- the frames from a boundary on are no more than all that can be read
pub within_all : (b : Buffer) (p : ℕ) → IsReadable b p → length (bytes_from b p) ≤ length (flat_map framed (readable b).frames)
within_all b p at =
    let fs = (readable b).frames in
    let f = front_of length fs (p - floor_of b) at.1 in
    let parts = ap (λ l. length (flat_map framed l)) f.1 in
    let sum = ap length (flat_map-append framed f.0 (frames_from_by length fs (p - floor_of b))) in
    omega (arith, parts, sum, length-append (flat_map framed f.0) (bytes_from b p))

-- the newest frame's end can be read from
pub end_is : (h : Held) → IsHeldBoundary h (end_of h)
end_is h = (omega arith, (length h.frames, ap (pos_by length) (take_all (length h.frames) h.frames (omega arith)) ∙ omega arith))

-- ---- what a change leaves

-- a frame more comes after the bytes from a pinned boundary on
pub record KeepsAt (b new : Buffer) (frame : List ℕ) (p : ℕ) : Type 0 where
  pub boundary : IsReadable new p
  pub pinned : IsPinned new p
  pub bytes : bytes_from new p ≡ bytes_from b p ++ framed frame

-- the least of what can be read is not above the pin
low_of : (b : Buffer) (h : Held) (p first : ℕ) (pin : IsPinned b p) → IsHeldBoundary h pin.at → IsHeldBoundary h first
    → IsHeldBoundary h (lesser b.pin first) × (lesser b.pin first ≤ pin.at)
low_of b h p first pin at start =
    let low : lesser b.pin first ≡ min pin.at first = ap (λ o. lesser o first) pin.pin in
    (subst (IsHeldBoundary h) (sym low) (either at start), omega (arith, low))
  where
    either : IsHeldBoundary h pin.at → IsHeldBoundary h first → IsHeldBoundary h (min pin.at first)
    either at start = elim (cases_lt pin.at first) [
      | inl below ↦ let same : pin.at ≡ min pin.at first = omega arith in subst (IsHeldBoundary h) same at
      | inr over ↦ let same : first ≡ min pin.at first = omega arith in subst (IsHeldBoundary h) same start
    ]

pub kept_goes : (b new : Buffer) (frame : List ℕ) (low : ℕ) → pos_by length b.below ≤ b.held.first
    → new.held ≡ from_least (with_newest b.held frame) low → readable new ≡ from_boundary (with_frame b frame) (lesser b.pin new.held.first) → new.pin ≡ b.pin
    → (p : ℕ) → IsReadable b p → IsPinned b p → KeepsAt b new frame p
kept_goes b new frame low within held is same p at pin =
    let h = with_frame b frame in
    let first = new.held.first in
    let start = least_start b frame low first within (ap (λ (k : Held). k.first) held) in
    let m = more b frame p at in
    let n = more b frame pin.at pin.boundary in
    let l = low_of b h p first pin n.boundary start in
    let here = stays h (readable new) (lesser b.pin first) p is l.0 (omega (arith, l.1, pin.low)) m.boundary in
    let there = stays h (readable new) (lesser b.pin first) pin.at is l.0 l.1 n.boundary in
    record {
      boundary = here.boundary;
      pinned = record { at = pin.at; pin = same ∙ pin.pin; boundary = there.boundary; low = pin.low };
      bytes = here.bytes ∙ m.bytes;
    }

pub released_goes : (b new : Buffer) (position : ℕ) → pos_by length b.below ≤ b.held.first
    → new.held ≡ from_acked b.held position → readable new ≡ from_boundary (readable b) (lesser b.pin new.held.first) → new.pin ≡ b.pin
    → Goes b new
released_goes b new position within held is same = λ p at pin.
    let h = readable b in
    let first = new.held.first in
    let start = acked_start b position first within (ap (λ (k : Held). k.first) held) in
    let l = low_of b h p first pin pin.boundary start in
    let here = stays h (readable new) (lesser b.pin first) p is l.0 (omega (arith, l.1, pin.low)) at in
    let there = stays h (readable new) (lesser b.pin first) pin.at is l.0 l.1 pin.boundary in
    record {
      boundary = here.boundary;
      pinned = record { at = pin.at; pin = same ∙ pin.pin; boundary = there.boundary; low = pin.low };
      more = [];
      bytes = here.bytes ∙ sym (append-nil (bytes_from b p));
    }

-- a pin on a boundary that can be read
pub record PinsAt (b new : Buffer) (p : ℕ) : Type 0 where
  pub boundary : IsReadable new p
  pub pinned : IsPinned new p
  pub bytes : bytes_from new p ≡ bytes_from b p

pub pins : (b new : Buffer) (q p : ℕ) → pos_by length b.below ≤ b.held.first → IsReadable b q → readable new ≡ from_boundary (readable b) (lesser (Some q) b.held.first) → new.pin ≡ Some q
    → q ≤ p → IsReadable b p → PinsAt b new p
pins b new q p within start is pin le at =
    let h = readable b in
    let first = b.held.first in
    let low : IsHeldBoundary h (min q first) = elim (cases_lt q first) [
      | inl below ↦ let same : q ≡ min q first = omega arith in subst (IsHeldBoundary h) same start
      | inr over ↦ let same : first ≡ min q first = omega arith in subst (IsHeldBoundary h) same (can_read_first b within)
    ] in
    let here = stays h (readable new) (min q first) p is low (omega arith) at in
    let there = stays h (readable new) (min q first) q is low (omega arith) start in
    record {
      boundary = here.boundary;
      pinned = record { at = q; pin = pin; boundary = there.boundary; low = le };
      bytes = here.bytes;
    }

pub floor_start : (b : Buffer) (floor : ℕ) → floor ≡ floor_of b → IsReadable b floor
floor_start b floor value = subst (IsReadable b) (sym value) (first_is (readable b))

-- where the least that can be read is pinned, all that is pinned stays so
pub floor_goes : (b new : Buffer) (floor : ℕ) → pos_by length b.below ≤ b.held.first → floor ≡ floor_of b → readable new ≡ from_boundary (readable b) (lesser (Some floor) b.held.first)
    → new.pin ≡ Some floor → Goes b new
floor_goes b new floor within value is pin = λ p at pinned.
    let k = pins b new floor p within (floor_start b floor value) is pin (omega (arith, value, at.0)) at in
    record { boundary = k.boundary; pinned = k.pinned; more = []; bytes = k.bytes ∙ sym (append-nil (bytes_from b p)) }

-- a span lies where its bytes do
pub kept_is : (b new : Buffer) (frame : List ℕ) → ((p : ℕ) → IsReadable b p → IsPinned b p → KeepsAt b new frame p) → Goes b new
kept_is b new frame keeps = λ p at pin.
    let k = keeps p at pin in
    record { boundary = k.boundary; pinned = k.pinned; more = framed frame; bytes = k.bytes }

-- what is pinned is not above the end
pub pinned_end : (b : Buffer) (p : ℕ) → pos_by length b.below ≤ b.held.first → IsPinned b p → IsPinned b (end_of b.held)
pinned_end b p within pin = record {
  at = pin.at;
  pin = pin.pin;
  boundary = pin.boundary;
  low = omega (arith, within, pin.boundary.0, boundary-le length (b.below ++ b.held.frames) (pin.at - floor_of b) pin.boundary.1, pos-append length b.below b.held.frames);
}
