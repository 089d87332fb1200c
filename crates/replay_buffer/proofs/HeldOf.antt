-- What is held of the frames made, however it came about.
use Rattle.std.proofs.Common.{◌≡◌, ℕ, ◌+◌, ◌-◌, ◌≤◌, ◌↔◌, max, List, [], ◌∷◌, ◌++◌, length, map, refl, sym, ap, subst, ◌∙◌, arith}
use Rattle.std.specs.List.{flat_map}
use Rattle.std.proofs.lemmas.Grind.{common_steps}
use Rattle.std.proofs.lemmas.List.{map-append}
use Rattle.rs_frame.specs.declared.frame.Frame.{Frame}
use Rattle.rs_frame.specs.Framed.{framed, framed_frame, framed_all}
use Rattle.rs_frame.specs.Spelling.{canonical, length_of}
use Rattle.position.specs.Boundaries.{pos_by, acked_by, least_boundary_by, frames_from_by, pos, IsBoundary, acked, least_boundary, first, frames_from}
use Rattle.position.proofs.Boundaries.{pos-push, acked-boundary, acked-at_most, acked-greatest, boundary-le, least-boundary, least-at_least, least-least, least-between, pos-from}
use Rattle.position.proofs.Growing.{acked_after, acked_grown, acked-map, boundary_grown, boundary-map, boundary-mapped, boundary_rest, boundary_whole, from_after, from_grown, from-map, least_after, least_grown, least-map, pos-map}
use Rattle.replay_buffer.specs.Held.{Held, IsHeldBoundary, IsHeldOf, end_of, framed_from, from_acked, from_least, with_newest}
use Rattle.replay_buffer.proofs.Forgotten.{same_held}

length-canonical : (f : Frame) → length (canonical f) ≡ length_of f
length-canonical f = omega arith

pub held_of_none : (frames : List (List ℕ)) (hold : ℕ) → frames ≡ [] → IsHeldOf [] 0 (record { first = 0; frames = frames; hold = hold })
unfolding pos_by least_boundary_by frames_from_by acked_by
held_of_none frames hold none = record { first_is = refl; frames_are = none }

-- the frames held are those made from a boundary on
pub record Follows (made : List Frame) (h : Held) : Type 0 where
  pub start : IsBoundary made h.first
  pub frames : h.frames ≡ map canonical (frames_from made h.first)

pub follows : (made : List Frame) (told : ℕ) (h : Held) → IsHeldOf made told h → Follows made h
follows made told h s = record {
  start = subst (IsBoundary made) (sym s.first_is) (least-boundary length_of made (max (acked made told) (pos made - h.hold)));
  frames = s.frames_are;
}

pub ends : (made : List Frame) (h : Held) → Follows made h → end_of h ≡ pos made
ends made h f =
    let same = pos-map length_of length canonical length-canonical (frames_from made h.first) in
    omega (arith, ap (pos_by length) f.frames, pos-from length_of made h.first f.start)

-- what is left from a position on is what was made from there on
left : (made : List Frame) (h : Held) (n : ℕ) → Follows made h → frames_from_by length h.frames n ≡ map canonical (frames_from made (h.first + n))
left made h n f =
    cc (f.frames, from-map length_of length canonical length-canonical (frames_from made h.first) n, from_after length_of made h.first n f.start)

-- the least boundary that is above a boundary and a position
least-max : (xs : List Frame) (a b : ℕ) → max a b ≤ pos xs → least_boundary xs (max (least_boundary xs a) b) ≡ least_boundary xs (max a b)
least-max xs a b le =
    let low = least-at_least length_of xs (max a b) le in
    let up = least-least length_of xs a (least_boundary xs (max a b)) (least-boundary length_of xs (max a b)) (omega arith) in
    least-between length_of xs (max a b) (max (least_boundary xs a) b) (omega (arith, least-at_least length_of xs a (omega arith))) (omega arith)

acked-max : (xs : List Frame) (a b : ℕ) → acked xs (max a b) ≡ max (acked xs a) (acked xs b)
acked-max xs a b =
    let up = acked-greatest length_of xs (max a b) in
    grind (arith, common_steps, acked-at_most length_of xs, up (acked xs a) (acked-boundary length_of xs a), up (acked xs b) (acked-boundary length_of xs b))

-- a boundary is its own
least-own : (xs : List Frame) (p : ℕ) → IsBoundary xs p → least_boundary xs p ≡ p
least-own xs p is = omega (arith, least-least length_of xs p p is (omega arith), least-at_least length_of xs p (boundary-le length_of xs p is))

pub kept : (made : List Frame) (told : ℕ) (newest : Frame) (frame : List ℕ) (h : Held) → IsHeldOf made told h → told ≤ pos made → frame ≡ canonical newest
    → IsHeldOf (made ++ newest ∷ []) told (from_least (with_newest h frame) (end_of (with_newest h frame) - h.hold))
kept made told newest frame h s up_to is =
    let all = made ++ newest ∷ [] in
    let new = with_newest h frame in
    let low = (end_of new - h.hold) - h.first in
    let before = max (acked made told) (pos made - h.hold) in
    let b = follows made told h s in
    let inside = boundary-le length_of made h.first b.start in
    let f : Follows all new = record {
      start = boundary_grown length_of made (newest ∷ []) h.first b.start;
      frames = cc (b.frames, is, map-append canonical (frames_from made h.first) (newest ∷ []), from_grown length_of made (newest ∷ []) h.first inside);
    } in
    let under = boundary-le length_of made (acked made told) (acked-boundary length_of made told) in
    let more = pos-push length_of made newest in
    let old = least_grown length_of made (newest ∷ []) before (omega arith) in
    let there : h.first + low ≡ max (least_boundary all before) (pos all - h.hold) = omega (arith, ends all new f, s.first_is) in
    let wanted : max before (pos all - h.hold) ≡ max (acked all told) (pos all - h.hold) = omega (arith, acked_grown length_of made (newest ∷ []) told up_to) in
    let gone = ap (λ fs. least_boundary_by length fs low) f.frames ∙ least-map length_of length canonical length-canonical (frames_from all h.first) low in
    let place = least_after length_of all h.first low f.start in
    record {
      first_is = omega (arith, ap (least_boundary all) there, least-max all before (pos all - h.hold) (omega arith), ap (least_boundary all) wanted);
      frames_are = left all new (least_boundary_by length new.frames low) f;
    }

pub released : (made : List Frame) (told position : ℕ) (h : Held) → IsHeldOf made told h → IsHeldOf made (max told position) (from_acked h position)
released made told position h s =
    let f = follows made told h s in
    let low = position - h.first in
    let before = max (acked made told) (pos made - h.hold) in
    let now = acked made (max h.first position) in
    let gone = ap (λ fs. acked_by length fs low) f.frames ∙ acked-map length_of length canonical length-canonical (frames_from made h.first) low in
    let there : h.first + low ≡ max h.first position = omega arith in
    let now_is : h.first + acked_by length h.frames low ≡ now = omega (arith, gone, acked_after length_of made h.first low f.start, ap (acked made) there) in
    let own = acked-greatest length_of made h.first h.first f.start (omega arith) in
    let under = boundary-le length_of made (acked made told) (acked-boundary length_of made told) in
    let over = boundary-le length_of made (acked made position) (acked-boundary length_of made position) in
    let both : now ≡ max (least_boundary made before) (acked made position) =
    omega (arith, acked-max made h.first position, own, acked-at_most length_of made h.first, s.first_is) in
    let wanted : max before (acked made position) ≡ max (acked made (max told position)) (pos made - h.hold) = omega (arith, acked-max made told position) in
    let same = least-own made now (acked-boundary length_of made (max h.first position)) in
    let most = least-max made before (acked made position) (omega arith) in
    record {
      first_is = omega (arith, ap (least_boundary made) both, ap (least_boundary made) wanted);
      frames_are = left made h (acked_by length h.frames low) f;
    }

-- ---- laws

pub boundaries_held : (made : List Frame) (told : ℕ) (h : Held) (p : ℕ) → IsHeldOf made told h → IsHeldBoundary h p ↔ (IsBoundary made p × (h.first ≤ p))
boundaries_held made told h p s =
    let b = follows made told h s in
    let rest = frames_from made h.first in
    let back : h.first ≤ p → h.first + (p - h.first) ≡ p = λ le. omega arith in
    rw s.frames_are (
      λ (from, held).
          let there = boundary-map length_of length canonical length-canonical rest (p - h.first) held in
          (subst (IsBoundary made) (back from) (boundary_whole length_of made h.first (p - h.first) b.start there), from),
      λ (here, from).
          let there = boundary_rest length_of made h.first (p - h.first) b.start (subst (IsBoundary made) (sym (back from)) here) in
          (from, boundary-mapped length_of length canonical length-canonical rest (p - h.first) there),
    )

framed-canonical : (fs : List Frame) → flat_map framed (map canonical fs) ≡ framed_all fs
framed-canonical [] = refl
framed-canonical (f ∷ fs) = ap (λ bytes. framed_frame f ++ bytes) (framed-canonical fs)

pub rest_held : (made : List Frame) (told : ℕ) (h : Held) (p : ℕ) → IsHeldOf made told h → h.first ≤ p → framed_from h p ≡ framed_all (frames_from made p)
rest_held made told h p s from =
    let back : h.first + (p - h.first) ≡ p = omega arith in
    cc (left made h (p - h.first) (follows made told h s), back, framed-canonical (frames_from made p))

pub only_one : (made : List Frame) (told : ℕ) (h g : Held) → IsHeldOf made told h → IsHeldOf made told g → h.hold ≡ g.hold → h ≡ g
only_one made told h g s t same =
    let start : h.first ≡ g.first = s.first_is ∙ ap (first made told) same ∙ sym t.first_is in
    same_held h g start (s.frames_are ∙ ap (λ p. map canonical (frames_from made p)) start ∙ sym t.frames_are) same
