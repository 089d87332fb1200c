-- Frames that were drawn, one after the other.
use Rattle.std.proofs.Common.{◌≡◌, ℕ, ◌+◌, ◌-◌, ◌*◌, ◌<◌, ◌≤◌, List, [], ◌∷◌, length, take, drop, refl, sym, ap, ◌∙◌, arith, inl, inr}
use Rattle.std.specs.List.{AllByRecursion, flat_map}
use Rattle.std.proofs.lemmas.List.{drop_at, drop-drop, length-append, length-drop, take_all, take_at}
use Rattle.std.proofs.lemmas.Bool.{cases_lt}
use Rattle.std.proofs.lemmas.List.Concat.{flat_map-cons}
use Rattle.rs_frame.specs.Framed.{framed}
use Rattle.position.specs.Boundaries.{pos_by, frames_from_by}
use Rattle.position.proofs.Boundaries.{boundary-le, from-in}
use Rattle.position.proofs.Growing.{from_after}
use Rattle.replay_buffer.specs.Marked.{IsAt}
use Rattle.replay_buffer.specs.declared.marks.Spot.{Spot}
use Rattle.replay_buffer.specs.Stored.{Stored, IsStart, floor_of, framed_from, frames_of, held_from}
use Rattle.replay_buffer.proofs.Boundaries.{from-taken, pos_parts, rising}
use Rattle.replay_buffer.proofs.Found.{framed_here}
use Rattle.replay_buffer.proofs.Stored.{framed_all-drop, length-framed_all}

-- where a walk over the frames has come to
pub record Walks (v : Stored) (from count : ℕ) (s : Spot) (skip : ℕ) : Type 0 where
  pub at : IsAt (floor_of v) v.base (frames_of v) s
  pub later : from ≤ s.position
  pub less : skip ≤ count
  pub rest : drop (count - skip) (framed_from v from) ≡ framed_from v s.position
  pub inside : skip ≤ length (framed_from v s.position)

-- the framed bytes from a start are those of the frames up to another one, and those from there on
pub framed_next : (v : Stored) (i j p q n : ℕ) → AllByRecursion (λ f. 6 ≤ length f) (frames_of v) → i ≤ j → j ≤ length (frames_of v)
    → p ≡ floor_of v + pos_by length (take i (frames_of v)) → q ≡ floor_of v + pos_by length (take j (frames_of v)) → n ≡ (q - p) + 3 * (j - i)
    → (drop n (framed_from v p) ≡ framed_from v q) × (length (framed_from v p) ≡ n + length (framed_from v q))
framed_next v i j p q n longer up le at to is =
    let fs = frames_of v in
    let gs = drop i fs in
    let m = j - i in
    let whole : i + (j - i) ≡ j = omega (arith, up) in
    let here = framed_here v i p longer (omega arith) at in
    let there = framed_here v j q longer le to in
    let parts = ap (λ k. pos_by length (take k fs)) (sym whole) ∙ pos_parts fs i (j - i) in
    let size : n ≡ pos_by length (take (j - i) gs) + 3 * (j - i) = omega (arith, is, at, to, parts) in
    let few : j - i ≤ length gs = omega (arith, le, length-drop i fs) in
    let cut = framed_all-drop gs (j - i) few in
    let rest : drop n (framed_from v p) ≡ framed_from v q =
    (λ k. drop (size k) (here k)) ∙ cut ∙ ap (flat_map framed) (drop-drop (j - i) i fs ∙ ap (λ k. drop k fs) whole) ∙ sym there in
    let all = ap (pos_by length) (take_all (length gs) gs (omega arith)) in
    let inside = rising gs (j - i) (length gs) few in
    (rest, omega (arith, ap length rest, length-drop n (framed_from v p), ap length here, length-framed_all gs, size, all, inside, few))

pub walks : (v : Stored) (from count : ℕ) (s next : Spot) (skip n : ℕ) → AllByRecursion (λ f. 6 ≤ length f) (frames_of v) → Walks v from count s skip → s.index ≤ next.index
    → IsAt (floor_of v) v.base (frames_of v) next → n ≡ (next.position - s.position) + 3 * (next.index - s.index) → n ≤ skip → s.position ≤ next.position
    → Walks v from count next (skip - n)
walks v from count s next skip n longer w up to is fits le =
    let step = framed_next v s.index next.index s.position next.position n longer up to.within w.at.start to.start is in
    let left : (count - skip) + n ≡ count - (skip - n) = omega (arith, w.less) in
    record {
      at = to;
      later = omega (arith, w.later);
      less = omega (arith, w.less);
      rest = ap (λ k. drop k (framed_from v from)) (sym left) ∙ sym (drop-drop n (count - skip) (framed_from v from)) ∙ ap (drop n) w.rest ∙ step.0;
      inside = omega (arith, w.inside, step.1);
    }

-- ---- what is not reached

shorter : (fs : List (List ℕ)) (d : ℕ) → length (flat_map framed (frames_from_by length fs d)) ≤ length (flat_map framed fs)
unfolding frames_from_by
shorter [] d = omega arith
shorter (f ∷ fs) d = elim (cases_lt 0 d) [
  | inl more ↦
      let left = ap (λ l. length (flat_map framed l)) (from-in length f fs d more) in
      let parts = ap length (flat_map-cons framed f fs) ∙ length-append (framed f) (flat_map framed fs) in
      omega (arith, left, parts, shorter fs (d - length f))
  | inr here ↦
      let none : d ≡ 0 = omega arith in
      omega (arith, ap (λ n. length (flat_map framed (frames_from_by length (f ∷ fs) n))) none)
]

-- fewer bytes are left from a later start on
later_shorter : (v : Stored) (a p : ℕ) → IsStart v a → a ≤ p → length (framed_from v p) ≤ length (framed_from v a)
later_shorter v a p start le =
    let fs = frames_of v in
    let sum : p - floor_of v ≡ (a - floor_of v) + (p - a) = omega (arith, start.0, le) in
    let same = ap (frames_from_by length fs) sum ∙ from_after length fs (a - floor_of v) (p - a) start.1 in
    omega (arith, ap (λ l. length (flat_map framed l)) same, shorter (frames_from_by length fs (a - floor_of v)) (p - a))

-- a frame that is not wholly drawn: the starts after it are not reached
pub not_reached : (v : Stored) (from count : ℕ) (s next : Spot) (skip n : ℕ) → AllByRecursion (λ f. 6 ≤ length f) (frames_of v) → Walks v from count s skip
    → IsAt (floor_of v) v.base (frames_of v) next → next.index ≡ s.index + 1 → n ≡ 3 + (next.position - s.position) → skip < n
    → (p : ℕ) → IsStart v p → s.position < p → count + length (framed_from v p) < length (framed_from v from)
not_reached v from count s next skip n longer w to one is drawn p start above =
    let fs = frames_of v in
    let step = framed_next v s.index next.index s.position next.position n longer (omega (arith, one)) to.within w.at.start to.start (omega (arith, is, one)) in
    let beyond : next.position ≤ p = elim (cases_lt s.index start.1.0) [
      | inl more ↦ omega (arith, to.start, start.0, start.1.1, rising fs next.index start.1.0 (omega (arith, one)))
      | inr less ↦ absurd (omega (arith, w.at.start, above, start.0, start.1.1, rising fs start.1.0 s.index less))
    ] in
    let fewer = later_shorter v next.position p (omega (arith, to.start), (next.index, omega (arith, to.start))) beyond in
    let left = ap length w.rest in
    omega (arith, step.1, fewer, left, length-drop (count - skip) (framed_from v from), w.less, drawn)

-- no frame starts after the last one ended
pub all_reached : (v : Stored) (index position p : ℕ) → position ≡ floor_of v + pos_by length (take index (frames_of v)) → length (frames_of v) ≤ index → IsStart v p → p ≤ position
all_reached v index position p at all start =
    let taken = ap (pos_by length) (take_all index (frames_of v) all) in
    omega (arith, at, taken, start.0, boundary-le length (frames_of v) (p - floor_of v) start.1)

-- from a position on that is not before the held frames, these are read
pub from_held : (v : Stored) (p : ℕ) → AllByRecursion (λ f. 6 ≤ length f) (frames_of v) → pos_by length v.below ≤ v.first → v.first ≤ p → framed_from v p ≡ held_from v p
from_held v p longer within le =
    let fs = frames_of v in
    let n = length v.below in
    let taken : take n fs ≡ v.below = take_at v.below v.held n refl in
    let left : frames_from_by length fs (pos_by length v.below) ≡ v.held =
    ap (λ l. frames_from_by length fs (pos_by length l)) (sym taken) ∙ from-taken fs n longer (omega (arith, length-append v.below v.held)) ∙ drop_at v.below v.held n refl in
    let sum : p - floor_of v ≡ pos_by length v.below + (p - v.first) = omega arith in
    let rest = from_after length fs (pos_by length v.below) (p - v.first) (n, ap (pos_by length) taken) in
    ap (λ d. flat_map framed (frames_from_by length fs d)) sum ∙ ap (flat_map framed) (rest ∙ ap (λ l. frames_from_by length l (p - v.first)) left)
