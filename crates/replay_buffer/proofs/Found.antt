-- Boundaries that are looked up.
use Rattle.std.proofs.Common.{◌≡◌, ℕ, ◌+◌, ◌-◌, ◌*◌, ◌<◌, ◌≤◌, List, length, take, drop, sym, ap, ◌∙◌, arith, inl, inr}
use Rattle.std.specs.List.{AllByRecursion, flat_map}
use Rattle.std.proofs.lemmas.Bool.{cases_lt}
use Rattle.std.proofs.lemmas.List.{length-drop, take-append-drop}
use Rattle.rs_frame.specs.Framed.{framed}
use Rattle.position.specs.Boundaries.{pos_by, frames_from_by, IsBoundaryBy}
use Rattle.position.proofs.Boundaries.{pos-append}
use Rattle.replay_buffer.specs.Marked.{IsAt}
use Rattle.replay_buffer.specs.Stored.{Stored, floor_of, framed_from, frames_of}
use Rattle.replay_buffer.specs.declared.marks.Spot.{Spot}
use Rattle.replay_buffer.proofs.Boundaries.{ends_at, from-taken, rising}
use Rattle.replay_buffer.proofs.Stored.{length-framed_all}

-- each frame after this place starts above the position
abbrev pub IsLast : ℕ → List (List ℕ) → ℕ → ℕ → Type 0
IsLast at fs index position = (k : ℕ) → index < k → k ≤ length fs → position < at + pos_by length (take k fs)

-- so it is where the next one does
pub last_here : (at : ℕ) (fs : List (List ℕ)) (index position : ℕ) → position < at + pos_by length (take (index + 1) fs) → IsLast at fs index position
last_here at fs index position above k more le = omega (arith, above, rising fs (index + 1) k (omega arith))

-- it is not above the position, where the first frame does not start above it
not_above : (at base : ℕ) (fs : List (List ℕ)) (s : Spot) (p : ℕ) → IsAt at base fs s → (0 < s.index → s.position ≤ p) → at ≤ p → s.position ≤ p
unfolding pos_by
not_above at base fs s p here low from = elim (cases_lt 0 s.index) [
  | inl some ↦ low some
  | inr none ↦
      let first : s.index ≡ 0 = omega arith in
      omega (arith, here.start, ap (λ k. pos_by length (take k fs)) first)
]

-- a boundary is the last one that is not above it
pub boundary_is : (at base : ℕ) (fs : List (List ℕ)) (s : Spot) (p : ℕ) → IsAt at base fs s → (0 < s.index → s.position ≤ p) → IsLast at fs s.index p
    → at ≤ p → IsBoundaryBy length fs (p - at) → s.position ≡ p
boundary_is at base fs s p here low last from boundary =
    let e = ends_at (record { first = at; frames = fs; hold = 0 }) p (from, boundary) in
    elim (cases_lt s.index e.0) [
      | inl more ↦ absurd (omega (arith, last e.0 more e.1.within, e.1.is))
      | inr less ↦ omega (arith, not_above at base fs s p here low from, here.start, e.1.is, rising fs e.0 s.index less)
    ]

-- the framed bytes from a place on are those of the frames from there on
pub framed_here : (v : Stored) (k p : ℕ) → AllByRecursion (λ f. 6 ≤ length f) (frames_of v) → k ≤ length (frames_of v) → p ≡ floor_of v + pos_by length (take k (frames_of v))
    → framed_from v p ≡ flat_map framed (drop k (frames_of v))
framed_here v k p longer le at =
    let low : p - floor_of v ≡ pos_by length (take k (frames_of v)) = omega (arith, at) in
    ap (flat_map framed) (ap (frames_from_by length (frames_of v)) low ∙ from-taken (frames_of v) k longer le)

-- how many these are
pub framed_size : (v : Stored) (k p : ℕ) → AllByRecursion (λ f. 6 ≤ length f) (frames_of v) → k ≤ length (frames_of v) → p ≡ floor_of v + pos_by length (take k (frames_of v))
    → length (framed_from v p) + (p + 3 * k) ≡ (floor_of v + pos_by length (frames_of v)) + 3 * length (frames_of v)
framed_size v k p longer le at =
    let fs = frames_of v in
    let sum = ap (pos_by length) (sym (take-append-drop k fs)) ∙ pos-append length (take k fs) (drop k fs) in
    omega (arith, ap length (framed_here v k p longer le at), length-framed_all (drop k fs), length-drop k fs, sum, at, le)
