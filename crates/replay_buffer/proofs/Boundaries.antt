-- Where frames end: boundaries rise, and the frames from one on are those after it.
use Rattle.std.proofs.Common.{◌≡◌, ℕ, zero, suc, ◌+◌, ◌<◌, ◌≤◌, min, List, [], ◌∷◌, ◌++◌, length, take, drop, refl, ap, ◌∙◌, arith}
use Rattle.std.specs.List.{AllByRecursion}
use Rattle.std.proofs.lemmas.List.{take_min, take-take}
use Rattle.std.proofs.lemmas.Grind.{common_steps}
use Rattle.std.proofs.Math.Seq.{take-add}
use Rattle.position.specs.Boundaries.{pos_by, frames_from_by}
use Rattle.position.proofs.Boundaries.{boundary-le, from-zero, from-in, pos-append}
use Rattle.replay_buffer.specs.Held.{Held, IsHeldBoundary}

pub rising : (fs : List (List ℕ)) (i j : ℕ) → i ≤ j → pos_by length (take i fs) ≤ pos_by length (take j fs)
unfolding pos_by
rising fs i j le = boundary-le length (take j fs) (pos_by length (take i fs)) (i, ap (pos_by length) (take-take i j fs le))

-- frames that are not empty end above where they start
pub rising_more : (fs : List (List ℕ)) (i : ℕ) → AllByRecursion (λ f. 6 ≤ length f) fs → i < length fs
    → pos_by length (take i fs) < pos_by length (take (suc i) fs)
unfolding pos_by
rising_more [] i all lt = absurd (omega arith)
rising_more (f ∷ fs) zero all lt = omega (arith, all.0)
rising_more (f ∷ fs) (suc i) all lt = omega (arith, rising_more fs i all.1 (omega arith))

pub not_none : (fs : List (List ℕ)) → 0 < pos_by length fs → 0 < length fs
unfolding pos_by
not_none [] some = absurd (omega arith)
not_none (f ∷ fs) some = omega arith

-- the first frames are none where they have no bytes
pub none_before : (below held : List (List ℕ)) → AllByRecursion (λ f. 6 ≤ length f) (below ++ held) → pos_by length below ≡ 0 → below ≡ []
unfolding pos_by
none_before [] held all none = refl
none_before (f ∷ below) held all none = absurd (omega (arith, all.0, none))

pub from-taken : (fs : List (List ℕ)) (k : ℕ) → AllByRecursion (λ f. 6 ≤ length f) fs → k ≤ length fs → frames_from_by length fs (pos_by length (take k fs)) ≡ drop k fs
unfolding pos_by frames_from_by
from-taken fs zero all le = from-zero length fs
from-taken [] (suc k) all le = absurd (omega arith)
from-taken (f ∷ fs) (suc k) all le =
    grind (arith, common_steps, from-in length f fs (length f + pos_by length (take k fs)), all.0, from-taken fs k all.1)

-- the frame at an index, and those after it
pub record At (fs : List (List ℕ)) (i : ℕ) : Type 0 where
  pub frame : List ℕ
  pub rest : drop i fs ≡ frame ∷ drop (suc i) fs
  pub taken : take (i + 1) fs ≡ take i fs ++ frame ∷ []
  pub sum : pos_by length (take (i + 1) fs) ≡ pos_by length (take i fs) + length frame

pub at_index : (fs : List (List ℕ)) (i : ℕ) → i < length fs → At fs i
unfolding pos_by
at_index [] i lt = absurd (omega arith)
at_index (f ∷ fs) zero lt = record { frame = f; rest = refl; taken = refl; sum = omega arith }
at_index (f ∷ fs) (suc i) lt =
    let a = at_index fs i (omega arith) in
    let more : suc i + 1 ≡ suc (i + 1) = omega arith in
    record {
      frame = a.frame;
      rest = a.rest;
      taken = ap (λ k. take k (f ∷ fs)) more ∙ ap (λ l. f ∷ l) a.taken;
      sum = omega (arith, a.sum, ap (λ k. pos_by length (take k (f ∷ fs))) more);
    }

-- the sum of some first frames and of those after them
pub pos_parts : (fs : List (List ℕ)) (k j : ℕ) → pos_by length (take (k + j) fs) ≡ pos_by length (take k fs) + pos_by length (take j (drop k fs))
pos_parts fs k j = ap (pos_by length) (take-add k j fs) ∙ pos-append length (take k fs) (take j (drop k fs))

-- how many of the held frames end at or before a held boundary
pub record EndsAt (at : ℕ) (fs : List (List ℕ)) (p k : ℕ) : Type 0 where
  pub within : k ≤ length fs
  pub is : p ≡ at + pos_by length (take k fs)

pub ends_at : (h : Held) (p : ℕ) → IsHeldBoundary h p → (k : ℕ) × EndsAt h.first h.frames p k
ends_at h p (from, (n, is)) = (
  min n (length h.frames),
  record { within = omega arith; is = omega (arith, is, ap (pos_by length) (take_min n h.frames)) },
)
