-- Frames that are passed together are those that end at or before a position.
use Rattle.std.proofs.Common.{◌≡◌, ℕ, zero, suc, ◌+◌, ◌-◌, ◌<◌, ◌≤◌, List, [], ◌∷◌, length, take, refl, sym, ap, ◌∙◌, arith, ◌⊎◌, inl, inr}
use Rattle.std.proofs.lemmas.Bool.{cases_lt}
use Rattle.std.proofs.lemmas.List.{length-append}
use Rattle.position.specs.Boundaries.{acked_by, frames_from_by, pos_by}
use Rattle.position.proofs.Boundaries.{acked-at_most, acked-in, acked-out}
use Rattle.replay_buffer.specs.Held.{from_acked}
use Rattle.replay_buffer.specs.Marked.{IsAt}
use Rattle.replay_buffer.specs.Stored.{Stored, floor_of, frames_of, held_in}
use Rattle.replay_buffer.specs.declared.marks.Spot.{Spot}
use Rattle.replay_buffer.proofs.Forgotten.{nothing_more, same_held}
use Rattle.replay_buffer.proofs.Found.{IsLast}
use Rattle.replay_buffer.proofs.Passed.{beyond}

-- what is acknowledged is the sum of the first frames, of which so many end at or before the position
pub acked_is : (fs : List (List ℕ)) (k d : ℕ) → k ≤ length fs → pos_by length (take k fs) ≤ d → ((j : ℕ) → k < j → j ≤ length fs → d < pos_by length (take j fs))
    → acked_by length fs d ≡ pos_by length (take k fs)
unfolding pos_by acked_by
acked_is [] zero d le low high = refl
acked_is [] (suc k) d le low high = absurd (omega arith)
acked_is (f ∷ fs) zero d le low high = acked-out length f fs d (omega (arith, high 1 (omega arith) (omega arith)))
acked_is (f ∷ fs) (suc k) d le low high =
    let rest = acked_is fs k (d - length f) (omega arith) (omega (arith, low)) (λ j more few. omega (arith, high (suc j) (omega arith) (omega arith), low)) in
    acked-in length f fs d (omega (arith, low)) ∙ ap (λ n. length f + n) rest

-- so it is of the held ones, from where they start
held_acked : (v : Stored) (n position : ℕ) → pos_by length v.below ≤ v.first → n ≤ length v.held → v.first + pos_by length (take n v.held) ≤ position
    → IsLast (floor_of v) (frames_of v) (length v.below + n) position → acked_by length v.held (position - v.first) ≡ pos_by length (take n v.held)
held_acked v n position within few low last =
    acked_is v.held n (position - v.first) few (omega (arith, low)) (λ j more le.
    omega (arith, last (length v.below + j) (omega arith) (omega (arith, length-append v.below v.held, le)), beyond v j, within, low))

-- what is left once frames are passed up to a place
pub passed_acked : (v new : Stored) (s : Spot) (position hold : ℕ) → pos_by length v.below ≤ v.first → IsAt (floor_of v) v.base (frames_of v) s → (0 < s.index → s.position ≤ position)
    → IsLast (floor_of v) (frames_of v) s.index position → length v.below < s.index → new.first ≡ s.position
    → new.first ≡ v.first + pos_by length (take (s.index - length v.below) v.held) → new.held ≡ frames_from_by length v.held (new.first - v.first)
    → held_in hold new ≡ from_acked (held_in hold v) position
passed_acked v new s position hold within here low last more is first held =
    let n = s.index - length v.below in
    let whole : length v.below + (s.index - length v.below) ≡ s.index = omega arith in
    let few : s.index - length v.below ≤ length v.held = omega (arith, here.within, length-append v.below v.held) in
    let acked : acked_by length v.held (position - v.first) ≡ pos_by length (take (s.index - length v.below) v.held) =
    held_acked v (s.index - length v.below) position within few (omega (arith, first, is, low (omega arith))) (λ k above le. last k (omega arith) le) in
    let size : new.first - v.first ≡ acked_by length v.held (position - v.first) = omega (arith, acked, first) in
    same_held _ _ (omega (arith, first, acked)) (held ∙ ap (frames_from_by length v.held) size) refl

-- where the place is not beyond those that are held no longer, nothing is acknowledged
pub none_acked : (v : Stored) (index position hold : ℕ) → pos_by length v.below ≤ v.first → IsLast (floor_of v) (frames_of v) index position → index ≤ length v.below
    → held_in hold v ≡ from_acked (held_in hold v) position
unfolding pos_by
none_acked v index position hold within last le = sym (nothing_more (held_in hold v) (acked_by length v.held (position - v.first)) (none (cases_lt position v.first)))
  where
    none : (position < v.first) ⊎ (v.first ≤ position) → acked_by length v.held (position - v.first) ≡ 0
    none (inl before) = omega (arith, before, acked-at_most length v.held (position - v.first))
    none (inr from) = held_acked v 0 position within (omega arith) (omega (arith, from)) (λ k above few. last k (omega arith) few)
