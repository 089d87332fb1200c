-- How many streams are open after a mark.
use Rattle.std.proofs.Common.{◌≡◌, ◌≤◌, ◌<◌, ◌+◌, ◌%◌, ◌==◌, ℕ, true, false, List, ◌∷◌, Option, Some, None, refl, ap, subst, sym, ◌∙◌, arith, ltb}
use Rattle.std.proofs.lemmas.Bool.Decides.{nat_tests}
use Rattle.stream_model.specs.Marks.{Opening, Mark, Opens, Passed, Pushed, TookJob}
use Rattle.stream_model.specs.Turns.{Turn}
use Rattle.stream_model.specs.Streams.{turn, live, on, is_live, one_if, count_to, highest, top}
use Rattle.stream_model.specs.Fair.{Fair}
use Rattle.stream_model.proofs.Counts.{count_same, count_changed, count_above}
use Rattle.stream_model.proofs.Ids.{is_opening, top_said, top_opens, top_passed, turn_passed, fresh, none_above, no_zero, others_stay, still_none}

-- of an open stream the id is from 1 to the highest
between : (most : ℕ) (seen : List Mark) (s : ℕ) (t : Turn) → Fair most seen → turn most seen s ≡ Some t → (0 < s) × (s ≤ top seen)
between most seen s t h is = (
  elim (s == 0) as (λ v. (s == 0) ≡ v → 0 < s) [
    | true ↦ λ zero. let z : s ≡ 0 = grind (arith, nat_tests) in let none : turn most seen s ≡ None = subst (λ k. turn most seen k ≡ None) (sym z) (no_zero most seen h) in absurd (cc)
    | false ↦ λ some. grind (arith, nat_tests)
  ] refl,
  elim (ltb (top seen) s) as (λ v. ltb (top seen) s ≡ v → s ≤ top seen) [
    | true ↦ λ above. let none : turn most seen s ≡ None = none_above most seen s (grind (arith, nat_tests)) in absurd (cc)
    | false ↦ λ below. grind (arith, nat_tests)
  ] refl,
)

live_on : (most : ℕ) (seen : List Mark) (m : Mark) (s : ℕ) (before : Option Turn) → turn most seen s ≡ before → Fair most seen → on s m ≡ true → is_opening m ≡ false
    → count_to (top seen) (λ q. is_live (turn most (m ∷ seen) q)) + one_if (is_live (turn most seen s)) ≡ live most seen + one_if (is_live (turn most (m ∷ seen) s))
live_on most seen m s None is h here none =
    let gone : turn most (m ∷ seen) s ≡ None = still_none most seen m s none is in
    let same = count_same (top seen) (λ q. is_live (turn most seen q)) (λ q. is_live (turn most (m ∷ seen) q))
    (λ q le. elim (s == q) as (λ v. (s == q) ≡ v → is_live (turn most (m ∷ seen) q) ≡ is_live (turn most seen q)) [
      | true ↦ λ e. let k : s ≡ q = grind (arith, nat_tests) in subst (λ q. is_live (turn most (m ∷ seen) q) ≡ is_live (turn most seen q)) k (ap is_live (gone ∙ sym is))
      | false ↦ λ apart. ap is_live (others_stay most seen m s q here apart)
    ] refl) in
    rw (is, gone) (ap (λ n. n + 0) same)
live_on most seen m s (Some t) is h here none =
    let b = between most seen s t h is in
    count_changed (top seen) s (λ q. is_live (turn most seen q)) (λ q. is_live (turn most (m ∷ seen) q)) b.0 b.1 (λ q apart. ap is_live (others_stay most seen m s q here apart))

-- with a mark on a stream
pub live_said : (most : ℕ) (seen : List Mark) (m : Mark) (s : ℕ) → Fair most seen → on s m ≡ true → is_opening m ≡ false
    → live most (m ∷ seen) + one_if (is_live (turn most seen s)) ≡ live most seen + one_if (is_live (turn most (m ∷ seen) s))
live_said most seen m s h here none = rw (top_said seen m none) (live_on most seen m s (turn most seen s) refl h here none)

-- with a request
pub live_opens : (most : ℕ) (seen : List Mark) (s : ℕ) (o : Opening) → highest (s % 2) seen < s → live most (Opens s o ∷ seen) ≡ one_if (is_live (turn most (Opens s o ∷ seen) s)) + live most seen
live_opens most seen s o h =
    let n = top_opens seen s o in
    let here : (s == s) ≡ true = grind (arith, nat_tests) in
    let before : turn most seen s ≡ None = fresh most seen s h in
    let above = count_above (top seen) (top (Opens s o ∷ seen)) (λ q. is_live (turn most seen q)) n.0 (λ q more. ap is_live (none_above most seen q more)) in
    let change = count_changed (top (Opens s o ∷ seen)) s (λ q. is_live (turn most seen q)) (λ q. is_live (turn most (Opens s o ∷ seen) q)) (omega arith) n.1 (λ q apart. ap is_live (others_stay most seen (Opens s o) s q here apart)) in
    let zero : one_if (is_live (turn most seen s)) ≡ 0 = ap (λ t. one_if (is_live t)) before in
    omega arith

-- with a request that is passed over
pub live_passed : (most : ℕ) (seen : List Mark) (s : ℕ) → live most (Passed s ∷ seen) ≡ live most seen
live_passed most seen s =
    let top_is = top (Passed s ∷ seen) in
    let above = count_above (top seen) top_is (λ q. is_live (turn most seen q)) (top_passed seen s) (λ q more. ap is_live (none_above most seen q more)) in
    let same = count_same top_is (λ q. is_live (turn most seen q)) (λ q. is_live (turn most (Passed s ∷ seen) q)) (λ q le. ap is_live (turn_passed most seen s q)) in
    same ∙ above

-- with metadata that is pushed
pub live_pushed : (most : ℕ) (seen : List Mark) (metadata : List ℕ) → live most (Pushed metadata ∷ seen) ≡ live most seen
unfolding turn highest
live_pushed most seen metadata = refl

-- with a job that is taken
pub live_job : (most : ℕ) (seen : List Mark) → live most (TookJob ∷ seen) ≡ live most seen
unfolding turn highest
live_job most seen = refl
