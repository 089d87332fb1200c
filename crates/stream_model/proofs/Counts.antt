-- How many of the ids from 1 to some id pass a test.
use Rattle.std.proofs.Common.{◌≡◌, ◌≤◌, ◌<◌, ◌+◌, ◌==◌, ℕ, zero, suc, Bool, true, false, refl, arith}
use Rattle.std.proofs.lemmas.Bool.Decides.{nat_tests}
use Rattle.stream_model.specs.Streams.{count_to, one_if}

-- tests that agree on these ids count the same
pub count_same : (n : ℕ) (p p' : ℕ → Bool) → ((q : ℕ) → q ≤ n → p' q ≡ p q) → count_to n p' ≡ count_to n p
unfolding count_to
count_same zero p p' same = refl
count_same (suc n) p p' same = rw (same (suc n) (omega arith), count_same n p p' (λ q le. same q (omega arith))) refl

-- one id's test changes
pub count_changed : (n s : ℕ) (p p' : ℕ → Bool) → 0 < s → s ≤ n → ((q : ℕ) → (s == q) ≡ false → p' q ≡ p q) → count_to n p' + one_if (p s) ≡ count_to n p + one_if (p' s)
unfolding count_to
count_changed zero s p p' above le apart = absurd (omega arith)
count_changed (suc n) s p p' above le apart =
    elim (s == suc n) as (λ v. (s == suc n) ≡ v → (one_if (p' (suc n)) + count_to n p') + one_if (p s) ≡ (one_if (p (suc n)) + count_to n p) + one_if (p' s)) [
      | true ↦ λ is.
          let here : s ≡ suc n = grind (arith, nat_tests) in
          let rest : count_to n p' ≡ count_to n p = count_same n p p' (λ q le. apart q (grind (arith, nat_tests))) in
          rw (here, rest) (omega arith)
      | false ↦ λ is.
          let below : s ≤ n = grind (arith, nat_tests) in
          let rest = count_changed n s p p' above below apart in
          let same : p' (suc n) ≡ p (suc n) = apart (suc n) is in
          rw same (omega arith)
    ] refl

-- more ids that fail the test change nothing
pub count_above : (n m : ℕ) (p : ℕ → Bool) → n ≤ m → ((q : ℕ) → n < q → p q ≡ false) → count_to m p ≡ count_to n p
unfolding count_to
count_above n zero p le none = let same : n ≡ 0 = omega arith in rw same refl
count_above n (suc m) p le none =
    elim (n == suc m) as (λ v. (n == suc m) ≡ v → one_if (p (suc m)) + count_to m p ≡ count_to n p) [
      | true ↦ λ is. let same : n ≡ suc m = grind (arith, nat_tests) in rw same refl
      | false ↦ λ is.
          let below : n ≤ m = grind (arith, nat_tests) in
          let fails : p (suc m) ≡ false = none (suc m) (omega arith) in
          let rest = count_above n m p below none in
          rw fails (omega arith)
    ] refl
