-- Links that are out, and calls of a net.
use Rattle.std.proofs.lemmas.Bool.Decides.{nat_tests}
use Rattle.std.proofs.Common.{◌≡◌, ◌<◌, ◌≤◌, ◌+◌, ◌-◌, ◌^◌, ◌⊎◌, inl, inr, ◌∙◌, ℕ, zero, suc, Bool, true, false, nat_lt, min, List, [], ◌∷◌, ◌++◌, Option, Some, None, refl, ap, arith, append_assoc}
use Rattle.std.specs.Option.{option_map}
use Rattle.outside.specs.Causes.{one_more}
use Rattle.outside.specs.Links.{and_then_one}
use Rattle.outside.specs.declared.net.Ask.{Ask}
use Rattle.serve_threads.specs.Asking.{out_after, repeated}

pub out_more : (k out : ℕ) → out_after (suc k) out ≡ min (out + suc k) (2 ^ 64 - 1)
unfolding out_after
out_more zero out = omega arith
out_more (suc k) out = let h = out_more k (one_more out) in omega arith

-- as many are out as came
pub out_enough : (k out : ℕ) → k ≤ 64 → k ≤ out_after k out
out_enough zero out few = omega arith
out_enough (suc k) out few = let h = out_more k out in omega arith

-- and once they are put back as many as before
pub out_back : (k many out out' : ℕ) → k ≤ many → out' + k ≡ out_after k out → (out' ≡ out) ⊎ (2 ^ 64 - 1 ≤ out + many)
unfolding out_after
out_back zero many out out' few is = inl (omega (arith, is))
out_back (suc k) many out out' few is = by (nat_lt (out + suc k) (2 ^ 64)) refl
  where
    by : (b : Bool) → nat_lt (out + suc k) (2 ^ 64) ≡ b → (out' ≡ out) ⊎ (2 ^ 64 - 1 ≤ out + many)
    by true lt = let below : out + suc k < 2 ^ 64 = grind (arith, nat_tests, lt) in (let more = out_more k out in inl (omega (arith, more, is, below)))
    by false lt = let above : 2 ^ 64 ≤ out + suc k = grind (arith, nat_tests, lt) in inr (omega (arith, above, few))

repeated_more : (k : ℕ) (a : Ask) → repeated k a ++ a ∷ [] ≡ repeated (suc k) a
repeated_more zero a = refl
repeated_more (suc k) a = ap (λ (l : List Ask). a ∷ l) (repeated_more k a)

-- one more ask
pub asked_more : (k : ℕ) (a : Ask) (o : Option (List Ask)) → and_then_one (option_map (λ (was : List Ask). was ++ repeated k a) o) a ≡ option_map (λ (was : List Ask). was ++ repeated (suc k) a) o
asked_more k a None = refl
asked_more k a (Some was) = ap Some (append_assoc was (repeated k a) (a ∷ []) ∙ ap (λ (l : List Ask). was ++ l) (repeated_more k a))

pub out_one : (out : ℕ) → out_after 1 out ≡ one_more out
unfolding out_after
out_one out = refl
