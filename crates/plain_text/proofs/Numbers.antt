-- Numbers as words.
use Rattle.std.proofs.Common.{◌≡◌, ℕ, ◌<◌, ◌≤◌, ◌^◌, Bool, true, false, cond, leb, List, Option, Some, None, refl, sym, ap, subst, ◌∙◌}
use Rattle.std.specs.Prelude.{decimal, ◌&&◌, bytes_eq}
use Rattle.std.specs.Str.Parse.{digits_value}
use Rattle.std.proofs.lemmas.Fmt.{decimal_is_IsNumeral}
use Rattle.std.proofs.lemmas.Bool.{leb-true, le-leb}
use Rattle.std.proofs.lemmas.Slice.Eq.{bytes_eq-Decides}
use Rattle.plain_text.specs.Words.{number_in}

and_true : (a b : Bool) → (a && b) ≡ true → (a ≡ true) × (b ≡ true)
and_true true b e = (refl, e)
and_true false b e = absurd cc

-- what a number's word reads as
pub number_again : (low high n : ℕ) → n < 2 ^ 64 → low ≤ n → n ≤ high → number_in low high (decimal n) ≡ Some n
unfolding number_in
number_again low high n small l h =
    let v : digits_value 10 (decimal n) ≡ n = (decimal_is_IsNumeral n small).1 in
    let t : bytes_eq (decimal n) (decimal n) ≡ true = (bytes_eq-Decides (decimal n) (decimal n)).1 refl in
    let a : leb low n ≡ true = le-leb low n l in
    let b : leb n high ≡ true = le-leb n high h in
    rw (v, t, a, b) refl

tested : (t : Bool) (v n : ℕ) → cond t (Some v) None ≡ Some n → (t ≡ true) × (v ≡ n)
tested true v n e = (refl, cc)
tested false v n e = absurd cc

-- what reads as a number is its word
pub number_takes : (low high : ℕ) (word : List ℕ) (n : ℕ) → number_in low high word ≡ Some n → (word ≡ decimal n) × (low ≤ n) × (n ≤ high)
unfolding number_in
number_takes low high word n e =
    let v = digits_value 10 word in
    let t = tested ((bytes_eq (decimal v) word && leb low v) && leb v high) v n e in
    let a = and_true (bytes_eq (decimal v) word && leb low v) (leb v high) t.0 in
    let b = and_true (bytes_eq (decimal v) word) (leb low v) a.0 in
    let text : decimal v ≡ word = (bytes_eq-Decides (decimal v) word).0 b.0 in
    subst (λ (k : ℕ). (word ≡ decimal k) × (low ≤ k) × (k ≤ high)) t.1 (sym text, leb-true _ _ b.1, leb-true _ _ a.1)

none_from : (o : Option ℕ) → ((n : ℕ) → o ≡ Some n → ⊥) → o ≡ None
none_from None h = refl
none_from (Some n) h = absurd (h n refl)

-- what a search of the number answered
pub some_is : (low high n : ℕ) (word : List ℕ) → n < 2 ^ 64 → word ≡ decimal n → low ≤ n → n ≤ high → Some n ≡ number_in low high word
some_is low high n word small e l h = sym (ap (number_in low high) e ∙ number_again low high n small l h)

pub none_is : (low high : ℕ) (word : List ℕ) → ((n : ℕ) → low ≤ n → n ≤ high → word ≡ decimal n → ⊥) → None ≡ number_in low high word
none_is low high word h = sym (none_from (number_in low high word) (λ n e. let t = number_takes low high word n e in h n t.1 t.2 t.0))

pub decimal_same : (m n : ℕ) → m < 2 ^ 64 → n < 2 ^ 64 → decimal m ≡ decimal n → m ≡ n
decimal_same m n a b e = sym (decimal_is_IsNumeral m a).1 ∙ ap (digits_value 10) e ∙ (decimal_is_IsNumeral n b).1
