-- Where a byte cuts a word, and words without it.
use Rattle.std.proofs.Common.{◌≡◌, ℕ, zero, suc, ◌+◌, ◌%◌, ◌<◌, ◌^◌, ◌&&◌, ◌||◌, ◌==◌, Bool, true, false, cond, List, [], ◌∷◌, ◌++◌, length, get_or, take, drop, Option, Some, None, refl, sym, ap, arith}
use Rattle.std.specs.Prelude.{decimal, position, IfSome}
use Rattle.std.specs.List.{list_all}
use Rattle.std.proofs.lemmas.Grind.{common_steps}
use Rattle.std.proofs.lemmas.Bool.{eqb-true, ltb-false}
use Rattle.std.proofs.lemmas.Bool.Decides.{nat_tests}
use Rattle.std.proofs.lemmas.Fmt.{decimal_by_steps}
use Rattle.std.proofs.lemmas.List.Quantifiers.{position-Some}
use Rattle.std.proofs.lemmas.List.Sums.{fails_before_first}
use Rattle.hex.specs.Hex.{IsBytes, encode_lower}
use Rattle.rs_wire.specs.declared.message.Message.{Message}
use Rattle.plain_text.specs.Words.{is_lower}
use Rattle.plain_text.proofs.Hex.{encode_is_lower}
use Rattle.cable_script.specs.Line.{IsPayload, part_text, payload_text, with_metadata}
use Rattle.cable_script.specs.Words.{HasNo}

other : (c b : ℕ) → (b == c) ≡ false → ¬ (b ≡ c)
other c b off is = grind (arith, nat_tests)

-- ---- one cut

-- words are cut at one place
pub one_cut : (c : ℕ) (v w x y : List ℕ) → HasNo c v → HasNo c w → v ++ c ∷ x ≡ w ++ c ∷ y → (v ≡ w) × (x ≡ y)
one_cut c [] [] x y h k e = (refl, cc)
one_cut c [] (b ∷ w) x y h k e = let same : b ≡ c = cc in absurd (k.0 same)
one_cut c (a ∷ v) [] x y h k e = let same : a ≡ c = cc in absurd (h.0 same)
one_cut c (a ∷ v) (b ∷ w) x y h k e =
    let tails : v ++ c ∷ x ≡ w ++ c ∷ y = cc in
    let first : a ≡ b = cc in
    let others = one_cut c v w x y h.1 k.1 tails in
    (cc, others.1)

-- a word that is cut has the byte
pub has_cut : (c : ℕ) (front rest : List ℕ) → HasNo c (front ++ c ∷ rest) → ⊥
has_cut c [] rest h = h.0 refl
has_cut c (b ∷ front) rest h = has_cut c front rest h.1

pub has_none_twice : (c : ℕ) (front rest : List ℕ) → HasNo c front → HasNo c rest → HasNo c (front ++ rest)
has_none_twice c [] rest h k = k
has_none_twice c (b ∷ front) rest h k = (h.0, has_none_twice c front rest h.1 k)

-- ---- the first cut

clean_below : (c : ℕ) (text : List ℕ) → ((k : ℕ) → k < length text → (get_or text k 0 == c) ≡ false) → HasNo c text
clean_below c [] h = tt
clean_below c (b ∷ text) h = (other c b (h 0 (omega arith)), clean_below c text (λ k l. h (suc k) (omega arith)))

none_from : (b : Bool) (i : ℕ) → None ≡ cond b (Some i) None → b ≡ false
none_from true i e = absurd cc
none_from false i e = refl

pub no_cut : (c : ℕ) (text : List ℕ) → None ≡ position (λ b. b == c) text → HasNo c text
no_cut c text none =
    let short = ltb-false _ _ (none_from _ _ none) in
    clean_below c text (λ k l. fails_before_first (λ b. b == c) text k 0 (omega (arith, short)))

at_cut : (c : ℕ) (text : List ℕ) (i : ℕ) → i < length text → (get_or text i 0 == c) ≡ true → ((k : ℕ) → k < i → (get_or text k 0 == c) ≡ false) → (text ≡ take i text ++ c ∷ drop 1 (drop i text)) × HasNo c (take i text)
at_cut c [] i lt is before = absurd (omega arith)
at_cut c (b ∷ text) zero lt is before = (ap (λ d. d ∷ text) (eqb-true b c is), tt)
at_cut c (b ∷ text) (suc i) lt is before =
    let others = at_cut c text i (omega arith) is (λ k l. before (suc k) (omega arith)) in
    (ap (λ t. b ∷ t) others.0, (other c b (before 0 (omega arith)), others.1))

pub a_cut : (c : ℕ) (text front rest after : List ℕ) (i : ℕ) → Some i ≡ position (λ b. b == c) text → front ≡ take i text → rest ≡ drop i text → after ≡ drop 1 rest → (text ≡ front ++ c ∷ after) × HasNo c front
a_cut c text front rest after i some front_is rest_is after_is =
    let at = position-Some (λ b. b == c) text i 0 (sym some) in
    let cut = at_cut c text i at.0 at.1 at.2 in
    let after_is' : after ≡ drop 1 (drop i text) = cc in
    rw (front_is, after_is') cut

-- ---- words of digits

-- a character of a part of a message
abbrev pub is_of_part : ℕ → Bool
is_of_part b = is_lower b || (b == 45)

lower_is_other : (c b : ℕ) → is_of_part c ≡ false → is_lower b ≡ true → ¬ (b ≡ c)
lower_is_other c b off low is = grind (arith, nat_tests)

both : (a b : Bool) → (a && b) ≡ true → (a ≡ true) × (b ≡ true)
both a b h1 = grind (arith, common_steps)

lowers : (c : ℕ) (word : List ℕ) → is_of_part c ≡ false → list_all is_lower word ≡ true → HasNo c word
lowers c [] off h = tt
lowers c (b ∷ word) off h = let k = both (is_lower b) (list_all is_lower word) h in (lower_is_other c b off k.0, lowers c word off k.1)

dash : (c : ℕ) → is_of_part c ≡ false → ¬ (45 ≡ c)
dash c off is = grind (arith, nat_tests)

pub part_has_none : (c : ℕ) (bytes : List ℕ) → is_of_part c ≡ false → IsBytes bytes → HasNo c (part_text bytes)
part_has_none c [] off h = (dash c off, tt)
part_has_none c (b ∷ bytes) off h = lowers c (encode_lower (b ∷ bytes)) off (encode_is_lower (b ∷ bytes) h)

colon : (b : ℕ) → b ≡ 58 → ¬ (b ≡ 32)
colon b is e = omega (arith, is, e)

spaceless : (metadata : Option (List ℕ)) (content : List ℕ) → IfSome metadata IsBytes → IsBytes content → HasNo 32 (with_metadata metadata (part_text content))
spaceless None content md right = part_has_none 32 content refl right
spaceless (Some bytes) content md right = has_none_twice 32 (part_text bytes) (58 ∷ part_text content) (part_has_none 32 bytes refl md) (colon 58 refl, part_has_none 32 content refl right)

-- a message has no space
pub payload_spaceless : (m : Message) → IsPayload m → HasNo 32 (payload_text m)
payload_spaceless m right = spaceless m.metadata m.content right.metadata right.content

-- a digit is no space
digit : (n : ℕ) → ¬ (48 + n ≡ 32)
digit n is = omega (arith, is)

-- a number has no space
pub decimal_spaceless : (n : ℕ) → n < 2 ^ 64 → HasNo 32 (decimal n)
decimal_spaceless n small = decimal_by_steps (λ k ds. HasNo 32 ds) (λ k lt. (digit k, tt)) (λ k ds le h. has_none_twice 32 ds ((48 + k % 10) ∷ []) h (digit (k % 10), tt)) n small
