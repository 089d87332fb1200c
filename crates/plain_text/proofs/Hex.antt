-- Lower-case hex, and the bytes that it spells.
use Rattle.std.proofs.Common.{◌≡◌, ℕ, zero, suc, ◌+◌, ◌-◌, ◌*◌, ◌/◌, ◌%◌, ◌<◌, ◌==◌, Bool, true, false, ◌&&◌, ◌||◌, nat_lt, nat_le, if◌then◌else◌, List, [], ◌∷◌, length, slice_index, Result, Ok, refl, sym, ap, subst, ◌∙◌, arith, inl, inr}
use Rattle.std.specs.List.{list_all}
use Rattle.std.proofs.lemmas.Bool.{and_parts, cases_lt, eqb-true}
use Rattle.std.proofs.lemmas.Bool.Decides.{nat_tests}
use Rattle.hex.specs.Hex.{IsBytes, decode_of, encode_lower, encode_with, lower_digits}
use Rattle.hex.proofs.HexLemmas.{decode_of-encode_lower, length-encode_with}
use Rattle.plain_text.specs.Words.{decoded, hex_bytes, hex_word, is_hex_word, is_lower, is_mark}

-- ---- a digit

abbrev digit_of : ℕ → ℕ
digit_of d = if nat_lt d 10 then d + 48 else d + 87

abbrev value : ℕ → ℕ
value b = if nat_le b 57 then b - 48 else b - 87

abbrev is_place : ℕ → Bool
is_place d = (slice_index lower_digits d == digit_of d) && is_lower (slice_index lower_digits d)

abbrev are_places : ℕ → Bool
are_places zero = true
are_places (suc n) = is_place n && are_places n

place : (n k : ℕ) → are_places n ≡ true → k < n → is_place k ≡ true
place zero k h lt = absurd (omega arith)
place (suc n) k h lt =
    let parts = and_parts (is_place n) (are_places n) h in
    elim (cases_lt k n) [
      | inl below ↦ place n k parts.1 below
      | inr top ↦
          let e : k ≡ n = omega arith in
          rw e parts.0
    ]

digit : (d : ℕ) → d < 16 → (slice_index lower_digits d ≡ digit_of d) × (is_lower (slice_index lower_digits d) ≡ true)
digit d lt =
    let parts = and_parts (slice_index lower_digits d == digit_of d) (is_lower (slice_index lower_digits d)) (place 16 d refl lt) in
    (eqb-true (slice_index lower_digits d) (digit_of d) parts.0, parts.1)

value_fits : (b : ℕ) → is_lower b ≡ true → (value b < 16) × (digit_of (value b) ≡ b)
value_fits b lower = (grind (arith, nat_tests), grind (arith, nat_tests))

digit_back : (b : ℕ) → is_lower b ≡ true → slice_index lower_digits (value b) ≡ b
digit_back b lower = let fits = value_fits b lower in (digit (value b) fits.0).0 ∙ fits.1

-- ---- digits, two a byte

abbrev pairs : List ℕ → List ℕ
pairs [] = []
pairs (h ∷ []) = []
pairs (h ∷ l ∷ rest) = (value h * 16 + value l) ∷ pairs rest

IsBytes-cons : (b : ℕ) (bytes : List ℕ) → b < 256 → IsBytes bytes → IsBytes (b ∷ bytes)
IsBytes-cons b bytes lt all zero = lt
IsBytes-cons b bytes lt all (suc i) = all i

encode_cons : (b : ℕ) (bytes : List ℕ) → encode_lower (b ∷ bytes) ≡ slice_index lower_digits (b / 16) ∷ slice_index lower_digits (b % 16) ∷ encode_lower bytes
unfolding encode_with
encode_cons b bytes = refl

encode_nil : encode_lower [] ≡ []
unfolding encode_with
encode_nil = refl

pair_back : (h l : ℕ) (rest bytes : List ℕ) → is_lower h ≡ true → is_lower l ≡ true → encode_lower bytes ≡ rest → encode_lower ((value h * 16 + value l) ∷ bytes) ≡ h ∷ l ∷ rest
pair_back h l rest bytes high low back =
    let a = value_fits h high in
    let b = value_fits l low in
    let n = value h * 16 + value l in
    let quotient : n / 16 ≡ value h = omega (arith, b.0) in
    let remainder : n % 16 ≡ value l = omega (arith, b.0) in
    let first : slice_index lower_digits (n / 16) ≡ h = ap (slice_index lower_digits) quotient ∙ digit_back h high in
    let second : slice_index lower_digits (n % 16) ≡ l = ap (slice_index lower_digits) remainder ∙ digit_back l low in
    let whole = encode_cons n bytes in
    cc

pairs_back : (word : List ℕ) → length word % 2 ≡ 0 → list_all is_lower word ≡ true → (encode_lower (pairs word) ≡ word) × IsBytes (pairs word)
pairs_back [] even lower = (encode_nil, λ i. omega arith)
pairs_back (h ∷ []) even lower = absurd (omega arith)
pairs_back (h ∷ l ∷ rest) even lower =
    let a = and_parts (is_lower h) (is_lower l && list_all is_lower rest) lower in
    let b = and_parts (is_lower l) (list_all is_lower rest) a.1 in
    let others = pairs_back rest (omega arith) b.1 in
    let high = value_fits h a.0 in
    let low = value_fits l b.0 in
    (pair_back h l rest (pairs rest) a.0 b.0 others.0, IsBytes-cons (value h * 16 + value l) (pairs rest) (omega (arith, high.0, low.0)) others.1)

pub encode_is_lower : (bytes : List ℕ) → IsBytes bytes → list_all is_lower (encode_lower bytes) ≡ true
unfolding encode_with
encode_is_lower [] all = refl
encode_is_lower (b ∷ bytes) all =
    let fits : b < 256 = all 0 in
    let high = (digit (b / 16) (omega arith)).1 in
    let low = (digit (b % 16) (omega arith)).1 in
    rw (high, low) (encode_is_lower bytes (λ i. all (suc i)))

-- ---- the tests of a word

tests : (n : ℕ) (d v : Bool) → d ≡ false → (d || ((nat_lt 0 n && (n % 2 == 0)) && v)) ≡ true → (0 < n) × (n % 2 ≡ 0) × (v ≡ true)
tests n d v not_dash all = (grind (arith, nat_tests), grind (arith, nat_tests), grind (arith, nat_tests))

-- ---- words of bytes

pick : (b : Bool) (x y : List ℕ) → b ≡ false → (if b then x else y) ≡ y
pick true x y e = absurd cc
pick false x y e = refl

pick_first : (b : Bool) (x y : List ℕ) → b ≡ true → (if b then x else y) ≡ x
pick_first true x y e = refl
pick_first false x y e = absurd cc

pub no_bytes : (mark : ℕ) (word : List ℕ) → is_mark mark word ≡ true → hex_bytes mark word ≡ []
unfolding hex_bytes
no_bytes mark word is = pick_first (is_mark mark word) [] (decoded (decode_of word)) is

pairs_of : (mark : ℕ) (word : List ℕ) → is_mark mark word ≡ false → is_hex_word mark word ≡ true → hex_bytes mark word ≡ pairs word
unfolding hex_bytes
pairs_of mark word no_mark is =
    let t = tests (length word) (is_mark mark word) (list_all is_lower word) no_mark is in
    let back = pairs_back word t.1 t.2 in
    pick (is_mark mark word) [] (decoded (decode_of word)) no_mark ∙ ap decoded (ap decode_of (sym back.0) ∙ decode_of-encode_lower (pairs word) back.1)

-- half as many bytes as digits
pub half : (mark : ℕ) (word : List ℕ) → is_mark mark word ≡ false → is_hex_word mark word ≡ true → length word / 2 ≡ length (hex_bytes mark word)
half mark word no_mark is =
    let t = tests (length word) (is_mark mark word) (list_all is_lower word) no_mark is in
    let back = pairs_back word t.1 t.2 in
    let len = length-encode_with lower_digits (pairs word) in
    let whole : length (encode_lower (pairs word)) ≡ length word = ap (λ (w : List ℕ). length w) back.0 in
    let bytes : length (hex_bytes mark word) ≡ length (pairs word) = ap (λ (w : List ℕ). length w) (pairs_of mark word no_mark is) in
    omega (arith, len, whole, bytes)

lower_word : (mark : ℕ) (word : List ℕ) → 0 < length word → length word % 2 ≡ 0 → list_all is_lower word ≡ true → word ≡ hex_word mark (pairs word)
lower_word mark [] some even lower = absurd (omega arith)
lower_word mark (h ∷ []) some even lower = absurd (omega arith)
lower_word mark (h ∷ l ∷ rest) some even lower = sym (pairs_back (h ∷ l ∷ rest) even lower).0

mark_is : (mark : ℕ) (word : List ℕ) → is_mark mark word ≡ true → word ≡ hex_word mark []
mark_is mark [] is = absurd cc
mark_is mark (b ∷ []) is = ap (λ (d : ℕ). d ∷ []) (eqb-true b mark is)
mark_is mark (b ∷ d ∷ word) is =
    let one : suc (suc (length word)) ≡ 1 = eqb-true _ _ (and_parts (length (b ∷ d ∷ word) == 1) (b == mark) is).0 in
    absurd (omega (arith, one))

-- a word that passes the test is the text of its bytes
pub hex_back : (mark : ℕ) (word : List ℕ) → is_hex_word mark word ≡ true → word ≡ hex_word mark (hex_bytes mark word)
hex_back mark word is = elim (is_mark mark word) as (λ v. is_mark mark word ≡ v → word ≡ hex_word mark (hex_bytes mark word)) [
  | true ↦ λ no. mark_is mark word no ∙ ap (hex_word mark) (sym (no_bytes mark word no))
  | false ↦ λ some.
      let t = tests (length word) (is_mark mark word) (list_all is_lower word) some is in
      lower_word mark word t.0 t.1 t.2 ∙ ap (hex_word mark) (sym (pairs_of mark word some is))
] refl

-- and its bytes are bytes
pub hex_are_bytes : (mark : ℕ) (word : List ℕ) → is_hex_word mark word ≡ true → IsBytes (hex_bytes mark word)
hex_are_bytes mark word is = elim (is_mark mark word) as (λ v. is_mark mark word ≡ v → IsBytes (hex_bytes mark word)) [
  | true ↦ λ no.
      let none : IsBytes [] = λ i. omega arith in
      subst IsBytes (sym (no_bytes mark word no)) none
  | false ↦ λ some.
      let t = tests (length word) (is_mark mark word) (list_all is_lower word) some is in
      subst IsBytes (sym (pairs_of mark word some is)) (pairs_back word t.1 t.2).1
] refl

tested : (n : ℕ) (d v : Bool) → 0 < n → n % 2 ≡ 0 → v ≡ true → (d || ((nat_lt 0 n && (n % 2 == 0)) && v)) ≡ true
tested n d v some even all = grind (arith, nat_tests)

own_mark : (mark : ℕ) → is_hex_word mark (mark ∷ []) ≡ true
own_mark mark = grind (arith, nat_tests)

-- the text of bytes passes the test
pub hex_again : (mark : ℕ) (bytes : List ℕ) → IsBytes bytes → is_hex_word mark (hex_word mark bytes) ≡ true
hex_again mark [] all = own_mark mark
hex_again mark (b ∷ bytes) all =
    let len = length-encode_with lower_digits (b ∷ bytes) in
    tested (length (encode_lower (b ∷ bytes))) (is_mark mark (encode_lower (b ∷ bytes))) (list_all is_lower (encode_lower (b ∷ bytes))) (omega (arith, len)) (omega (arith, len)) (encode_is_lower (b ∷ bytes) all)

-- ---- one reading

same_ok : {E : Type 0} (r : Result (List ℕ) E) (a b : List ℕ) → r ≡ Ok a → r ≡ Ok b → a ≡ b
same_ok r a b p q = cc

no_mark : (mark b : ℕ) (bytes : List ℕ) → mark ∷ [] ≡ encode_lower (b ∷ bytes) → ⊥
no_mark mark b bytes e =
    let len : length (encode_lower (b ∷ bytes)) ≡ 2 * length (b ∷ bytes) = length-encode_with lower_digits (b ∷ bytes) in
    let one : 1 ≡ length (encode_lower (b ∷ bytes)) = ap (λ (t : List ℕ). length t) e in
    absurd (omega (arith, len, one))

-- a word is the text of one list of bytes
pub one_hex : (mark : ℕ) (a b : List ℕ) → IsBytes a → IsBytes b → hex_word mark a ≡ hex_word mark b → a ≡ b
one_hex mark [] [] p q e = refl
one_hex mark [] (b ∷ bytes) p q e = absurd (no_mark mark b bytes e)
one_hex mark (a ∷ bytes) [] p q e = absurd (no_mark mark a bytes (sym e))
one_hex mark (a ∷ rest) (b ∷ bs) p q e = same_ok (decode_of (encode_lower (a ∷ rest))) (a ∷ rest) (b ∷ bs) (decode_of-encode_lower (a ∷ rest) p) (ap decode_of e ∙ decode_of-encode_lower (b ∷ bs) q)

-- the text of bytes is read as these bytes
pub bytes_again : (mark : ℕ) (bytes : List ℕ) → IsBytes bytes → hex_bytes mark (hex_word mark bytes) ≡ bytes
bytes_again mark bytes all =
    let word = hex_word mark bytes in
    let is = hex_again mark bytes all in
    sym (one_hex mark bytes (hex_bytes mark word) all (hex_are_bytes mark word is) (hex_back mark word is))

-- what the digits decode to
pub spelled : (mark : ℕ) (word bytes : List ℕ) → is_hex_word mark word ≡ true → bytes ≡ hex_bytes mark word → (word ≡ hex_word mark bytes) × IsBytes bytes
spelled mark word bytes is bytes_are = (hex_back mark word is ∙ ap (hex_word mark) (sym bytes_are), subst IsBytes (sym bytes_are) (hex_are_bytes mark word is))
