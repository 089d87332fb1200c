-- A number of 1 to 9 digits is text, and parsing it gives its value.
use Rattle.std.proofs.Common.{◌≡◌, ◌==◌, cond, ℕ, ◌<◌, ◌≤◌, ◌^◌, true, false, List, [], ◌∷◌, length, drop, Result, Ok, Err, refl, ap, sym, ◌∙◌, subst, arith}
use Rattle.std.specs.Prelude.{IsUtf8}
use Rattle.std.specs.List.{list_all}
use Rattle.std.specs.Char.{digit_value, is_ascii_digit}
use Rattle.std.specs.Result.{result_unwrap_or}
use Rattle.std.specs.Str.Parse.{AllDigits, IsNumeral, ParsesUnsigned, digits_value, without_leading_plus}
use Rattle.std.proofs.lemmas.Bool.Decides.{nat_tests}
use Rattle.std.proofs.lemmas.Fmt.{IsAscii-from_digits}
use Rattle.std.proofs.lemmas.Str.{IsUtf8-from_ascii}
use Rattle.std.proofs.lemmas.Str.Parse.{digit_from_value, digits_value_short, numerals_by_value, tells_digits}
use Rattle.handlers.specs.Values.{is_number}

digit_below : (c : ℕ) → is_ascii_digit c ≡ true → digit_value c < 10
digit_below c h = grind (arith, nat_tests)

digits_only : (bs : List ℕ) → list_all is_ascii_digit bs ≡ true → AllDigits 10 bs
digits_only [] h = tt
digits_only (c ∷ bs) h = (digit_below c (grind (arith, nat_tests)), digits_only bs (grind (arith, nat_tests)))

number_digits : (bs : List ℕ) → is_number bs ≡ true → AllDigits 10 bs
number_digits bs h = digits_only bs (grind (arith, nat_tests))

number_length : (bs : List ℕ) → is_number bs ≡ true → (0 < length bs) × (length bs ≤ 9)
number_length bs h = grind (arith, nat_tests)

no_plus : (bs : List ℕ) → AllDigits 10 bs → without_leading_plus bs ≡ bs
no_plus [] h = refl
no_plus (c ∷ bs) h =
    let digit : (48 ≤ c) × (c ≤ 57) = digit_from_value c h.0 in
    let other : (c == 43) ≡ false = grind (arith, nat_tests) in
    ap (λ v. drop (cond v 1 0) (c ∷ bs)) other

pub number_is_text : (bs : List ℕ) → is_number bs ≡ true → IsUtf8 bs
number_is_text bs h = IsUtf8-from_ascii bs (IsAscii-from_digits bs (number_digits bs h))

number_fits : (bs : List ℕ) → is_number bs ≡ true → IsNumeral 10 bs × (digits_value 10 bs < 2 ^ 64)
number_fits bs h =
    let short : digits_value 10 bs < 10 ^ 9 = digits_value_short (numerals_by_value (AllDigits 10) tells_digits) bs 9 (number_digits bs h) (number_length bs h).1 in
    (((number_length bs h).0, number_digits bs h), omega (arith, short))

pub number_parsed : {E : Type 0} (bs : List ℕ) (r : Result ℕ E) → is_number bs ≡ true → ParsesUnsigned 64 10 bs r → result_unwrap_or r 0 ≡ digits_value 10 bs
number_parsed bs (Ok n) h p = p.1 ∙ ap (λ v. digits_value 10 v) (no_plus bs (number_digits bs h))
number_parsed bs (Err e) h p = absurd (p (subst (λ v. IsNumeral 10 v × (digits_value 10 v < 2 ^ 64)) (sym (no_plus bs (number_digits bs h))) (number_fits bs h)))

pub ruleset numbers = (number_is_text, number_parsed)
