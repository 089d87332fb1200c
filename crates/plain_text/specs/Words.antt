-- Words: a number in decimal digits, and bytes in hex digits.
use Rattle.std.specs.Prelude.{ℕ, ◌%◌, Bool, ◌==◌, nat_le, nat_lt, ◌&&◌, ◌||◌, List, [], ◌∷◌, length, slice_index, Option, Some, None, Result, Ok, Err, if◌then◌else◌, decimal, bytes_eq}
use Rattle.std.specs.List.{list_all}
use Rattle.std.specs.Str.Parse.{digits_value}
use Rattle.hex.specs.Hex.{decode_of, encode_lower}

-- the number that a word is the decimal text of, where it is in a range
unfoldable pub number_in : ℕ → ℕ → List ℕ → Option ℕ
number_in low high word =
    if (bytes_eq (decimal (digits_value 10 word)) word && nat_le low (digits_value 10 word)) && nat_le (digits_value 10 word) high
    then Some (digits_value 10 word) else None

-- the text of bytes: lower-case hex digits, two a byte, or the mark for no bytes
abbrev pub hex_word : ℕ → List ℕ → List ℕ
hex_word mark [] = mark ∷ []
hex_word mark (b ∷ bytes) = encode_lower (b ∷ bytes)

-- the word is this one character
abbrev pub is_mark : ℕ → List ℕ → Bool
is_mark mark word = (length word == 1) && (slice_index word 0 == mark)

-- a lower-case hex digit
abbrev pub is_lower : ℕ → Bool
is_lower b = (nat_le 48 b && nat_le b 57) || (nat_le 97 b && nat_le b 102)

-- lower-case digits, two a byte, for at least one byte
abbrev pub is_pairs : List ℕ → Bool
is_pairs word = (nat_lt 0 (length word) && (length word % 2 == 0)) && list_all is_lower word

-- the word is the text of bytes
abbrev pub is_hex_word : ℕ → List ℕ → Bool
is_hex_word mark word = is_mark mark word || is_pairs word

-- the bytes that it is the text of
abbrev pub decoded : {E : Type 0} → Result (List ℕ) E → List ℕ
decoded (Ok bytes) = bytes
decoded (Err e) = []

unfoldable pub hex_bytes : ℕ → List ℕ → List ℕ
hex_bytes mark word = if is_mark mark word then [] else decoded (decode_of word)
