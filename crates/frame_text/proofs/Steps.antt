-- The words of a line, and the spaces between them.
use Rattle.std.proofs.Common.{◌≡◌, ℕ, ◌+◌, ◌%◌, ◌<◌, ◌^◌, ◌==◌, Bool, true, false, ◌&&◌, cond, List, [], ◌∷◌, ◌++◌, length, slice_index, Option, Some, None, ltb, refl, sym, ap, ◌∙◌, arith}
use Rattle.std.specs.Prelude.{decimal}
use Rattle.std.specs.List.{AllByRecursion, list_all, position_or_len}
use Rattle.std.proofs.lemmas.List.{append-nil, take_at, drop_at, length-append}
use Rattle.std.proofs.lemmas.Fmt.{decimal_by_steps}
use Rattle.std.proofs.lemmas.Bool.{and_parts, lt-ltb, le-ltb}
use Rattle.std.proofs.lemmas.Bool.Decides.{nat_tests}
use Rattle.hex.specs.Hex.{IsBytes, encode_lower, lower_digits}
use Rattle.hex.proofs.HexLemmas.{length-encode_with}
use Rattle.frame_text.specs.Lines.{HasOption, spaced}
use Rattle.frame_text.specs.Words.{blob_word, option_word}
use Rattle.frame_text.specs.Spelled.{bytes_of, cut_word, is_dash, is_space, option_of}
use Rattle.plain_text.specs.Words.{is_lower}
use Rattle.plain_text.proofs.Hex as hex
use Rattle.plain_text.proofs.Hex.{encode_is_lower}

-- each byte is above the space, and so neither a space nor a line feed
abbrev pub AboveSpace : List ℕ → Type 0
AboveSpace bytes = AllByRecursion (λ b. 32 < b) bytes

no_space : (b : ℕ) → 32 < b → is_space b ≡ false
no_space b above = grind (arith, nat_tests)

pos_at : (w rest : List ℕ) → AboveSpace w → position_or_len is_space (w ++ (32 ∷ rest)) ≡ length w
pos_at [] rest h = refl
pos_at (b ∷ w) rest h = rw (no_space b h.0, pos_at w rest h.1) (omega arith)

pos_none : (w : List ℕ) → AboveSpace w → position_or_len is_space w ≡ length w
pos_none [] h = refl
pos_none (b ∷ w) h = rw (no_space b h.0, pos_none w h.1) (omega arith)

cut_again : (w rest : List ℕ) → AboveSpace w → cut_word (w ++ (32 ∷ rest)) ≡ (w, Some rest)
cut_again w rest h =
    let long : ltb (length w) (length (w ++ (32 ∷ rest))) ≡ true = lt-ltb _ _ (omega (arith, length-append w (32 ∷ rest))) in
    rw (pos_at w rest h, long, take_at w (32 ∷ rest) (length w) refl, drop_at w (32 ∷ rest) (length w) refl) refl

cut_last : (w : List ℕ) → AboveSpace w → cut_word w ≡ (w, None)
cut_last w h =
    let short : ltb (length w) (length w) ≡ false = le-ltb _ _ (omega arith) in
    rw (pos_none w h, short) refl

-- what is left of a line before these words
abbrev pub rest_of : List (List ℕ) → Option (List ℕ)
rest_of [] = None
rest_of (w ∷ ws) = Some (w ++ spaced ws)

pub cut_spaced : (w : List ℕ) (ws : List (List ℕ)) → AboveSpace w → cut_word (w ++ spaced ws) ≡ (w, rest_of ws)
cut_spaced w [] h = ap cut_word (append-nil w) ∙ cut_last w h
cut_spaced w (v ∷ ws) h = cut_again w (v ++ spaced ws) h

-- ---- words above the space

AboveSpace-append : (v w : List ℕ) → AboveSpace v → AboveSpace w → AboveSpace (v ++ w)
AboveSpace-append [] w h k = k
AboveSpace-append (b ∷ v) w h k = (h.0, AboveSpace-append v w h.1 k)

digit_above : (n : ℕ) → n < 10 → 32 < 48 + n
digit_above n lt = omega arith

pub AboveSpace-decimal : (n : ℕ) → n < 2 ^ 64 → AboveSpace (decimal n)
AboveSpace-decimal n small = decimal_by_steps (λ k ds. AboveSpace ds) (λ k lt. (digit_above k lt, tt)) (λ k ds le h. AboveSpace-append ds ((48 + k % 10) ∷ []) h (digit_above (k % 10) (omega arith), tt)) n small

lower_above : (b : ℕ) → is_lower b ≡ true → 32 < b
lower_above b lower = grind (arith, nat_tests)

all_lower : (word : List ℕ) → list_all is_lower word ≡ true → AboveSpace word
all_lower [] h = tt
all_lower (b ∷ word) h =
    let p = and_parts (is_lower b) (list_all is_lower word) h in
    (lower_above b p.0, all_lower word p.1)

pub AboveSpace-blob : (bytes : List ℕ) → IsBytes bytes → AboveSpace (blob_word bytes)
AboveSpace-blob [] all = (omega arith, tt)
AboveSpace-blob (b ∷ bytes) all = all_lower (encode_lower (b ∷ bytes)) (encode_is_lower (b ∷ bytes) all)

pub AboveSpace-option : (bytes : Option (List ℕ)) → HasOption bytes → AboveSpace (option_word bytes)
AboveSpace-option None all = (omega arith, tt)
AboveSpace-option (Some bytes) all = AboveSpace-blob bytes all

-- ---- bytes from their words

not_one : (n : ℕ) → n % 2 ≡ 0 → (n == 1) ≡ true → ⊥
not_one n even one = grind (arith, nat_tests)

even_is_not : (word : List ℕ) (letter : ℕ) → length word % 2 ≡ 0 → ((length word == 1) && (slice_index word 0 == letter)) ≡ false
even_is_not word letter even = elim (length word == 1) as (λ v. (length word == 1) ≡ v → (v && (slice_index word 0 == letter)) ≡ false) [
  | true ↦ λ one. absurd (not_one (length word) even one)
  | false ↦ λ other. refl
] refl

even : (bytes : List ℕ) → length (encode_lower bytes) % 2 ≡ 0
even bytes = let len = length-encode_with lower_digits bytes in omega (arith, len)

pub bytes_again : (bytes : List ℕ) → IsBytes bytes → bytes_of (blob_word bytes) ≡ bytes
bytes_again bytes all = hex.bytes_again 46 bytes all

pub no_dash : (bytes : List ℕ) → is_dash (blob_word bytes) ≡ false
no_dash [] = refl
no_dash (b ∷ bytes) = even_is_not (encode_lower (b ∷ bytes)) 45 (even (b ∷ bytes))

pick_option : (v : Bool) (a b : List ℕ) → v ≡ false → a ≡ b → cond {A = Option (List ℕ)} v None (Some a) ≡ Some b
pick_option true a b e same = absurd cc
pick_option false a b e same = ap (λ (x : List ℕ). Some x) same

pub option_again : (bytes : Option (List ℕ)) → HasOption bytes → option_of (option_word bytes) ≡ bytes
option_again None all = refl
option_again (Some bytes) all = pick_option (is_dash (blob_word bytes)) (bytes_of (blob_word bytes)) bytes (no_dash bytes) (bytes_again bytes all)

-- ---- one line, one list of words

abbrev pub AllAboveSpace : List (List ℕ) → Type 0
AllAboveSpace [] = Unit {0}
AllAboveSpace (w ∷ ws) = AboveSpace w × AllAboveSpace ws

same_some : (x y : List ℕ) → Some x ≡ Some y → x ≡ y
same_some x y e = cc

cons_is : (w v : List ℕ) (ws vs : List (List ℕ)) → w ≡ v → ws ≡ vs → (w ∷ ws) ≡ (v ∷ vs)
cons_is w v ws vs a b = cc

same_rest : (ws vs : List (List ℕ)) → AllAboveSpace ws → AllAboveSpace vs → rest_of ws ≡ rest_of vs → ws ≡ vs
same_rest [] [] h k e = refl
same_rest [] (v ∷ vs) h k e = absurd cc
same_rest (w ∷ ws) [] h k e = absurd cc
same_rest (w ∷ ws) (v ∷ vs) h k e =
    let cut : (w, rest_of ws) ≡ (v, rest_of vs) = sym (cut_spaced w ws h.0) ∙ ap cut_word (same_some (w ++ spaced ws) (v ++ spaced vs) e) ∙ cut_spaced v vs k.0 in
    let first : w ≡ v = ap (λ (p : List ℕ × Option (List ℕ)). p.0) cut in
    let others : rest_of ws ≡ rest_of vs = ap (λ (p : List ℕ × Option (List ℕ)). p.1) cut in
    cons_is w v ws vs first (same_rest ws vs h.1 k.1 others)

pub same_words : (w v : List ℕ) (ws vs : List (List ℕ)) → AboveSpace w → AboveSpace v → AllAboveSpace ws → AllAboveSpace vs → w ++ spaced ws ≡ v ++ spaced vs → (w ∷ ws) ≡ (v ∷ vs)
same_words w v ws vs hw hv hws hvs e = same_rest (w ∷ ws) (v ∷ vs) (hw, hws) (hv, hvs) (ap (λ (x : List ℕ). Some x) e)
