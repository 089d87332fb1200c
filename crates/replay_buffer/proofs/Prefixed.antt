-- How a frame lies: what stands before it, and that both are read again.
use Rattle.std.proofs.Common.{◌≡◌, ◌≢◌, ℕ, ◌+◌, ◌-◌, ◌*◌, ◌<◌, ◌≤◌, ◌^◌, ◌/◌, ◌%◌, List, [], ◌∷◌, ◌++◌, length, take, drop, if◌then◌else◌, nat_eq, refl, sym, ap, ◌∙◌, append_assoc, inl, inr, arith}
use Rattle.std.proofs.lemmas.Bool.{cases_lt}
use Rattle.std.proofs.lemmas.Bool.Decides.{nat_tests}
use Rattle.std.proofs.lemmas.List.{drop-append-le, length-append, length-drop, take_at, drop_at}
use Rattle.std.proofs.Math.ListN.{drop_of_length-le}
use Rattle.std.proofs.Math.Seq.{drop-append-add}
use Rattle.byteorder.specs.Endian.{big_bytes, big_number}
use Rattle.byteorder.specs.Numbers.{big_number-reads_back, length-bytes_high_first}
use Rattle.rs_frame.specs.Framed.{framed}
use Rattle.replay_buffer.specs.Laid.{Begins, IsPlain, laid, length_in, prefix_in, prefix_len}
use Rattle.replay_buffer.specs.declared.laid.TheConstants.{SHORT, LONG}

-- ---- how many bytes stand before a frame

prefix-short : (n : ℕ) → n ≤ SHORT → prefix_len n ≡ 1
prefix-short n le = grind (arith, nat_tests)

prefix-plain : (n : ℕ) → SHORT < n → n < LONG → prefix_len n ≡ 3
prefix-plain n lt top = grind (arith, nat_tests)

prefix-long : (n : ℕ) → LONG ≤ n → prefix_len n ≡ 4
prefix-long n le = grind (arith, nat_tests)

-- one byte before a short frame, three before a plain one, and four before a long one
data BySize (n : ℕ) : Type 0 where
  short : n ≤ SHORT → prefix_len n ≡ 1 → BySize n
  plain : SHORT < n → n < LONG → prefix_len n ≡ 3 → BySize n
  long : LONG ≤ n → prefix_len n ≡ 4 → BySize n

by_size : (n : ℕ) → BySize n
by_size n = elim (cases_lt SHORT n) [
  | inr le ↦ short le (prefix-short n le)
  | inl lt ↦ elim (cases_lt n LONG) [
    | inl top ↦ plain lt top (prefix-plain n lt top)
    | inr le ↦ long le (prefix-long n le)
  ]
]

pub prefix-least : (n : ℕ) → 1 ≤ prefix_len n
prefix-least n = elim (by_size n) [ short le is ↦ omega (arith, is) | plain lt top is ↦ omega (arith, is) | long le is ↦ omega (arith, is) ]

pub prefix-most : (n : ℕ) → prefix_len n ≤ 4
prefix-most n = elim (by_size n) [ short le is ↦ omega (arith, is) | plain lt top is ↦ omega (arith, is) | long le is ↦ omega (arith, is) ]

-- ---- how many bytes a frame takes

length-prefix : (n : ℕ) → length (big_bytes 3 n) ≡ 3
length-prefix n = length-bytes_high_first 3 n

pub length-laid : (f : List ℕ) → length (laid f) ≡ prefix_len (length f) + length f
length-laid f =
    omega (arith, length-drop (4 - prefix_len (length f)) (1 ∷ framed f), length-append (big_bytes 3 (length f)) f, length-prefix (length f), prefix-least (length f), prefix-most (length f))

-- at most a fifth more than its own
pub few-laid : (f : List ℕ) → 6 ≤ length f → 5 * length (laid f) ≤ 6 * length f
few-laid f more = elim (by_size (length f)) [
  | short le is ↦ omega (arith, length-laid f, is)
  | plain lt top is ↦ omega (arith, length-laid f, is)
  | long le is ↦ omega (arith, length-laid f, is)
]

-- ---- the three forms

pub laid-short : (f : List ℕ) → length f ≤ SHORT → laid f ≡ length f ∷ f
laid-short f le =
    let byte : length f % 256 ≡ length f = omega arith in
    ap (λ p. drop (4 - p) (1 ∷ framed f)) (prefix-short (length f) le) ∙ ap (λ n. n ∷ f) byte

pub laid-plain : (f : List ℕ) → IsPlain f → laid f ≡ framed f
laid-plain f is = ap (λ p. drop (4 - p) (1 ∷ framed f)) (prefix-plain (length f) is.longer is.shorter)

pub laid-long : (f : List ℕ) → LONG ≤ length f → laid f ≡ 1 ∷ framed f
laid-long f le = ap (λ p. drop (4 - p) (1 ∷ framed f)) (prefix-long (length f) le)

-- a frame that neither one byte nor three stand before
pub laid-else : (f : List ℕ) (p : ℕ) → p ≡ prefix_len (length f) → p ≢ 1 → p ≢ 3 → laid f ≡ 1 ∷ framed f
laid-else f p is one three = elim (by_size (length f)) [
  | short le size ↦ absurd (one (is ∙ size))
  | plain lt top size ↦ absurd (three (is ∙ size))
  | long le size ↦ laid-long f le
]

-- ---- reading the first frame of some bytes

-- this is the frame, and these bytes are left
pub record First (bytes f : List ℕ) (rest : List ℕ) : Type 0 where
  pub prefix : prefix_in bytes ≡ prefix_len (length f)
  pub len : length_in bytes ≡ length f
  pub frame : take (length f) (drop (prefix_len (length f)) bytes) ≡ f
  pub left : drop (prefix_len (length f) + length f) bytes ≡ rest

first_after : (bytes before f rest : List ℕ) → bytes ≡ before ++ (f ++ rest) → length before ≡ prefix_len (length f) → prefix_in bytes ≡ prefix_len (length f)
    → length_in bytes ≡ length f → First bytes f rest
first_after bytes before f rest is size prefix len =
    let n = length f in
    let p = prefix_len (length f) in
    record {
      prefix = prefix;
      len = len;
      frame = ap (λ l. take n (drop p l)) is ∙ ap (take n) (drop_at before (f ++ rest) p size) ∙ take_at f rest n refl;
      left = ap (drop (p + n)) (is ∙ sym (append_assoc before f rest)) ∙ drop_at (before ++ f) rest (p + n) (omega (arith, length-append before f, size));
    }

-- the length after three bytes of prefix or four
length_in-three : (bytes : List ℕ) → prefix_in bytes ≡ 3 → length_in bytes ≡ big_number 3 bytes
length_in-three bytes is = ap (λ p. if nat_eq p 1 then big_number 1 bytes else big_number 3 (drop (p - 3) bytes)) is

length_in-four : (bytes : List ℕ) → prefix_in bytes ≡ 4 → length_in bytes ≡ big_number 3 (drop 1 bytes)
length_in-four bytes is = ap (λ p. if nat_eq p 1 then big_number 1 bytes else big_number 3 (drop (p - 3) bytes)) is

length_in-one : (bytes : List ℕ) → prefix_in bytes ≡ 1 → length_in bytes ≡ big_number 1 bytes
length_in-one bytes is = ap (λ p. if nat_eq p 1 then big_number 1 bytes else big_number 3 (drop (p - 3) bytes)) is

number_again : (f rest : List ℕ) → length f < 2 ^ 24 → big_number 3 (framed f ++ rest) ≡ length f
number_again f rest lt = big_number-reads_back 3 (length f) (f ++ rest) (omega arith)

first-short : (bytes f rest : List ℕ) → bytes ≡ laid f ++ rest → 6 ≤ length f → length f ≤ SHORT → First bytes f rest
first-short bytes f rest b more le =
    let is : bytes ≡ length f ∷ (f ++ rest) = b ∙ ap (λ l. l ++ rest) (laid-short f le) in
    let one : prefix_in (length f ∷ (f ++ rest)) ≡ 1 = grind (arith, nat_tests) in
    let prefix : prefix_in bytes ≡ 1 = ap prefix_in is ∙ one in
    let number : big_number 1 (length f ∷ (f ++ rest)) ≡ length f = omega arith in
    let size = prefix-short (length f) le in
    first_after bytes (length f ∷ []) f rest is (sym size) (prefix ∙ sym size) (length_in-one bytes prefix ∙ ap (big_number 1) is ∙ number)

first-plain : (bytes f rest : List ℕ) → bytes ≡ laid f ++ rest → IsPlain f → First bytes f rest
first-plain bytes f rest b only =
    let is : bytes ≡ framed f ++ rest = b ∙ ap (λ l. l ++ rest) (laid-plain f only) in
    let top : length f / 256 ^ 2 % 256 ≡ 0 = omega (arith, only.shorter) in
    let three : prefix_in (framed f ++ rest) ≡ 3 = ap (λ n. if nat_eq n 0 then 3 else (if nat_eq n 1 then 4 else 1)) top in
    let prefix : prefix_in bytes ≡ 3 = ap prefix_in is ∙ three in
    let size = prefix-plain (length f) only.longer only.shorter in
    first_after bytes (big_bytes 3 (length f)) f rest is (sym size) (prefix ∙ sym size) (length_in-three bytes prefix ∙ ap (big_number 3) is ∙ number_again f rest (omega (arith, only.shorter)))

first-long : (bytes f rest : List ℕ) → bytes ≡ laid f ++ rest → LONG ≤ length f → length f < 2 ^ 24 → First bytes f rest
first-long bytes f rest b le lt =
    let is : bytes ≡ 1 ∷ (framed f ++ rest) = b ∙ ap (λ l. l ++ rest) (laid-long f le) in
    let prefix : prefix_in bytes ≡ 4 = ap prefix_in is in
    let size = prefix-long (length f) le in
    first_after bytes (1 ∷ big_bytes 3 (length f)) f rest is (sym size) (prefix ∙ sym size) (length_in-four bytes prefix ∙ ap (λ l. big_number 3 (drop 1 l)) is ∙ number_again f rest lt)

pub first : (bytes f : List ℕ) (b : Begins bytes f) → First bytes f b.rest
first bytes f b = elim (by_size (length f)) [
  | short le is ↦ first-short bytes f b.rest b.is b.longer le
  | plain lt top is ↦ first-plain bytes f b.rest b.is (record { longer = lt; shorter = top })
  | long le is ↦ first-long bytes f b.rest b.is le b.shorter
]

-- more bytes than are read of a frame before its length is known
pub begins-long : (bytes f : List ℕ) → Begins bytes f → 7 ≤ length bytes
begins-long bytes f b = omega (arith, ap length b.is, length-append (laid f) b.rest, length-laid f, prefix-least (length f), b.longer)

-- ---- a frame in pieces

pub drop-two : (start : ℕ) (xs ys : List ℕ) → drop start (xs ++ ys) ≡ drop start xs ++ drop (start - length xs) ys
drop-two start xs ys = elim (cases_lt start (length xs)) [
  | inl lt ↦
      let none : start - length xs ≡ 0 = omega arith in
      drop-append-le start xs ys (omega arith) ∙ ap (λ n. drop start xs ++ drop n ys) (sym none)
  | inr le ↦
      let sum : start ≡ length xs + (start - length xs) = omega arith in
      let gone : drop start xs ≡ [] = drop_of_length-le xs le in
      ap (λ n. drop n (xs ++ ys)) sum ∙ drop-append-add xs ys (start - length xs) ∙ ap (λ l. l ++ drop (start - length xs) ys) (sym gone)
]

-- the bytes of three pieces from one on
pub drop-three : (start : ℕ) (xs ys zs : List ℕ)
    → drop start xs ++ (drop (start - length xs) ys ++ drop (start - length xs - length ys) zs) ≡ drop start (xs ++ (ys ++ zs))
drop-three start xs ys zs =
    ap (λ l. drop start xs ++ l) (sym (drop-two (start - length xs) ys zs)) ∙ sym (drop-two start xs (ys ++ zs))
