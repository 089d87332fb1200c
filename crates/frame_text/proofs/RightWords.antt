-- The line of a frame has no wrong word.
use Rattle.std.proofs.Common.{◌≡◌, ℕ, zero, suc, ◌+◌, ◌<◌, ◌≤◌, ◌^◌, Bool, true, false, ◌&&◌, ◌||◌, nat_le, not, List, [], ◌∷◌, ◌++◌, length, Option, Some, None, Result, Ok, refl, ap, ◌∙◌, arith, inl, inr}
use Rattle.std.specs.Prelude.{bytes_eq, IfSome, codes, decimal, is_some}
use Rattle.std.proofs.lemmas.Bool.{and_parts, cases_lt, le-leb}
use Rattle.hex.specs.Hex.{IsBytes}
use Rattle.rs_wire.specs.declared.message.Message.{Message}
use Rattle.rs_frame.specs.Spelling.{FieldsFit, MessageFits}
use Rattle.rs_frame.specs.Table.{row_of}
use Rattle.rs_frame.specs.declared.row.Row.{Row}
use Rattle.rs_frame.specs.declared.row.Row.TheVariants as rows
use Rattle.rs_wire.specs.declared.words.Kind.{Kind}
use Rattle.rs_wire.specs.declared.words.Kind.TheVariants as kinds
use Rattle.rs_frame.specs.declared.frame.Frame.{Frame}
use Rattle.rs_frame.specs.declared.frame.Frame.TheVariants as frames
use Rattle.frame_text.specs.declared.fault.Wrong.{Wrong}
use Rattle.frame_text.specs.declared.fault.Wrong.TheVariants as wrongs
use Rattle.frame_text.specs.Lines.{HasBytes, HasMessage, HasOption, fields_of, line_of}
use Rattle.frame_text.specs.Names.{frame_name}
use Rattle.frame_text.specs.Reading.{◌>>=◌, amount_at, asks, asks_in, below_31_at, below_63_at, blob_at, cancel_row, counted_row, end_at, error_row, ext_row, fits_asked, flags_at, is_short, is_unnamed, keepalive_row, kept_flags_at, lease_row, message_at, metadata_push_row, decimal_at, option_at, other_row, payload_row, plain_row, request_n_row, resume_ok_row, resume_row, named_row, setup_names_at, setup_numbers_at, setup_row, short_at, short_option_at, stream_at, stream_or_zero_at, tested, token_at, unknown_row, unnamed_at, version_at, words_of, zero_at}
use Rattle.frame_text.specs.Spelled.{bytes_of, channel_words, follows_words, meaning_in, is_blob, is_dash, payload_words, respond_words, setup_words}
use Rattle.plain_text.specs.Words.{number_in}
use Rattle.frame_text.specs.Words.{blob_word, letters_word, letter_if, option_word}
use Rattle.frame_text.proofs.OneFrame.{channel_clean, made, name_clean, payload_clean, respond_clean, setup_clean}
use Rattle.plain_text.proofs.Numbers.{number_again}
use Rattle.plain_text.proofs.Hex.{hex_again}
use Rattle.frame_text.proofs.Steps.{AboveSpace, AboveSpace-option, bytes_again, no_dash, AboveSpace-blob, AboveSpace-decimal, cut_spaced, rest_of}

passed : (b : Bool) (fault : Wrong) (rest : Option (List ℕ)) → b ≡ true → tested b fault rest ≡ Ok rest
passed true fault rest e = refl
passed false fault rest e = absurd cc

number_step : (place low high n : ℕ) (ws : List (List ℕ)) → n < 2 ^ 64 → low ≤ n → n ≤ high → decimal_at place low high (rest_of (decimal n ∷ ws)) ≡ Ok (rest_of ws)
unfolding decimal_at
number_step place low high n ws small l h =
    ap (λ (c : List ℕ × Option (List ℕ)). tested (is_some (number_in low high c.0)) (wrongs.Number place) c.1) (cut_spaced (decimal n) ws (AboveSpace-decimal n small))
    ∙ passed (is_some (number_in low high (decimal n))) (wrongs.Number place) (rest_of ws) (ap (λ (o : Option ℕ). is_some o) (number_again low high n small l h))

abbrev Rest : Type 0
Rest = List ℕ × Option (List ℕ)

abbrev Left : Type 0
Left = Result (Option (List ℕ)) Wrong

zero_step : (ws : List (List ℕ)) → zero_at (rest_of (codes "0" ∷ ws)) ≡ Ok (rest_of ws)
unfolding zero_at
zero_step ws = ap (λ (c : Rest). tested (bytes_eq c.0 (codes "0")) (wrongs.Number 1) c.1) (cut_spaced (codes "0") ws (omega arith, tt))

flags_step : {A : Type 0} (place : ℕ) (table : List (List ℕ × A)) (w : List ℕ) (ws : List (List ℕ)) → AboveSpace w → is_some (meaning_in table w) ≡ true → flags_at place table (rest_of (w ∷ ws)) ≡ Ok (rest_of ws)
unfolding flags_at
flags_step place table w ws clean is =
    ap (λ (c : Rest). tested (is_some (meaning_in table c.0)) (wrongs.Word place) c.1) (cut_spaced w ws clean) ∙ passed (is_some (meaning_in table w)) (wrongs.Word place) (rest_of ws) is

blob_step : (place : ℕ) (bytes : List ℕ) (ws : List (List ℕ)) → IsBytes bytes → blob_at place (rest_of (blob_word bytes ∷ ws)) ≡ Ok (rest_of ws)
unfolding blob_at
blob_step place bytes ws all =
    ap (λ (c : Rest). tested (is_blob c.0) (wrongs.Hex place) c.1) (cut_spaced (blob_word bytes) ws (AboveSpace-blob bytes all)) ∙ passed (is_blob (blob_word bytes)) (wrongs.Hex place) (rest_of ws) (hex_again 46 bytes all)

both : (a b : Bool) → a ≡ true → b ≡ true → (a && b) ≡ true
both true b e f = f
both false b e f = absurd cc

or_right : (a b : Bool) → b ≡ true → (a || b) ≡ true
or_right true b e = refl
or_right false b e = e

is_short_again : (most : ℕ) (bytes : List ℕ) → IsBytes bytes → length bytes ≤ most → is_short most (blob_word bytes) ≡ true
is_short_again most bytes all le =
    both (is_blob (blob_word bytes)) (nat_le (length (bytes_of (blob_word bytes))) most) (hex_again 46 bytes all)
    (ap (λ (b : List ℕ). nat_le (length b) most) (bytes_again bytes all) ∙ le-leb (length bytes) most le)

short_step : (place most : ℕ) (bytes : List ℕ) (ws : List (List ℕ)) → IsBytes bytes → length bytes ≤ most → short_at place most (rest_of (blob_word bytes ∷ ws)) ≡ Ok (rest_of ws)
unfolding short_at
short_step place most bytes ws all le =
    ap (λ (c : Rest). tested (is_short most c.0) (wrongs.Hex place) c.1) (cut_spaced (blob_word bytes) ws (AboveSpace-blob bytes all)) ∙ passed (is_short most (blob_word bytes)) (wrongs.Hex place) (rest_of ws) (is_short_again most bytes all le)

is_option_again : (o : Option (List ℕ)) → HasOption o → (is_dash (option_word o) || is_blob (option_word o)) ≡ true
is_option_again None all = refl
is_option_again (Some bytes) all = or_right (is_dash (blob_word bytes)) (is_blob (blob_word bytes)) (hex_again 46 bytes all)

option_step : (place : ℕ) (o : Option (List ℕ)) (ws : List (List ℕ)) → HasOption o → option_at place (rest_of (option_word o ∷ ws)) ≡ Ok (rest_of ws)
unfolding option_at
option_step place o ws all =
    ap (λ (c : Rest). tested (is_dash c.0 || is_blob c.0) (wrongs.Hex place) c.1) (cut_spaced (option_word o) ws (AboveSpace-option o all)) ∙ passed (is_dash (option_word o) || is_blob (option_word o)) (wrongs.Hex place) (rest_of ws) (is_option_again o all)

is_short_option : (most : ℕ) (o : Option (List ℕ)) → HasOption o → IfSome o (λ b. length b < suc most) → (is_dash (option_word o) || is_short most (option_word o)) ≡ true
is_short_option most None all le = refl
is_short_option most (Some bytes) all le = or_right (is_dash (blob_word bytes)) (is_short most (blob_word bytes)) (is_short_again most bytes all (omega (arith, le)))

short_option_step : (place most : ℕ) (o : Option (List ℕ)) (ws : List (List ℕ)) → HasOption o → IfSome o (λ b. length b < suc most) → short_option_at place most (rest_of (option_word o ∷ ws)) ≡ Ok (rest_of ws)
unfolding short_option_at
short_option_step place most o ws all le =
    ap (λ (c : Rest). tested (is_dash c.0 || is_short most c.0) (wrongs.Hex place) c.1) (cut_spaced (option_word o) ws (AboveSpace-option o all)) ∙ passed (is_dash (option_word o) || is_short most (option_word o)) (wrongs.Hex place) (rest_of ws) (is_short_option most o all le)

fits_again : (o : Option (List ℕ)) → fits_asked (is_some o) (is_dash (option_word o)) ≡ true
fits_again None = refl
fits_again (Some bytes) = ap (λ (d : Bool). not d) (no_dash bytes)

token_step : (place : ℕ) (o : Option (List ℕ)) (ws : List (List ℕ)) → HasOption o → IfSome o (λ b. length b < suc 65535) → token_at place (is_some o) (rest_of (option_word o ∷ ws)) ≡ Ok (rest_of ws)
unfolding token_at
token_step place o ws all le =
    ap (λ (c : Rest). tested (is_dash c.0 || is_short 65535 c.0) (wrongs.Hex place) c.1 >>= λ rest. tested (fits_asked (is_some o) (is_dash c.0)) (wrongs.Word place) rest) (cut_spaced (option_word o) ws (AboveSpace-option o all))
    ∙ ap (λ (r : Left). r >>= λ rest. tested (fits_asked (is_some o) (is_dash (option_word o))) (wrongs.Word place) rest) (passed (is_dash (option_word o) || is_short 65535 (option_word o)) (wrongs.Hex place) (rest_of ws) (is_short_option 65535 o all le))
    ∙ passed (fits_asked (is_some o) (is_dash (option_word o))) (wrongs.Word place) (rest_of ws) (fits_again o)

message_step : (place : ℕ) (m : Message) (ws : List (List ℕ)) → HasMessage m → MessageFits m → message_at place (rest_of (option_word m.metadata ∷ blob_word m.content ∷ ws)) ≡ Ok (rest_of ws)
unfolding message_at
message_step place m ws has fits =
    ap (λ (r : Left). r >>= blob_at (place + 1)) (short_option_step place 16777215 m.metadata (blob_word m.content ∷ ws) has.0 fits) ∙ blob_step (place + 1) m.content ws has.1

-- ---- type numbers

abbrev is_unknown : Row → Bool
is_unknown rows.Unknown = true
is_unknown row = false

abbrev right : ℕ → Bool
right n = is_unnamed (Some n) || not (is_unknown (row_of n))

abbrev all_right : ℕ → Bool
all_right zero = true
all_right (suc n) = right n && all_right n

right_below : (n k : ℕ) → all_right n ≡ true → k < n → right k ≡ true
right_below zero k h lt = absurd (omega arith)
right_below (suc n) k h lt =
    let parts = and_parts (right n) (all_right n) h in
    elim (cases_lt k n) [
      | inl below ↦ right_below n k parts.1 below
      | inr top ↦
          let e : k ≡ n = omega arith in
          rw e parts.0
    ]

left_is : (a b : Bool) → (a || not b) ≡ true → b ≡ true → a ≡ true
left_is true b e f = refl
left_is false true e f = absurd cc
left_is false false e f = absurd cc

unnamed_again : (n : ℕ) → n < 64 → row_of n ≡ rows.Unknown → is_unnamed (Some n) ≡ true
unnamed_again n lt is = left_is (is_unnamed (Some n)) (is_unknown (row_of n)) (right_below 64 n refl lt) (ap is_unknown is)

unnamed_step : (place n : ℕ) (ws : List (List ℕ)) → n < 64 → row_of n ≡ rows.Unknown → unnamed_at place (rest_of (decimal n ∷ ws)) ≡ Ok (rest_of ws)
unfolding unnamed_at
unnamed_step place n ws lt is =
    ap (λ (c : Rest). tested (is_unnamed (number_in 0 63 c.0)) (wrongs.Number place) c.1) (cut_spaced (decimal n) ws (AboveSpace-decimal n (omega (arith, lt))))
    ∙ passed (is_unnamed (number_in 0 63 (decimal n))) (wrongs.Number place) (rest_of ws) (ap is_unnamed (number_again 0 63 n (omega (arith, lt)) (omega arith) (omega (arith, lt))) ∙ unnamed_again n lt is)

-- ---- words of flags

setup_found : (r l : Bool) → is_some (meaning_in setup_words (letters_word (letter_if r (codes "R") ++ letter_if l (codes "L")))) ≡ true
setup_found false false = refl
setup_found true false = refl
setup_found false true = refl
setup_found true true = refl

setup_asks : (r l : Bool) → asks (meaning_in setup_words (letters_word (letter_if r (codes "R") ++ letter_if l (codes "L")))) ≡ r
setup_asks false false = refl
setup_asks true false = refl
setup_asks false true = refl
setup_asks true true = refl

respond_found : (r : Bool) → is_some (meaning_in respond_words (letters_word (letter_if r (codes "R")))) ≡ true
respond_found false = refl
respond_found true = refl

follows_found : (f : Bool) → is_some (meaning_in follows_words (letters_word (letter_if f (codes "F") ++ letter_if false (codes "C")))) ≡ true
follows_found false = refl
follows_found true = refl

channel_found : (f c : Bool) → is_some (meaning_in channel_words (letters_word (letter_if f (codes "F") ++ letter_if c (codes "C")))) ≡ true
channel_found false false = refl
channel_found true false = refl
channel_found false true = refl
channel_found true true = refl

payload_found : (f c n : Bool) → is_some (meaning_in payload_words (letters_word (letter_if f (codes "F") ++ (letter_if c (codes "C") ++ letter_if n (codes "N"))))) ≡ true
payload_found false false false = refl
payload_found true false false = refl
payload_found false true false = refl
payload_found false false true = refl
payload_found true true false = refl
payload_found true false true = refl
payload_found false true true = refl
payload_found true true true = refl

-- ---- the rows

stream_step : (n : ℕ) (ws : List (List ℕ)) → 0 < n → n < 2 ^ 31 → stream_at (rest_of (decimal n ∷ ws)) ≡ Ok (rest_of ws)
stream_step n ws low high = number_step 1 1 2147483647 n ws (omega (arith, high)) low (omega (arith, high))

stream_or_zero_step : (n : ℕ) (ws : List (List ℕ)) → n < 2 ^ 31 → stream_or_zero_at (rest_of (decimal n ∷ ws)) ≡ Ok (rest_of ws)
stream_or_zero_step n ws high = number_step 1 0 2147483647 n ws (omega (arith, high)) (omega arith) (omega (arith, high))

amount_step : (place n : ℕ) (ws : List (List ℕ)) → 0 < n → n < 2 ^ 31 → amount_at place (rest_of (decimal n ∷ ws)) ≡ Ok (rest_of ws)
amount_step place n ws low high = number_step place 1 2147483647 n ws (omega (arith, high)) low (omega (arith, high))

below_31_step : (place n : ℕ) (ws : List (List ℕ)) → n < 2 ^ 31 → below_31_at place (rest_of (decimal n ∷ ws)) ≡ Ok (rest_of ws)
below_31_step place n ws high = number_step place 0 2147483647 n ws (omega (arith, high)) (omega arith) (omega (arith, high))

below_63_step : (place n : ℕ) (ws : List (List ℕ)) → n < 2 ^ 63 → below_63_at place (rest_of (decimal n ∷ ws)) ≡ Ok (rest_of ws)
below_63_step place n ws high = number_step place 0 9223372036854775807 n ws (omega (arith, high)) (omega arith) (omega (arith, high))

version_step : (place n : ℕ) (ws : List (List ℕ)) → n < 2 ^ 16 → version_at place (rest_of (decimal n ∷ ws)) ≡ Ok (rest_of ws)
version_step place n ws high = number_step place 0 65535 n ws (omega (arith, high)) (omega arith) (omega (arith, high))

kept_step : (place n : ℕ) (ws : List (List ℕ)) → n < 1024 → kept_flags_at place (rest_of (decimal n ∷ ws)) ≡ Ok (rest_of ws)
kept_step place n ws high = number_step place 0 1023 n ws (omega (arith, high)) (omega arith) (omega (arith, high))

end_step : (place : ℕ) → end_at place None ≡ Ok tt
unfolding end_at
end_step place = refl

lease_reads : (t c : ℕ) (m : Option (List ℕ)) → t < 2 ^ 31 → c < 2 ^ 31 → HasOption m → lease_row (rest_of (codes "0" ∷ decimal t ∷ decimal c ∷ option_word m ∷ [])) ≡ Ok tt
lease_reads t c m ht hc has =
    ap (λ (r : Left). (((r >>= below_31_at 2) >>= below_31_at 3) >>= option_at 4) >>= end_at 5) (zero_step (decimal t ∷ decimal c ∷ option_word m ∷ []))
    ∙ ap (λ (r : Left). ((r >>= below_31_at 3) >>= option_at 4) >>= end_at 5) (below_31_step 2 t (decimal c ∷ option_word m ∷ []) ht)
    ∙ ap (λ (r : Left). (r >>= option_at 4) >>= end_at 5) (below_31_step 3 c (option_word m ∷ []) hc)
    ∙ ap (λ (r : Left). r >>= end_at 5) (option_step 4 m [] has)
    ∙ end_step 5

keepalive_reads : (r : Bool) (p : ℕ) (b : List ℕ) → p < 2 ^ 63 → IsBytes b → keepalive_row (rest_of (codes "0" ∷ letters_word (letter_if r (codes "R")) ∷ decimal p ∷ blob_word b ∷ [])) ≡ Ok tt
keepalive_reads r p b hp has =
    ap (λ (r : Left). (((r >>= flags_at 2 respond_words) >>= below_63_at 3) >>= blob_at 4) >>= end_at 5) (zero_step (letters_word (letter_if r (codes "R")) ∷ decimal p ∷ blob_word b ∷ []))
    ∙ ap (λ (r : Left). ((r >>= below_63_at 3) >>= blob_at 4) >>= end_at 5) (flags_step 2 respond_words (letters_word (letter_if r (codes "R"))) (decimal p ∷ blob_word b ∷ []) (respond_clean r) (respond_found r))
    ∙ ap (λ (r : Left). (r >>= blob_at 4) >>= end_at 5) (below_63_step 3 p (blob_word b ∷ []) hp)
    ∙ ap (λ (r : Left). r >>= end_at 5) (blob_step 4 b [] has)
    ∙ end_step 5

push_reads : (b : List ℕ) → IsBytes b → metadata_push_row (rest_of (codes "0" ∷ blob_word b ∷ [])) ≡ Ok tt
push_reads b has =
    ap (λ (r : Left). (r >>= blob_at 2) >>= end_at 3) (zero_step (blob_word b ∷ []))
    ∙ ap (λ (r : Left). r >>= end_at 3) (blob_step 2 b [] has)
    ∙ end_step 3

resume_reads : (a b : ℕ) (t : List ℕ) (p q : ℕ) → a < 2 ^ 16 → b < 2 ^ 16 → length t < 2 ^ 16 → p < 2 ^ 63 → q < 2 ^ 63 → IsBytes t → resume_row (rest_of (codes "0" ∷ decimal a ∷ decimal b ∷ blob_word t ∷ decimal p ∷ decimal q ∷ [])) ≡ Ok tt
resume_reads a b t p q ha hb ht hp hq has =
    ap (λ (r : Left). (((((r >>= version_at 2) >>= version_at 3) >>= short_at 4 65535) >>= below_63_at 5) >>= below_63_at 6) >>= end_at 7) (zero_step (decimal a ∷ decimal b ∷ blob_word t ∷ decimal p ∷ decimal q ∷ []))
    ∙ ap (λ (r : Left). ((((r >>= version_at 3) >>= short_at 4 65535) >>= below_63_at 5) >>= below_63_at 6) >>= end_at 7) (version_step 2 a (decimal b ∷ blob_word t ∷ decimal p ∷ decimal q ∷ []) ha)
    ∙ ap (λ (r : Left). (((r >>= short_at 4 65535) >>= below_63_at 5) >>= below_63_at 6) >>= end_at 7) (version_step 3 b (blob_word t ∷ decimal p ∷ decimal q ∷ []) hb)
    ∙ ap (λ (r : Left). ((r >>= below_63_at 5) >>= below_63_at 6) >>= end_at 7) (short_step 4 65535 t (decimal p ∷ decimal q ∷ []) has (omega (arith, ht)))
    ∙ ap (λ (r : Left). (r >>= below_63_at 6) >>= end_at 7) (below_63_step 5 p (decimal q ∷ []) hp)
    ∙ ap (λ (r : Left). r >>= end_at 7) (below_63_step 6 q [] hq)
    ∙ end_step 7

resume_ok_reads : (p : ℕ) → p < 2 ^ 63 → resume_ok_row (rest_of (codes "0" ∷ decimal p ∷ [])) ≡ Ok tt
resume_ok_reads p hp =
    ap (λ (r : Left). (r >>= below_63_at 2) >>= end_at 3) (zero_step (decimal p ∷ []))
    ∙ ap (λ (r : Left). r >>= end_at 3) (below_63_step 2 p [] hp)
    ∙ end_step 3

ext_reads : (s f e : ℕ) (b : List ℕ) → s < 2 ^ 31 → f < 1024 → e < 2 ^ 31 → IsBytes b → ext_row (rest_of (decimal s ∷ decimal f ∷ decimal e ∷ blob_word b ∷ [])) ≡ Ok tt
ext_reads s f e b hs hf he has =
    ap (λ (r : Left). (((r >>= kept_flags_at 2) >>= below_31_at 3) >>= blob_at 4) >>= end_at 5) (stream_or_zero_step s (decimal f ∷ decimal e ∷ blob_word b ∷ []) hs)
    ∙ ap (λ (r : Left). ((r >>= below_31_at 3) >>= blob_at 4) >>= end_at 5) (kept_step 2 f (decimal e ∷ blob_word b ∷ []) hf)
    ∙ ap (λ (r : Left). (r >>= blob_at 4) >>= end_at 5) (below_31_step 3 e (blob_word b ∷ []) he)
    ∙ ap (λ (r : Left). r >>= end_at 5) (blob_step 4 b [] has)
    ∙ end_step 5

unknown_reads : (s n f : ℕ) (b : List ℕ) → s < 2 ^ 31 → n < 64 → row_of n ≡ rows.Unknown → f < 1024 → IsBytes b → unknown_row (rest_of (decimal s ∷ decimal n ∷ decimal f ∷ blob_word b ∷ [])) ≡ Ok tt
unknown_reads s n f b hs hn is hf has =
    ap (λ (r : Left). (((r >>= unnamed_at 2) >>= kept_flags_at 3) >>= blob_at 4) >>= end_at 5) (stream_or_zero_step s (decimal n ∷ decimal f ∷ blob_word b ∷ []) hs)
    ∙ ap (λ (r : Left). ((r >>= kept_flags_at 3) >>= blob_at 4) >>= end_at 5) (unnamed_step 2 n (decimal f ∷ blob_word b ∷ []) hn is)
    ∙ ap (λ (r : Left). (r >>= blob_at 4) >>= end_at 5) (kept_step 3 f (blob_word b ∷ []) hf)
    ∙ ap (λ (r : Left). r >>= end_at 5) (blob_step 4 b [] has)
    ∙ end_step 5

request_n_reads : (s n : ℕ) → 0 < s → s < 2 ^ 31 → 0 < n → n < 2 ^ 31 → request_n_row (rest_of (decimal s ∷ decimal n ∷ [])) ≡ Ok tt
request_n_reads s n ls hs ln hn =
    ap (λ (r : Left). (r >>= amount_at 2) >>= end_at 3) (stream_step s (decimal n ∷ []) ls hs)
    ∙ ap (λ (r : Left). r >>= end_at 3) (amount_step 2 n [] ln hn)
    ∙ end_step 3

cancel_reads : (s : ℕ) → 0 < s → s < 2 ^ 31 → cancel_row (rest_of (decimal s ∷ [])) ≡ Ok tt
cancel_reads s ls hs =
    ap (λ (r : Left). r >>= end_at 2) (stream_step s [] ls hs)
    ∙ end_step 2

error_reads : (s c : ℕ) (b : List ℕ) → s < 2 ^ 31 → c < 2 ^ 32 → IsBytes b → error_row (rest_of (decimal s ∷ decimal c ∷ blob_word b ∷ [])) ≡ Ok tt
error_reads s c b hs hc has =
    ap (λ (r : Left). ((r >>= decimal_at 2 0 4294967295) >>= blob_at 3) >>= end_at 4) (stream_or_zero_step s (decimal c ∷ blob_word b ∷ []) hs)
    ∙ ap (λ (r : Left). (r >>= blob_at 3) >>= end_at 4) (number_step 2 0 4294967295 c (blob_word b ∷ []) (omega (arith, hc)) (omega arith) (omega (arith, hc)))
    ∙ ap (λ (r : Left). r >>= end_at 4) (blob_step 3 b [] has)
    ∙ end_step 4

payload_reads : (s : ℕ) (f c n : Bool) (m : Message) → 0 < s → s < 2 ^ 31 → MessageFits m → HasMessage m → payload_row (rest_of (decimal s ∷ letters_word (letter_if f (codes "F") ++ (letter_if c (codes "C") ++ letter_if n (codes "N"))) ∷ option_word m.metadata ∷ blob_word m.content ∷ [])) ≡ Ok tt
payload_reads s f c n m ls hs hm has =
    ap (λ (r : Left). ((r >>= flags_at 2 payload_words) >>= message_at 3) >>= end_at 5) (stream_step s (letters_word (letter_if f (codes "F") ++ (letter_if c (codes "C") ++ letter_if n (codes "N"))) ∷ option_word m.metadata ∷ blob_word m.content ∷ []) ls hs)
    ∙ ap (λ (r : Left). (r >>= message_at 3) >>= end_at 5) (flags_step 2 payload_words (letters_word (letter_if f (codes "F") ++ (letter_if c (codes "C") ++ letter_if n (codes "N")))) (option_word m.metadata ∷ blob_word m.content ∷ []) (payload_clean f c n) (payload_found f c n))
    ∙ ap (λ (r : Left). r >>= end_at 5) (message_step 3 m [] has hm)
    ∙ end_step 5

plain_reads : (s : ℕ) (f : Bool) (m : Message) → 0 < s → s < 2 ^ 31 → MessageFits m → HasMessage m → plain_row (rest_of (decimal s ∷ letters_word (letter_if f (codes "F") ++ letter_if false (codes "C")) ∷ option_word m.metadata ∷ blob_word m.content ∷ [])) ≡ Ok tt
plain_reads s f m ls hs hm has =
    ap (λ (r : Left). ((r >>= flags_at 2 follows_words) >>= message_at 3) >>= end_at 5) (stream_step s (letters_word (letter_if f (codes "F") ++ letter_if false (codes "C")) ∷ option_word m.metadata ∷ blob_word m.content ∷ []) ls hs)
    ∙ ap (λ (r : Left). (r >>= message_at 3) >>= end_at 5) (flags_step 2 follows_words (letters_word (letter_if f (codes "F") ++ letter_if false (codes "C"))) (option_word m.metadata ∷ blob_word m.content ∷ []) (channel_clean f false) (follows_found f))
    ∙ ap (λ (r : Left). r >>= end_at 5) (message_step 3 m [] has hm)
    ∙ end_step 5

stream_reads : (s : ℕ) (f : Bool) (n : ℕ) (m : Message) → 0 < s → s < 2 ^ 31 → 0 < n → n < 2 ^ 31 → MessageFits m → HasMessage m → counted_row follows_words (rest_of (decimal s ∷ letters_word (letter_if f (codes "F") ++ letter_if false (codes "C")) ∷ decimal n ∷ option_word m.metadata ∷ blob_word m.content ∷ [])) ≡ Ok tt
stream_reads s f n m ls hs ln hn hm has =
    ap (λ (r : Left). (((r >>= flags_at 2 follows_words) >>= amount_at 3) >>= message_at 4) >>= end_at 6) (stream_step s (letters_word (letter_if f (codes "F") ++ letter_if false (codes "C")) ∷ decimal n ∷ option_word m.metadata ∷ blob_word m.content ∷ []) ls hs)
    ∙ ap (λ (r : Left). ((r >>= amount_at 3) >>= message_at 4) >>= end_at 6) (flags_step 2 follows_words (letters_word (letter_if f (codes "F") ++ letter_if false (codes "C"))) (decimal n ∷ option_word m.metadata ∷ blob_word m.content ∷ []) (channel_clean f false) (follows_found f))
    ∙ ap (λ (r : Left). (r >>= message_at 4) >>= end_at 6) (amount_step 3 n (option_word m.metadata ∷ blob_word m.content ∷ []) ln hn)
    ∙ ap (λ (r : Left). r >>= end_at 6) (message_step 4 m [] has hm)
    ∙ end_step 6

channel_reads : (s : ℕ) (f c : Bool) (n : ℕ) (m : Message) → 0 < s → s < 2 ^ 31 → 0 < n → n < 2 ^ 31 → MessageFits m → HasMessage m → counted_row channel_words (rest_of (decimal s ∷ letters_word (letter_if f (codes "F") ++ letter_if c (codes "C")) ∷ decimal n ∷ option_word m.metadata ∷ blob_word m.content ∷ [])) ≡ Ok tt
channel_reads s f c n m ls hs ln hn hm has =
    ap (λ (r : Left). (((r >>= flags_at 2 channel_words) >>= amount_at 3) >>= message_at 4) >>= end_at 6) (stream_step s (letters_word (letter_if f (codes "F") ++ letter_if c (codes "C")) ∷ decimal n ∷ option_word m.metadata ∷ blob_word m.content ∷ []) ls hs)
    ∙ ap (λ (r : Left). ((r >>= amount_at 3) >>= message_at 4) >>= end_at 6) (flags_step 2 channel_words (letters_word (letter_if f (codes "F") ++ letter_if c (codes "C"))) (decimal n ∷ option_word m.metadata ∷ blob_word m.content ∷ []) (channel_clean f c) (channel_found f c))
    ∙ ap (λ (r : Left). (r >>= message_at 4) >>= end_at 6) (amount_step 3 n (option_word m.metadata ∷ blob_word m.content ∷ []) ln hn)
    ∙ ap (λ (r : Left). r >>= end_at 6) (message_step 4 m [] has hm)
    ∙ end_step 6

numbers_step : (a b c d : ℕ) (ws : List (List ℕ)) → a < 2 ^ 16 → b < 2 ^ 16 → 0 < c → c < 2 ^ 31 → 0 < d → d < 2 ^ 31 → setup_numbers_at (rest_of (decimal a ∷ decimal b ∷ decimal c ∷ decimal d ∷ ws)) ≡ Ok (rest_of ws)
unfolding setup_numbers_at
numbers_step a b c d ws ha hb lc hc ld hd =
    ap (λ (r : Left). ((r >>= version_at 4) >>= amount_at 5) >>= amount_at 6) (version_step 3 a (decimal b ∷ decimal c ∷ decimal d ∷ ws) ha)
    ∙ ap (λ (r : Left). (r >>= amount_at 5) >>= amount_at 6) (version_step 4 b (decimal c ∷ decimal d ∷ ws) hb)
    ∙ ap (λ (r : Left). r >>= amount_at 6) (amount_step 5 c (decimal d ∷ ws) lc hc)
    ∙ amount_step 6 d ws ld hd

names_step : (o : Option (List ℕ)) (a b : List ℕ) (ws : List (List ℕ)) → HasOption o → IfSome o (λ t. length t < suc 65535) → IsBytes a → length a < 2 ^ 8 → IsBytes b → length b < 2 ^ 8 → setup_names_at (is_some o) (rest_of (option_word o ∷ blob_word a ∷ blob_word b ∷ ws)) ≡ Ok (rest_of ws)
unfolding setup_names_at
names_step o a b ws ho lo ha la hb lb =
    ap (λ (r : Left). (r >>= short_at 8 255) >>= short_at 9 255) (token_step 7 o (blob_word a ∷ blob_word b ∷ ws) ho lo)
    ∙ ap (λ (r : Left). r >>= short_at 9 255) (short_step 8 255 a (blob_word b ∷ ws) ha (omega (arith, la)))
    ∙ short_step 9 255 b ws hb (omega (arith, lb))

asked : (r l : Bool) (ws : List (List ℕ)) → asks_in (rest_of (letters_word (letter_if r (codes "R") ++ letter_if l (codes "L")) ∷ ws)) ≡ r
unfolding asks_in
asked r l ws = ap (λ (c : Rest). asks (meaning_in setup_words c.0)) (cut_spaced (letters_word (letter_if r (codes "R") ++ letter_if l (codes "L"))) ws (setup_clean r l)) ∙ setup_asks r l

setup_reads : (o : Option (List ℕ)) (l : Bool) (a b c d : ℕ) (x y : List ℕ) (m : Message) → HasOption o → IfSome o (λ t. length t < suc 65535) → a < 2 ^ 16 → b < 2 ^ 16 → 0 < c → c < 2 ^ 31 → 0 < d → d < 2 ^ 31
    → IsBytes x → length x < 2 ^ 8 → IsBytes y → length y < 2 ^ 8 → MessageFits m → HasMessage m → setup_row (rest_of (codes "0" ∷ letters_word (letter_if (is_some o) (codes "R") ++ letter_if l (codes "L")) ∷ decimal a ∷ decimal b ∷ decimal c ∷ decimal d ∷ option_word o ∷ blob_word x ∷ blob_word y ∷ option_word m.metadata ∷ blob_word m.content ∷ [])) ≡ Ok tt
setup_reads o l a b c d x y m ho lo ha hb lc hc ld hd hx lx hy ly hm has =
    ap (λ (r : Left). r >>= λ rest. flags_at 2 setup_words rest >>= setup_numbers_at >>= setup_names_at (asks_in rest) >>= message_at 10 >>= end_at 12) (zero_step (letters_word (letter_if (is_some o) (codes "R") ++ letter_if l (codes "L")) ∷ decimal a ∷ decimal b ∷ decimal c ∷ decimal d ∷ option_word o ∷ blob_word x ∷ blob_word y ∷ option_word m.metadata ∷ blob_word m.content ∷ []))
    ∙ ap (λ (r : Left). r >>= setup_numbers_at >>= setup_names_at (asks_in (rest_of (letters_word (letter_if (is_some o) (codes "R") ++ letter_if l (codes "L")) ∷ decimal a ∷ decimal b ∷ decimal c ∷ decimal d ∷ option_word o ∷ blob_word x ∷ blob_word y ∷ option_word m.metadata ∷ blob_word m.content ∷ []))) >>= message_at 10 >>= end_at 12) (flags_step 2 setup_words (letters_word (letter_if (is_some o) (codes "R") ++ letter_if l (codes "L"))) (decimal a ∷ decimal b ∷ decimal c ∷ decimal d ∷ option_word o ∷ blob_word x ∷ blob_word y ∷ option_word m.metadata ∷ blob_word m.content ∷ []) (setup_clean (is_some o) l) (setup_found (is_some o) l))
    ∙ ap (λ (r : Left). r >>= setup_names_at (asks_in (rest_of (letters_word (letter_if (is_some o) (codes "R") ++ letter_if l (codes "L")) ∷ decimal a ∷ decimal b ∷ decimal c ∷ decimal d ∷ option_word o ∷ blob_word x ∷ blob_word y ∷ option_word m.metadata ∷ blob_word m.content ∷ []))) >>= message_at 10 >>= end_at 12) (numbers_step a b c d (option_word o ∷ blob_word x ∷ blob_word y ∷ option_word m.metadata ∷ blob_word m.content ∷ []) ha hb lc hc ld hd)
    ∙ ap (λ (v : Bool). setup_names_at v (rest_of (option_word o ∷ blob_word x ∷ blob_word y ∷ option_word m.metadata ∷ blob_word m.content ∷ [])) >>= message_at 10 >>= end_at 12) (asked (is_some o) l (decimal a ∷ decimal b ∷ decimal c ∷ decimal d ∷ option_word o ∷ blob_word x ∷ blob_word y ∷ option_word m.metadata ∷ blob_word m.content ∷ []))
    ∙ ap (λ (r : Left). r >>= message_at 10 >>= end_at 12) (names_step o x y (option_word m.metadata ∷ blob_word m.content ∷ []) ho lo hx lx hy ly)
    ∙ ap (λ (r : Left). r >>= end_at 12) (message_step 10 m [] has hm)
    ∙ end_step 12

no_some : (n : ℕ) → Some n ≡ None → ⊥
no_some n e = cc

no_none : (n : ℕ) → None ≡ Some n → ⊥
no_none n e = cc

same_number : (n k : ℕ) → Some n ≡ Some k → 0 < k → k < 2 ^ 31 → (0 < n) × (n < 2 ^ 31)
same_number n k e low high = let same : n ≡ k = cc in (omega (arith, same, low), omega (arith, same, high))

request_reads : (kind : Kind) (s : ℕ) (f c : Bool) (i : Option ℕ) (m : Message) → FieldsFit (made kind s f c i m) → HasMessage m → named_row (frame_name (made kind s f c i m)) (rest_of (fields_of (made kind s f c i m))) ≡ Ok tt
unfolding named_row
request_reads kinds.Response s f c None m fits has = ap (λ (v : Bool). plain_row (rest_of (decimal s ∷ letters_word (letter_if f (codes "F") ++ letter_if v (codes "C")) ∷ option_word m.metadata ∷ blob_word m.content ∷ []))) fits.1.1 ∙ plain_reads s f m fits.0.0 fits.0.1 fits.2 has
request_reads kinds.Response s f c (Some n) m fits has = absurd (no_some n fits.1.0)
request_reads kinds.Fnf s f c None m fits has = ap (λ (v : Bool). plain_row (rest_of (decimal s ∷ letters_word (letter_if f (codes "F") ++ letter_if v (codes "C")) ∷ option_word m.metadata ∷ blob_word m.content ∷ []))) fits.1.1 ∙ plain_reads s f m fits.0.0 fits.0.1 fits.2 has
request_reads kinds.Fnf s f c (Some n) m fits has = absurd (no_some n fits.1.0)
request_reads kinds.Stream s f c None m fits has = absurd (no_none fits.1.0 fits.1.1)
request_reads kinds.Stream s f c (Some n) m fits has =
    let k = same_number n fits.1.0 fits.1.1 fits.1.2.0 fits.1.2.1 in
    ap (λ (v : Bool). counted_row follows_words (rest_of (decimal s ∷ letters_word (letter_if f (codes "F") ++ letter_if v (codes "C")) ∷ decimal n ∷ option_word m.metadata ∷ blob_word m.content ∷ []))) fits.1.3 ∙ stream_reads s f n m fits.0.0 fits.0.1 k.0 k.1 fits.2 has
request_reads kinds.Channel s f c None m fits has = absurd (no_none fits.1.0 fits.1.1)
request_reads kinds.Channel s f c (Some n) m fits has =
    let k = same_number n fits.1.0 fits.1.1 fits.1.2.0 fits.1.2.1 in
    channel_reads s f c n m fits.0.0 fits.0.1 k.0 k.1 fits.2 has

row_reads : (f : Frame) → FieldsFit f → HasBytes f → named_row (frame_name f) (rest_of (fields_of f)) ≡ Ok tt
unfolding named_row other_row
row_reads (frames.Setup s) fits has =
    setup_reads s.resume s.lease s.major s.minor s.keepalive s.lifetime s.metadata_mime s.content_mime s.message has.0 fits.4 fits.0 fits.1 fits.2.0 fits.2.1 fits.3.0 fits.3.1 has.1 fits.5 has.2 fits.6 fits.7 has.3
row_reads (frames.Lease t c m) fits has = lease_reads t c m fits.0 fits.1 has
row_reads (frames.Keepalive r p b) fits has = keepalive_reads r p b fits has
row_reads (frames.MetadataPush b) fits has = push_reads b has
row_reads (frames.Resume r) fits has = resume_reads r.major r.minor r.token r.server_position r.client_position fits.0 fits.1 fits.2 fits.3 fits.4 has
row_reads (frames.ResumeOk p) fits has = resume_ok_reads p fits
row_reads (frames.Ext s f e b) fits has = ext_reads s f e b fits.0 fits.1 fits.2 has
row_reads (frames.Request r) fits has = request_reads r.kind r.stream r.follows r.complete r.initial r.message fits has
row_reads (frames.RequestN s n) fits has = request_n_reads s n fits.0.0 fits.0.1 fits.1.0 fits.1.1
row_reads (frames.Cancel s) fits has = cancel_reads s fits.0 fits.1
row_reads (frames.Payload s f c n m) fits has = payload_reads s f c n m fits.0.0 fits.0.1 fits.1 has
row_reads (frames.Error s c b) fits has = error_reads s c b fits.0 fits.1 has
row_reads (frames.Unknown s n f b) fits has = unknown_reads s n f b fits.0 fits.1 fits.2 fits.3 has

pub line_reads : (f : Frame) → FieldsFit f → HasBytes f → words_of (line_of f) ≡ Ok tt
line_reads f fits has = ap (λ (c : Rest). named_row c.0 c.1) (cut_spaced (frame_name f) (fields_of f) (name_clean f)) ∙ row_reads f fits has
