-- What a line reads as: its words tested from the left, each at its place, up to the first that is wrong.
use Rattle.std.specs.Prelude.{◌≡◌, ℕ, ◌+◌, ◌<◌, Bool, true, false, ◌==◌, nat_le, not, ◌&&◌, ◌||◌, List, length, Option, Some, None, is_some, Result, Ok, Err, if◌then◌else◌, codes, bytes_eq}
use Rattle.rs_frame.specs.declared.frame.Frame.{Frame}
use Rattle.rs_frame.specs.Spelling.{FieldsFit, IsSpellable, length_of}
use Rattle.frame_text.specs.declared.fault.TextFault.{TextFault}
use Rattle.frame_text.specs.declared.fault.TextFault.TheVariants as faults
use Rattle.frame_text.specs.declared.fault.Wrong.{Wrong}
use Rattle.frame_text.specs.declared.fault.Wrong.TheVariants as wrongs
use Rattle.frame_text.specs.Lines.{HasBytes, line_of}
use Rattle.frame_text.specs.Spelled.{bytes_of, channel_words, cut_word, follows_words, meaning_in, is_blob, is_dash, payload_words, respond_words, setup_words}
use Rattle.plain_text.specs.Words.{number_in}

infixl 10 ◌>>=◌
abbrev pub ◌>>=◌ : {A B : Type 0} → Result A Wrong → (A → Result B Wrong) → Result B Wrong
(Ok x) >>= f = f x
(Err e) >>= f = Err e

-- the next word, and what is left after it
abbrev pub next_at : ℕ → Option (List ℕ) → Result (List ℕ × Option (List ℕ)) Wrong
next_at place None = Err (wrongs.Word place)
next_at place (Some line) = Ok (cut_word line)

-- what is left, where a word passed its test
abbrev pub tested : Bool → Wrong → Option (List ℕ) → Result (Option (List ℕ)) Wrong
tested true fault rest = Ok rest
tested false fault rest = Err fault

-- a number in a range
unfoldable pub decimal_at : ℕ → ℕ → ℕ → Option (List ℕ) → Result (Option (List ℕ)) Wrong
decimal_at place low high line = next_at place line >>= λ w. tested (is_some (number_in low high w.0)) (wrongs.Number place) w.1

-- the stream 0
unfoldable pub zero_at : Option (List ℕ) → Result (Option (List ℕ)) Wrong
zero_at line = next_at 1 line >>= λ w. tested (bytes_eq w.0 (codes "0")) (wrongs.Number 1) w.1

-- a type number below 64 that the standard does not name
abbrev pub is_unnamed : Option ℕ → Bool
is_unnamed None = false
is_unnamed (Some n) = (n == 0) || (nat_le 15 n && nat_le n 62)

unfoldable pub unnamed_at : ℕ → Option (List ℕ) → Result (Option (List ℕ)) Wrong
unnamed_at place line = next_at place line >>= λ w. tested (is_unnamed (number_in 0 63 w.0)) (wrongs.Number place) w.1

-- flags, by the table of their words
unfoldable pub flags_at : {A : Type 0} → ℕ → List (List ℕ × A) → Option (List ℕ) → Result (Option (List ℕ)) Wrong
flags_at place table line = next_at place line >>= λ w. tested (is_some (meaning_in table w.0)) (wrongs.Word place) w.1

-- bytes; at most `most` bytes; and bytes that may be absent
unfoldable pub blob_at : ℕ → Option (List ℕ) → Result (Option (List ℕ)) Wrong
blob_at place line = next_at place line >>= λ w. tested (is_blob w.0) (wrongs.Hex place) w.1

abbrev pub is_short : ℕ → List ℕ → Bool
is_short most word = is_blob word && nat_le (length (bytes_of word)) most

unfoldable pub short_at : ℕ → ℕ → Option (List ℕ) → Result (Option (List ℕ)) Wrong
short_at place most line = next_at place line >>= λ w. tested (is_short most w.0) (wrongs.Hex place) w.1

unfoldable pub option_at : ℕ → Option (List ℕ) → Result (Option (List ℕ)) Wrong
option_at place line = next_at place line >>= λ w. tested (is_dash w.0 || is_blob w.0) (wrongs.Hex place) w.1

unfoldable pub short_option_at : ℕ → ℕ → Option (List ℕ) → Result (Option (List ℕ)) Wrong
short_option_at place most line = next_at place line >>= λ w. tested (is_dash w.0 || is_short most w.0) (wrongs.Hex place) w.1

-- the token of a SETUP: a dash exactly where resumption is not asked for
abbrev pub asks : Option (Bool × Bool) → Bool
asks None = false
asks (Some f) = f.0

unfoldable pub asks_in : Option (List ℕ) → Bool
asks_in None = false
asks_in (Some line) = asks (meaning_in setup_words (cut_word line).0)

abbrev pub fits_asked : Bool → Bool → Bool
fits_asked true dash = not dash
fits_asked false dash = dash

unfoldable pub token_at : ℕ → Bool → Option (List ℕ) → Result (Option (List ℕ)) Wrong
token_at place asked line = next_at place line >>= λ w.
    tested (is_dash w.0 || is_short 65535 w.0) (wrongs.Hex place) w.1 >>= λ rest.
    tested (fits_asked asked (is_dash w.0)) (wrongs.Word place) rest

-- the line is at its end
unfoldable pub end_at : ℕ → Option (List ℕ) → Result Unit Wrong
end_at place None = Ok tt
end_at place (Some line) = Err (wrongs.Word place)

-- the ranges of numbers
abbrev pub stream_at : Option (List ℕ) → Result (Option (List ℕ)) Wrong
stream_at line = decimal_at 1 1 2147483647 line

abbrev pub stream_or_zero_at : Option (List ℕ) → Result (Option (List ℕ)) Wrong
stream_or_zero_at line = decimal_at 1 0 2147483647 line

abbrev pub amount_at : ℕ → Option (List ℕ) → Result (Option (List ℕ)) Wrong
amount_at place line = decimal_at place 1 2147483647 line

abbrev pub below_31_at : ℕ → Option (List ℕ) → Result (Option (List ℕ)) Wrong
below_31_at place line = decimal_at place 0 2147483647 line

abbrev pub below_63_at : ℕ → Option (List ℕ) → Result (Option (List ℕ)) Wrong
below_63_at place line = decimal_at place 0 9223372036854775807 line

abbrev pub version_at : ℕ → Option (List ℕ) → Result (Option (List ℕ)) Wrong
version_at place line = decimal_at place 0 65535 line

abbrev pub kept_flags_at : ℕ → Option (List ℕ) → Result (Option (List ℕ)) Wrong
kept_flags_at place line = decimal_at place 0 1023 line

-- metadata and content
unfoldable pub message_at : ℕ → Option (List ℕ) → Result (Option (List ℕ)) Wrong
message_at place line = short_option_at place 16777215 line >>= blob_at (place + 1)

-- the table of lines, word by word
unfoldable pub setup_numbers_at : Option (List ℕ) → Result (Option (List ℕ)) Wrong
setup_numbers_at line = version_at 3 line >>= version_at 4 >>= amount_at 5 >>= amount_at 6

unfoldable pub setup_names_at : Bool → Option (List ℕ) → Result (Option (List ℕ)) Wrong
setup_names_at asked line = token_at 7 asked line >>= short_at 8 255 >>= short_at 9 255

abbrev pub setup_row : Option (List ℕ) → Result Unit Wrong
setup_row line = zero_at line >>= λ rest. flags_at 2 setup_words rest >>= setup_numbers_at >>= setup_names_at (asks_in rest) >>= message_at 10 >>= end_at 12

abbrev pub lease_row : Option (List ℕ) → Result Unit Wrong
lease_row line = zero_at line >>= below_31_at 2 >>= below_31_at 3 >>= option_at 4 >>= end_at 5

abbrev pub keepalive_row : Option (List ℕ) → Result Unit Wrong
keepalive_row line = zero_at line >>= flags_at 2 respond_words >>= below_63_at 3 >>= blob_at 4 >>= end_at 5

abbrev pub plain_row : Option (List ℕ) → Result Unit Wrong
plain_row line = stream_at line >>= flags_at 2 follows_words >>= message_at 3 >>= end_at 5

abbrev pub counted_row : {A : Type 0} → List (List ℕ × A) → Option (List ℕ) → Result Unit Wrong
counted_row table line = stream_at line >>= flags_at 2 table >>= amount_at 3 >>= message_at 4 >>= end_at 6

abbrev pub request_n_row : Option (List ℕ) → Result Unit Wrong
request_n_row line = stream_at line >>= amount_at 2 >>= end_at 3

abbrev pub cancel_row : Option (List ℕ) → Result Unit Wrong
cancel_row line = stream_at line >>= end_at 2

abbrev pub payload_row : Option (List ℕ) → Result Unit Wrong
payload_row line = stream_at line >>= flags_at 2 payload_words >>= message_at 3 >>= end_at 5

abbrev pub error_row : Option (List ℕ) → Result Unit Wrong
error_row line = stream_or_zero_at line >>= decimal_at 2 0 4294967295 >>= blob_at 3 >>= end_at 4

abbrev pub metadata_push_row : Option (List ℕ) → Result Unit Wrong
metadata_push_row line = zero_at line >>= blob_at 2 >>= end_at 3

abbrev pub resume_row : Option (List ℕ) → Result Unit Wrong
resume_row line = zero_at line >>= version_at 2 >>= version_at 3 >>= short_at 4 65535 >>= below_63_at 5 >>= below_63_at 6 >>= end_at 7

abbrev pub resume_ok_row : Option (List ℕ) → Result Unit Wrong
resume_ok_row line = zero_at line >>= below_63_at 2 >>= end_at 3

abbrev pub ext_row : Option (List ℕ) → Result Unit Wrong
ext_row line = stream_or_zero_at line >>= kept_flags_at 2 >>= below_31_at 3 >>= blob_at 4 >>= end_at 5

abbrev pub unknown_row : Option (List ℕ) → Result Unit Wrong
unknown_row line = stream_or_zero_at line >>= unnamed_at 2 >>= kept_flags_at 3 >>= blob_at 4 >>= end_at 5

-- the words of a line, by the name that it starts with
unfoldable pub other_row : List ℕ → Option (List ℕ) → Result Unit Wrong
other_row name line =
    if bytes_eq name (codes "REQUEST_N") then request_n_row line
    else if bytes_eq name (codes "CANCEL") then cancel_row line
    else if bytes_eq name (codes "PAYLOAD") then payload_row line
    else if bytes_eq name (codes "ERROR") then error_row line
    else if bytes_eq name (codes "METADATA_PUSH") then metadata_push_row line
    else if bytes_eq name (codes "RESUME") then resume_row line
    else if bytes_eq name (codes "RESUME_OK") then resume_ok_row line
    else if bytes_eq name (codes "EXT") then ext_row line
    else if bytes_eq name (codes "UNKNOWN") then unknown_row line
    else Err (wrongs.Word 0)

unfoldable pub named_row : List ℕ → Option (List ℕ) → Result Unit Wrong
named_row name line =
    if bytes_eq name (codes "SETUP") then setup_row line
    else if bytes_eq name (codes "LEASE") then lease_row line
    else if bytes_eq name (codes "KEEPALIVE") then keepalive_row line
    else if bytes_eq name (codes "REQUEST_RESPONSE") then plain_row line
    else if bytes_eq name (codes "REQUEST_FNF") then plain_row line
    else if bytes_eq name (codes "REQUEST_STREAM") then counted_row follows_words line
    else if bytes_eq name (codes "REQUEST_CHANNEL") then counted_row channel_words line
    else other_row name line

-- the words of a line: all are right, or which is the first that is wrong
abbrev pub words_of : List ℕ → Result Unit Wrong
words_of line = named_row (cut_word line).0 (cut_word line).1

-- the faults of a line whose words are those of this frame
abbrev pub IsFaultOfFrame : Frame → TextFault → Type 0
IsFaultOfFrame f (faults.BadWord place) = ⊥
IsFaultOfFrame f (faults.BadNumber place) = ⊥
IsFaultOfFrame f (faults.BadHex place) = ⊥
IsFaultOfFrame f (faults.TooLong n) = (n ≡ length_of f) × (16777215 < n)
IsFaultOfFrame f faults.OutOfMemory = IsSpellable f

-- every word of the line is right, and it is the line of a frame with this fault
pub record IsRightLine (line : List ℕ) (fault : TextFault) : Type 0 where
  pub frame : Frame
  pub words : words_of line ≡ Ok tt
  pub line_is : line ≡ line_of frame
  pub fits : FieldsFit frame
  pub has_bytes : HasBytes frame
  pub fault_is : IsFaultOfFrame frame fault

-- what an answer says of a line: a wrong word is the first that is wrong; the other faults come only where every word is right
abbrev pub Tells : List ℕ → Result Frame TextFault → Type 0
Tells line (Ok f) = words_of line ≡ Ok tt
Tells line (Err (faults.BadWord place)) = words_of line ≡ Err (wrongs.Word place)
Tells line (Err (faults.BadNumber place)) = words_of line ≡ Err (wrongs.Number place)
Tells line (Err (faults.BadHex place)) = words_of line ≡ Err (wrongs.Hex place)
Tells line (Err (faults.TooLong n)) = IsRightLine line (faults.TooLong n)
Tells line (Err faults.OutOfMemory) = IsRightLine line faults.OutOfMemory
