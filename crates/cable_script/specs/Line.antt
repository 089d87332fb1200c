-- The lines of a script: what each says, and its one text.
use Rattle.std.specs.Prelude.{◌≡◌, ℕ, ◌<◌, ◌≤◌, ◌^◌, true, List, ◌∷◌, ◌++◌, Option, Some, None, IfSome, is_some, codes, decimal}
use Rattle.hex.specs.Hex.{IsBytes}
use Rattle.plain_text.specs.Words.{hex_word}
use Rattle.rs_wire.specs.Calls.{CompleteFits, is_stream_code, is_streamed}
use Rattle.rs_wire.specs.declared.call.Call.{Call}
use Rattle.rs_wire.specs.declared.call.Call.TheVariants as call
use Rattle.rs_wire.specs.declared.message.Message.{Message}
use Rattle.cable_script.specs.declared.TheConstants.{LAST_TICK, MOST_ITEM}
use Rattle.cable_script.specs.declared.line.Line.{Line}
use Rattle.cable_script.specs.declared.line.Line.TheVariants as lines
use Rattle.cable_script.specs.Spoken.{kind_word, last_text, next_word, numbered, side_word}

-- ---- texts

-- a part of a message: two digits a byte, or a dash for no bytes
abbrev pub part_text : List ℕ → List ℕ
part_text bytes = hex_word 45 bytes

-- metadata before this content, where there is some, and a colon between
abbrev pub with_metadata : Option (List ℕ) → List ℕ → List ℕ
with_metadata None content = content
with_metadata (Some bytes) content = part_text bytes ++ (58 ∷ content)

-- a message: its content; or its metadata and its content
abbrev pub payload_text : Message → List ℕ
payload_text m = with_metadata m.metadata (part_text m.content)

-- this text, with how many items are granted before it, where some are
abbrev pub with_initial : Option ℕ → List ℕ → List ℕ
with_initial None text = text
with_initial (Some n) text = decimal n ++ (32 ∷ text)

abbrev pub call_words : Call → List ℕ
call_words (call.Request kind initial message complete) = kind_word kind ++ (32 ∷ with_initial initial (payload_text message ++ last_text complete))
call_words (call.Next stream message complete) = numbered (next_word complete) stream ++ (32 ∷ payload_text message)
call_words (call.Done stream) = numbered (codes "done") stream
call_words (call.Grant stream n) = numbered (numbered (codes "grant") stream) n
call_words (call.Cancel stream) = numbered (codes "cancel") stream
call_words (call.Fail stream code content) = numbered (numbered (codes "fail") stream) code ++ (32 ∷ part_text content)
call_words (call.Push metadata) = codes "push " ++ part_text metadata
call_words (call.Lease ttl count metadata) = numbered (numbered (codes "lease") ttl) count
call_words (call.Take stream) = numbered (codes "take") stream
call_words call.TakeJob = codes "job"
call_words call.Close = codes "close"

-- so many items of one size on a stream
abbrev pub many_words : ℕ → ℕ → ℕ → List ℕ
many_words stream count size = numbered (numbered (numbered (codes "many") stream) count) size

abbrev pub text_of : Line → List ℕ
text_of (lines.Ask side asked) = side_word side ++ (32 ∷ call_words asked)
text_of (lines.Many side stream count size) = side_word side ++ (32 ∷ many_words stream count size)
text_of (lines.Up most) = codes "up " ++ decimal most
text_of (lines.Down most) = codes "down " ++ decimal most
text_of lines.Drain = codes "drain"
text_of lines.Cut = codes "cut"
text_of lines.Open = codes "open"
text_of lines.Drop = codes "drop"
text_of (lines.Late most) = codes "late " ++ decimal most
text_of (lines.Tick now) = codes "tick " ++ decimal now

-- ---- what a line can say

-- a message of bytes
pub record IsPayload (m : Message) : Type 0 where
  pub metadata : IfSome m.metadata IsBytes
  pub content : IsBytes m.content

-- a number of a line, and the number of a stream: from 1, of 31 bits
abbrev pub IsAmount : ℕ → Type 0
IsAmount n = (0 < n) × (n < 2 ^ 31)

-- a call that a script can say: what it carries fits its kind, and its numbers are in their ranges
abbrev pub IsSayable : Call → Type 0
IsSayable (call.Request kind initial message complete) = (is_some initial ≡ is_streamed kind) × IfSome initial IsAmount × CompleteFits kind complete × IsPayload message
IsSayable (call.Next stream message complete) = IsAmount stream × IsPayload message
IsSayable (call.Done stream) = IsAmount stream
IsSayable (call.Grant stream n) = IsAmount stream × IsAmount n
IsSayable (call.Cancel stream) = IsAmount stream
IsSayable (call.Fail stream code content) = IsAmount stream × (is_stream_code code ≡ true) × IsBytes content
IsSayable (call.Push metadata) = IsBytes metadata
IsSayable (call.Lease ttl count metadata) = IsAmount ttl × IsAmount count × (metadata ≡ None)
IsSayable (call.Take stream) = IsAmount stream
IsSayable call.TakeJob = Unit {0}
IsSayable call.Close = Unit {0}

abbrev pub IsLine : Line → Type 0
IsLine (lines.Ask side asked) = IsSayable asked
IsLine (lines.Many side stream count size) = IsAmount stream × IsAmount count × (size ≤ MOST_ITEM)
IsLine (lines.Up most) = IsAmount most
IsLine (lines.Down most) = IsAmount most
IsLine lines.Drain = Unit {0}
IsLine lines.Cut = Unit {0}
IsLine lines.Open = Unit {0}
IsLine lines.Drop = Unit {0}
IsLine (lines.Late most) = IsAmount most
IsLine (lines.Tick now) = now ≤ LAST_TICK
