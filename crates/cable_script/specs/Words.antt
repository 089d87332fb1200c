-- The words of a line, before its bytes are made.
use Rattle.std.specs.Prelude.{◌≡◌, ℕ, ◌&&◌, Bool, List, None, Some, IsTrue}
use Rattle.std.specs.List.{AllByRecursion}
use Rattle.plain_text.specs.Words.{hex_bytes, is_hex_word}
use Rattle.rs_wire.specs.declared.call.Call.{Call}
use Rattle.rs_wire.specs.declared.call.Call.TheVariants as call
use Rattle.rs_wire.specs.declared.message.Message.{Message}
use Rattle.cable_script.specs.declared.line.Line.{Line}
use Rattle.cable_script.specs.declared.line.Line.TheVariants as line
use Rattle.cable_script.specs.declared.setting.SettingLine.{SettingLine}
use Rattle.cable_script.specs.declared.setting.SettingLine.TheVariants as setting
use Rattle.cable_script.specs.declared.setting_words.SettingWords.{SettingWords}
use Rattle.cable_script.specs.declared.setting_words.SettingWords.TheVariants as setting_words
use Rattle.cable_script.specs.declared.words.payload.Payload.{Payload}
use Rattle.cable_script.specs.declared.words.payload.Payload.TheVariants as payload
use Rattle.cable_script.specs.declared.words.asked.Asked.{Asked}
use Rattle.cable_script.specs.declared.words.asked.Asked.TheVariants as asked
use Rattle.cable_script.specs.declared.words.Words.{Words}
use Rattle.cable_script.specs.declared.words.Words.TheVariants as words
use Rattle.cable_script.specs.Line.{IsLine, IsPayload, IsSayable, call_words, payload_text, text_of}

-- no byte of the word is this one
abbrev pub HasNo : ℕ → List ℕ → Type 0
HasNo b word = AllByRecursion (λ x. ¬ (x ≡ b)) word

-- ---- what they say

-- the bytes of a part
abbrev pub bytes_of : List ℕ → List ℕ
bytes_of part = hex_bytes 45 part

abbrev pub message_of : Payload → Message
message_of (payload.Content part) = record { metadata = None; content = bytes_of part.now }
message_of (payload.Both metadata content) = record { metadata = Some (bytes_of metadata.now); content = bytes_of content.now }

abbrev pub call_of : Asked → Call
call_of (asked.Request kind initial payload complete) = call.Request kind initial (message_of payload) complete
call_of (asked.Next stream payload complete) = call.Next stream (message_of payload) complete
call_of (asked.Done stream) = call.Done stream
call_of (asked.Grant stream n) = call.Grant stream n
call_of (asked.Cancel stream) = call.Cancel stream
call_of (asked.Fail stream code content) = call.Fail stream code (bytes_of content.now)
call_of (asked.Push metadata) = call.Push (bytes_of metadata.now)
call_of (asked.Lease ttl count) = call.Lease ttl count None
call_of (asked.Take stream) = call.Take stream
call_of asked.TakeJob = call.TakeJob
call_of asked.Close = call.Close

abbrev pub line_of : Words → Line
line_of (words.Ask side a) = line.Ask side (call_of a)
line_of (words.Many side stream count size) = line.Many side stream count size
line_of (words.Up most) = line.Up most
line_of (words.Down most) = line.Down most
line_of words.Drain = line.Drain
line_of words.Cut = line.Cut
line_of words.Open = line.Open
line_of words.Drop = line.Drop
line_of (words.Late most) = line.Late most
line_of (words.Tick now) = line.Tick now

abbrev pub text_of_words : Words → List ℕ
text_of_words w = text_of (line_of w)

abbrev pub setting_line_of : SettingWords → SettingLine
setting_line_of (setting_words.Set side x) = setting.Set side x
setting_line_of (setting_words.Resume token) = setting.Resume token.now
setting_line_of (setting_words.Lease both) = setting.Lease both

-- ---- their parts are spelled right

abbrev pub is_part : List ℕ → Bool
is_part word = is_hex_word 45 word

abbrev pub are_parts : Payload → Bool
are_parts (payload.Content part) = is_part part.now
are_parts (payload.Both metadata content) = is_part metadata.now && is_part content.now

abbrev pub IsWellSpelled : Asked → Type 0
IsWellSpelled (asked.Request kind initial payload complete) = IsTrue (are_parts payload)
IsWellSpelled (asked.Next stream payload complete) = IsTrue (are_parts payload)
IsWellSpelled (asked.Fail stream code content) = IsTrue (is_part content.now)
IsWellSpelled (asked.Push metadata) = IsTrue (is_part metadata.now)
IsWellSpelled _ = Unit {0}

abbrev pub AreWellSpelled : Words → Type 0
AreWellSpelled (words.Ask side a) = IsWellSpelled a
AreWellSpelled _ = Unit {0}

-- the words of a line
abbrev pub AreRight : Words → Type 0
AreRight w = AreWellSpelled w × IsLine (line_of w)

-- ---- what a word was read as

-- these are the parts of a message with such a text
pub record SpellsMessage (IsText : List ℕ → Type 0) (p : Payload) : Type 0 where
  pub text : IsText (payload_text (message_of p))
  pub spelled : IsTrue (are_parts p)
  pub is_payload : IsPayload (message_of p)

-- the word is that of this call
pub record SpellsCall (word : List ℕ) (a : Asked) : Type 0 where
  pub text : word ≡ call_words (call_of a)
  pub spelled : IsWellSpelled a
  pub is_sayable : IsSayable (call_of a)
