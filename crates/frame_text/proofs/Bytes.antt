-- What was read from words of bytes is bytes.
use Rattle.std.proofs.Common.{◌≡◌, ℕ, Bool, true, false, cond, List, Option, Some, None, Result, Ok, Err, refl, sym, subst, inl, inr}
use Rattle.std.specs.Prelude.{IfOk}
use Rattle.hex.specs.Hex.{IsBytes}
use Rattle.rs_frame.specs.declared.frame.Frame.{Frame}
use Rattle.rs_frame.specs.Spelling.{IsSpellable}
use Rattle.frame_text.specs.declared.fault.TextFault.{TextFault}
use Rattle.frame_text.specs.declared.fields.Fields.{Fields}
use Rattle.frame_text.specs.declared.fields.Fields.TheVariants as fields
use Rattle.frame_text.specs.declared.fields.MessageWords.{MessageWords}
use Rattle.frame_text.specs.Fields.{AreBlobs, IsMessage, IsOption, frame_of, message_from}
use Rattle.frame_text.specs.Lines.{HasBytes, HasMessage, HasOption}
use Rattle.frame_text.specs.Spelled.{bytes_of, is_dash, option_of}
use Rattle.plain_text.proofs.Hex.{hex_are_bytes}

option_at : (v : Bool) (bytes : List ℕ) → (v ≡ false → IsBytes bytes) → HasOption (cond {A = Option (List ℕ)} v None (Some bytes))
option_at true bytes h = tt
option_at false bytes h = h refl

apart : (v : Bool) → v ≡ true → v ≡ false → ⊥
apart v a b = cc

option_bytes : (word : List ℕ) → IsOption word → HasOption (option_of word)
option_bytes word (inl dash) = option_at (is_dash word) (bytes_of word) (λ no. absurd (apart (is_dash word) dash no))
option_bytes word (inr blob) = option_at (is_dash word) (bytes_of word) (λ no. hex_are_bytes 46 word blob)

message_bytes : (m : MessageWords) → IsMessage m → HasMessage (message_from m)
message_bytes m are = (option_bytes m.metadata.now are.0, hex_are_bytes 46 m.content.now are.1)

pub has_bytes : (f : Fields) → AreBlobs f → HasBytes (frame_of f)
has_bytes (fields.Setup s) are = (option_bytes s.token.now are.0, hex_are_bytes 46 s.metadata_mime.now are.1, hex_are_bytes 46 s.content_mime.now are.2, message_bytes s.message are.3)
has_bytes (fields.Lease ttl count metadata) are = option_bytes metadata.now are
has_bytes (fields.Keepalive respond position content) are = hex_are_bytes 46 content.now are
has_bytes (fields.MetadataPush metadata) are = hex_are_bytes 46 metadata.now are
has_bytes (fields.Resume r) are = hex_are_bytes 46 r.token.now are
has_bytes (fields.ResumeOk position) are = tt
has_bytes (fields.Ext stream flags extended rest) are = hex_are_bytes 46 rest.now are
has_bytes (fields.Request r) are = message_bytes r.message are
has_bytes (fields.RequestN stream n) are = tt
has_bytes (fields.Cancel stream) are = tt
has_bytes (fields.Payload stream follows complete next message) are = message_bytes message are
has_bytes (fields.Error stream code content) are = hex_are_bytes 46 content.now are
has_bytes (fields.Unknown stream number flags rest) are = hex_are_bytes 46 rest.now are

pub found_bytes : (f : Frame) (answer : Result Frame TextFault) → HasBytes f → IfOk answer (λ g. (g ≡ f) × IsSpellable g) → IfOk answer (λ g. HasBytes g)
found_bytes f (Ok g) has is = subst HasBytes (sym is.0) has
found_bytes f (Err e) has is = tt
