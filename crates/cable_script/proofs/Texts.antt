-- Words and the texts of lines.
use Rattle.std.proofs.lemmas.Grind.{common_steps}
use Rattle.std.proofs.Common.{◌≡◌, ◌≤◌, ℕ, ◌&&◌, Bool, true, List, ◌∷◌, ◌++◌, Option, Some, None, refl, ap, subst, sym, ◌∙◌, arith}
use Rattle.std.specs.Prelude.{IfNone, IfSome}
use Rattle.hex.specs.Hex.{IsBytes}
use Rattle.rs_wire.specs.declared.message.Message.{Message}
use Rattle.rs_wire.specs.declared.words.Side.{Side}
use Rattle.rs_wire.specs.declared.words.Side.TheVariants as sides
use Rattle.rs_wire.specs.declared.call.Call.{Call}
use Rattle.cable_script.specs.declared.TheConstants.{LAST_TICK, MOST_ITEM}
use Rattle.cable_script.specs.declared.line.Line.{Line}
use Rattle.cable_script.specs.declared.line.Line.TheVariants as lines
use Rattle.cable_script.specs.declared.words.payload.Payload.{Payload}
use Rattle.cable_script.specs.declared.words.payload.Payload.TheVariants as payload
use Rattle.cable_script.specs.declared.words.Words.{Words}
use Rattle.cable_script.specs.Line.{IsAmount, IsLine, IsPayload, IsSayable, part_text, payload_text, text_of, with_metadata}
use Rattle.cable_script.specs.Words.{AreRight, HasNo, SpellsMessage, are_parts, bytes_of, is_part, line_of, message_of, text_of_words}
use Rattle.cable_script.proofs.Cuts.{has_cut, one_cut, part_has_none}
use Rattle.cable_script.proofs.Spaced.{still_none}
use Rattle.plain_text.proofs.Hex.{hex_again, hex_are_bytes, hex_back}

-- ---- the parts of a message

two : (a b : Bool) → a ≡ true → b ≡ true → (a && b) ≡ true
two a b h1 h2 = grind (arith, common_steps)

parts_by : (metadata : Option (List ℕ)) (content word front rest : List ℕ) → IfSome metadata IsBytes → IsBytes content → word ≡ with_metadata metadata (part_text content) → word ≡ front ++ 58 ∷ rest → HasNo 58 front → (is_part front && is_part rest) ≡ true
parts_by None content word front rest md right is cut none = absurd (has_cut 58 front rest (subst (HasNo 58) (sym is ∙ cut) (part_has_none 58 content refl right)))
parts_by (Some bytes) content word front rest md right is cut none =
    let same = one_cut 58 (part_text bytes) front (part_text content) rest (part_has_none 58 bytes refl md) none (sym is ∙ cut) in
    subst (λ (f : List ℕ). (is_part f && is_part rest) ≡ true) same.0 (subst (λ (r : List ℕ). (is_part (part_text bytes) && is_part r) ≡ true) same.1 (two (is_part (part_text bytes)) (is_part (part_text content)) (hex_again 45 bytes md) (hex_again 45 content right)))

-- what a colon cuts are the parts of a message, where the word is one
pub parts_cut : (m : Message) (word front rest : List ℕ) → IsPayload m → word ≡ payload_text m → word ≡ front ++ 58 ∷ rest → HasNo 58 front → (is_part front && is_part rest) ≡ true
parts_cut m word front rest right is cut none = parts_by m.metadata m.content word front rest right.metadata right.content is cut none

-- where no colon stands in the word, all of it is the content
whole_by : (metadata : Option (List ℕ)) (content word : List ℕ) → IfSome metadata IsBytes → IsBytes content → word ≡ with_metadata metadata (part_text content) → HasNo 58 word → is_part word ≡ true
whole_by None content word md right is none = ap is_part is ∙ hex_again 45 content right
whole_by (Some bytes) content word md right is none = absurd (has_cut 58 (part_text bytes) (part_text content) (subst (HasNo 58) is none))

pub parts_whole : (m : Message) (word : List ℕ) → IsPayload m → word ≡ payload_text m → HasNo 58 word → is_part word ≡ true
parts_whole m word right is none = whole_by m.metadata m.content word right.metadata right.content is none

-- ---- what the parts say

-- the text of the parts as they stand
abbrev pub own_text : Payload → List ℕ
own_text (payload.Content part) = part.now
own_text (payload.Both metadata content) = metadata.now ++ (58 ∷ content.now)

apart : (a b : Bool) → (a && b) ≡ true → (a ≡ true) × (b ≡ true)
apart a b h1 = grind (arith, common_steps)

own_is : (p : Payload) → are_parts p ≡ true → (own_text p ≡ payload_text (message_of p)) × IsPayload (message_of p)
own_is (payload.Content part) h = (hex_back 45 part.now h, record { metadata = tt; content = hex_are_bytes 45 part.now h })
own_is (payload.Both metadata content) h =
    let k = apart (is_part metadata.now) (is_part content.now) h in (
      ap (λ (t : List ℕ). t ++ 58 ∷ content.now) (hex_back 45 metadata.now k.0) ∙ ap (λ (t : List ℕ). part_text (bytes_of metadata.now) ++ 58 ∷ t) (hex_back 45 content.now k.1),
      record { metadata = hex_are_bytes 45 metadata.now k.0; content = hex_are_bytes 45 content.now k.1 },
    )

pub spells : (word : List ℕ) (p : Payload) → word ≡ own_text p → are_parts p ≡ true → SpellsMessage (λ text. word ≡ text) p
spells word p text h = let own = own_is p h in record { text = text ∙ own.0; spelled = h; is_payload = own.1 }

-- what a part says
pub part_says : (word : List ℕ) → is_part word ≡ true → (word ≡ part_text (bytes_of word)) × IsBytes (bytes_of word)
part_says word h = (hex_back 45 word h, hex_are_bytes 45 word h)

pub part_again : (word bytes : List ℕ) → IsBytes bytes → word ≡ part_text bytes → is_part word ≡ true
part_again word bytes right is = ap is_part is ∙ hex_again 45 bytes right

-- ---- a line

-- the text is that of no line of this end
abbrev pub NotAt : Side → List ℕ → Type 0
NotAt side text = ((c : Call) → IsSayable c → ¬ (text ≡ text_of (lines.Ask side c))) × ((a n m : ℕ) → IsAmount a → IsAmount n → m ≤ MOST_ITEM → ¬ (text ≡ text_of (lines.Many side a n m)))

-- it is that of no line that carries, that tells a moment, or that has one word
abbrev pub NotCarrying : List ℕ → Type 0
NotCarrying text = ((n : ℕ) → IsAmount n → ¬ (text ≡ text_of (lines.Up n))) × ((n : ℕ) → IsAmount n → ¬ (text ≡ text_of (lines.Down n))) × ((n : ℕ) → IsAmount n → ¬ (text ≡ text_of (lines.Late n)))

abbrev pub NotTick : List ℕ → Type 0
NotTick text = (n : ℕ) → n ≤ LAST_TICK → ¬ (text ≡ text_of (lines.Tick n))

abbrev pub NotSingle : List ℕ → Type 0
NotSingle text = (¬ (text ≡ text_of lines.Drain)) × (¬ (text ≡ text_of lines.Cut)) × (¬ (text ≡ text_of lines.Open)) × (¬ (text ≡ text_of lines.Drop))

not_line : (text : List ℕ) → NotAt sides.Client text → NotAt sides.Server text → NotCarrying text → NotTick text → NotSingle text → (l : Line) → IsLine l → ¬ (text ≡ text_of l)
not_line text client server carrying tick single (lines.Ask sides.Client c) h = client.0 c h
not_line text client server carrying tick single (lines.Ask sides.Server c) h = server.0 c h
not_line text client server carrying tick single (lines.Many sides.Client a n m) h = client.1 a n m h.0 h.1 h.2
not_line text client server carrying tick single (lines.Many sides.Server a n m) h = server.1 a n m h.0 h.1 h.2
not_line text client server carrying tick single (lines.Up n) h = carrying.0 n h
not_line text client server carrying tick single (lines.Down n) h = carrying.1 n h
not_line text client server carrying tick single lines.Drain h = single.0
not_line text client server carrying tick single lines.Cut h = single.1
not_line text client server carrying tick single lines.Open h = single.2
not_line text client server carrying tick single lines.Drop h = single.3
not_line text client server carrying tick single (lines.Late n) h = carrying.2 n h
not_line text client server carrying tick single (lines.Tick n) h = tick n h

-- a text of no line
pub no_line : {A : Type 0} (text : List ℕ) (r : Option A) → NotAt sides.Client text → NotAt sides.Server text → NotCarrying text → NotTick text → IfNone r (NotSingle text) → IfNone r ((l : Line) → IsLine l → ¬ (text ≡ text_of l))
no_line text r client server carrying tick single = still_none (NotSingle text) ((l : Line) → IsLine l → ¬ (text ≡ text_of l)) r (not_line text client server carrying tick) single

-- the words of a line say that its text is one
pub line_of_words : (w : Words) → AreRight w → (l : Line) × (text_of_words w ≡ text_of l) × IsLine l
line_of_words w h = (line_of w, refl, h.1)
