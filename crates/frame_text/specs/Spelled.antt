-- What a word spells: a number, bytes or flags.
use Rattle.std.specs.Prelude.{ℕ, Bool, true, false, ◌==◌, List, [], ◌∷◌, take, drop, position, Option, Some, None, if◌then◌else◌, codes, bytes_eq}
use Rattle.plain_text.specs.Words.{hex_bytes, is_hex_word, is_mark}

-- the first word, and what follows the space after it; nothing, where there is no space
abbrev pub is_space : ℕ → Bool
is_space b = b == 32

abbrev pub cut_at : List ℕ → Option ℕ → List ℕ × Option (List ℕ)
cut_at line None = (line, None)
cut_at line (Some i) = (take i line, Some (drop 1 (drop i line)))

abbrev pub cut_word : List ℕ → List ℕ × Option (List ℕ)
cut_word line = cut_at line (position is_space line)

-- what is left of a line after a word, with the space before it
abbrev pub after_word : Option (List ℕ) → List ℕ
after_word None = []
after_word (Some rest) = 32 ∷ rest

-- the mark of absent bytes
abbrev pub is_dash : List ℕ → Bool
is_dash word = is_mark 45 word

-- a dot for no bytes, or digits
abbrev pub is_blob : List ℕ → Bool
is_blob word = is_hex_word 46 word

-- the bytes that a word spells
abbrev pub bytes_of : List ℕ → List ℕ
bytes_of word = hex_bytes 46 word

abbrev pub option_of : List ℕ → Option (List ℕ)
option_of word = if is_dash word then None else Some (bytes_of word)

-- a word of flags by a table of all words that may stand there
abbrev pub meaning_in : {A : Type 0} → List (List ℕ × A) → List ℕ → Option A
meaning_in [] word = None
meaning_in (row ∷ rows) word = if bytes_eq word row.0 then Some row.1 else meaning_in rows word

abbrev pub respond_words : List (List ℕ × Bool)
respond_words = (codes "-", false) ∷ (codes "R", true) ∷ []

abbrev pub follows_words : List (List ℕ × Bool)
follows_words = (codes "-", false) ∷ (codes "F", true) ∷ []

abbrev pub setup_words : List (List ℕ × (Bool × Bool))
setup_words = (codes "-", (false, false)) ∷ (codes "R", (true, false)) ∷ (codes "L", (false, true)) ∷ (codes "RL", (true, true)) ∷ []

abbrev pub channel_words : List (List ℕ × (Bool × Bool))
channel_words = (codes "-", (false, false)) ∷ (codes "F", (true, false)) ∷ (codes "C", (false, true)) ∷ (codes "FC", (true, true)) ∷ []

abbrev pub payload_words : List (List ℕ × (Bool × Bool × Bool))
payload_words =
    (codes "-", (false, false, false)) ∷ (codes "F", (true, false, false)) ∷ (codes "C", (false, true, false)) ∷ (codes "N", (false, false, true))
    ∷ (codes "FC", (true, true, false)) ∷ (codes "FN", (true, false, true)) ∷ (codes "CN", (false, true, true)) ∷ (codes "FCN", (true, true, true)) ∷ []
