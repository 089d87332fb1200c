-- The words of a line: numbers, bytes and flags.
use Rattle.std.specs.Prelude.{ℕ, Bool, List, [], ◌∷◌, Option, Some, None, if◌then◌else◌, codes}
use Rattle.plain_text.specs.Words.{hex_word}

-- bytes as lower-case hex digits, two a byte; a dot for no bytes
abbrev pub blob_word : List ℕ → List ℕ
blob_word bytes = hex_word 46 bytes

-- bytes that may be absent: a dash where they are
abbrev pub option_word : Option (List ℕ) → List ℕ
option_word None = codes "-"
option_word (Some bytes) = blob_word bytes

-- a letter, where its flag is set
abbrev pub letter_if : Bool → List ℕ → List ℕ
letter_if is_set letter = if is_set then letter else []

-- the letters of the flags that are set; a dash for none
abbrev pub letters_word : List ℕ → List ℕ
letters_word [] = codes "-"
letters_word (letter ∷ letters) = letter ∷ letters
