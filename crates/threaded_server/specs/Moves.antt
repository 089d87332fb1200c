-- Bytes that the server's carrier moves without a pump.
use Rattle.std.specs.Prelude.{◌≡◌, ◌≤◌, ◌+◌, ◌++◌, ◌∷◌, ℕ, List, [], drop, length, take}
use Rattle.rs_chunk.specs.Rest.{Rest}
use Rattle.ring.specs.declared.item.Mark.{Mark}
use Rattle.ring.specs.declared.item.Item.{Item}
use Rattle.ring.specs.declared.item.Item.TheVariants as item
use Rattle.ring.specs.Parts.{bytes_of}

-- bytes were read up to a mark
abbrev pub HasPassed : Mark → List Item → List Item → Type 0
HasPassed m old new = (bytes : List ℕ) × (new ≡ (old ++ bytes_of bytes) ++ item.Mark m ∷ [])

-- bytes were read up to a mark, and the reader has them
abbrev pub HasFilled : Rest → Rest → Mark → List Item → List Item → Type 0
HasFilled reader reader' m old new = (bytes : List ℕ) × (new ≡ (old ++ bytes_of bytes) ++ item.Mark m ∷ []) × (reader' ≡ record reader { bytes = reader.bytes ++ bytes })

-- the next bytes of a refusal were pushed
abbrev pub HasPushed : List ℕ → ℕ → ℕ → List Item → List Item → Type 0
HasPushed refusal pushed pushed' old new = (more : ℕ) × (pushed' ≡ pushed + more) × (pushed' ≤ length refusal) × (new ≡ old ++ bytes_of (take more (drop pushed refusal)))
