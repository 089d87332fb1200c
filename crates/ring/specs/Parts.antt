-- The items of a ring, the oldest first.
use Rattle.std.specs.Prelude.{◌≡◌, ℕ, zero, suc, ◌+◌, List, [], ◌∷◌, ◌++◌, map}
use Rattle.ring.specs.declared.item.Mark.{Mark}
use Rattle.ring.specs.declared.item.Mark.TheVariants as mark
use Rattle.ring.specs.declared.item.Item.{Item}
use Rattle.ring.specs.declared.item.Item.TheVariants as item

-- a list is a prefix of another
abbrev pub IsPrefix : {A : Type 0} → List A → List A → Type 0
IsPrefix {A} xs ys = (rest : List A) × (xs ++ rest ≡ ys)

-- each byte as an item
abbrev pub bytes_of : List ℕ → List Item
bytes_of bytes = map (λ b. item.Byte b) bytes

-- the items read after these are bytes, which are in the buffer then, and this mark
abbrev pub IsLine : List ℕ → List ℕ → List Item → Mark → List Item → Type 0
IsLine buffer buffer' items m items' = (bytes : List ℕ) × (buffer' ≡ buffer ++ bytes) × (items' ≡ (items ++ bytes_of bytes) ++ item.Mark m ∷ [])

-- how often a connection is cut among these items
unfoldable pub cuts : List Item → ℕ
cuts [] = 0
cuts (item.Mark mark.Cut ∷ items) = suc (cuts items)
cuts (_ ∷ items) = cuts items

-- the bytes that stand after so many cuts and before the next
unfoldable pub part : ℕ → List Item → List ℕ
part k [] = []
part zero (item.Byte b ∷ items) = b ∷ part zero items
part zero (item.Mark mark.Cut ∷ items) = []
part (suc k) (item.Mark mark.Cut ∷ items) = part k items
part k (_ ∷ items) = part k items

-- how often the end of the script stands among these items
unfoldable pub ends : List Item → ℕ
ends [] = 0
ends (item.Mark mark.End ∷ items) = suc (ends items)
ends (_ ∷ items) = ends items

-- the last of these items is the end of the script, and it stands nowhere else
abbrev pub IsEnded : List Item → Type 0
IsEnded items = (before : List Item) × (items ≡ before ++ item.Mark mark.End ∷ []) × (ends before ≡ 0)

-- the last of these items is the end of the script
abbrev pub IsFinished : List Item → Type 0
IsFinished items = (before : List Item) × (items ≡ before ++ item.Mark mark.End ∷ [])
