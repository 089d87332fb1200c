-- What a handler of each law gives.
use Rattle.std.specs.Prelude.{◌≡◌, ℕ, nat_le, nat_lt, ◌==◌, ◌&&◌, Bool, List, length, map, Option, Some, None, ⊤, if◌then◌else◌, decimal}
use Rattle.std.specs.Char.{is_ascii_digit, to_ascii_uppercase}
use Rattle.std.specs.List.{list_all}
use Rattle.std.specs.Str.Parse.{digits_value}
use Rattle.handlers.specs.declared.law.Law.{Law}
use Rattle.handlers.specs.declared.law.Law.TheVariants as law
use Rattle.handlers.specs.declared.law.Produced.{Produced}
use Rattle.handlers.specs.declared.law.Produced.TheVariants as produced

-- the content is 1 to 9 ASCII digits
abbrev pub is_number : List ℕ → Bool
is_number content = (nat_le 1 (length content) && nat_le (length content) 9) && list_all is_ascii_digit content

-- how many items a content asks for: the value of its digits, and none where it is no number
unfoldable pub count_in : List ℕ → ℕ
count_in content = if is_number content then digits_value 10 content else 0

-- the item of a law at a content and an index, or none where it finishes
abbrev pub value : Law → List ℕ → ℕ → Option (List ℕ)
value law.Echo content index = if index == 0 then Some content else None
value law.Upper content index = if index == 0 then Some (map to_ascii_uppercase content) else None
value law.Count content index = if nat_lt index (count_in content) then Some (decimal index) else None
value law.Drop content index = None

-- the answer shows the item, or that there is none, or that memory ran out
abbrev pub Shows : Option (List ℕ) → Produced → Type 0
Shows given (produced.Item item) = given ≡ Some item
Shows given produced.Finish = given ≡ None
Shows given produced.OutOfMemory = ⊤
