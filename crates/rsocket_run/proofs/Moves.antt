-- Bytes that are read, piece by piece.
use Rattle.std.proofs.Common.{◌≡◌, ℕ, ◌≤◌, ◌+◌, ◌⊎◌, List, [], ◌++◌, length, Option, Some, None, refl, inl, inr, ⊎_elim, arith}
use Rattle.std.proofs.lemmas.Grind.{common_steps}
use Rattle.std.proofs.lemmas.List.{length-append}
use Rattle.std.specs.Io.KnownBytes.{prepend_known}
use Rattle.rsocket_run.specs.Streams.{HasRead, IsReadTo}

pub read_more : (text now next : Option (List ℕ)) (bytes piece : List ℕ) → text ≡ prepend_known bytes now → now ≡ prepend_known piece next → text ≡ prepend_known (bytes ++ piece) next
read_more text now next bytes piece e f = grind (arith, common_steps)

pub read_all : (most : ℕ) (told now : Option (List ℕ)) (bytes : List ℕ) → told ≡ prepend_known bytes now → (now ≡ Some []) ⊎ (length bytes ≡ most) → (text : List ℕ) → told ≡ Some text → IsReadTo most text bytes now
read_all most told (Some rest) bytes e end text is =
    let same : text ≡ bytes ++ rest = cc in
    record { rest = rest; text_is = same; left_is = refl; to_the_end = ⊎_elim (λ none. inl (let h = none in cc)) (λ full. inr full) end }
read_all most told None bytes e end text is = cc

pub has_read : (most : ℕ) (old now : Option (List ℕ)) (bytes : List ℕ) → old ≡ prepend_known bytes now → length bytes ≤ most → HasRead most old now
has_read most old now bytes read within = record { bytes = bytes; read = read; within = within }

pub has_more : (most : ℕ) (text now next : Option (List ℕ)) (bytes piece : List ℕ) → text ≡ prepend_known bytes now → now ≡ prepend_known piece next → length bytes + length piece ≤ most → HasRead most text next
has_more most text now next bytes piece e f within =
    has_read most text next (bytes ++ piece) (read_more text now next bytes piece e f) (rw length-append within)
