-- Bytes that were moved are those that came next.
use Rattle.std.proofs.Common.{◌≡◌, ℕ, ◌+◌, ◌≤◌, List, ◌++◌, length, take, drop, sym, ap, ◌∙◌}
use Rattle.std.proofs.Math.Seq.{take-add}
use Rattle.std.proofs.lemmas.List.{length-take-le, take_at}

-- `n` bytes were copied to the front of a buffer from what follows the first `start` bytes
pub moved : (start n : ℕ) (bytes left copied rest : List ℕ) → left ≡ drop start bytes → copied ≡ take n left → n ≤ length left → take (start + n) bytes ≡ take start bytes ++ take n (copied ++ rest)
moved start n bytes left copied rest left_is copied_is le =
    let len : length copied ≡ n = ap length copied_is ∙ length-take-le n left le in
    let front : take n (copied ++ rest) ≡ take n (drop start bytes) = take_at copied rest n len ∙ copied_is ∙ ap (take n) left_is in
    take-add start n bytes ∙ ap (λ t. take start bytes ++ t) (sym front)
