-- Lists of bytes.
use Rattle.std.proofs.Common.{◌≡◌, ◌+◌, ℕ, List, take, drop}
use Rattle.std.proofs.lemmas.List.{drop-take}

pub drop_take : (n m : ℕ) (bytes : List ℕ) → drop n (take (n + m) bytes) ≡ take m (drop n bytes)
drop_take n m bytes = drop-take n m bytes
