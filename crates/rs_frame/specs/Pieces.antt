-- Bytes that lie in pieces.
use Rattle.std.specs.Prelude.{◌≡◌, ℕ, List, ◌++◌, length}
use Rattle.rs_frame.specs.declared.pieces.Pieces.TheInside.{Inside}

-- the pieces one after another
abbrev pub bytes_of : Inside → List ℕ
bytes_of p = p.head ++ (p.metadata.now ++ p.content.now)

-- so many bytes are in them
abbrev pub IsCounted : Inside → Type 0
IsCounted p = p.count ≡ length (bytes_of p)
