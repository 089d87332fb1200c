-- A frame that stands after its length is short.
use Rattle.std.proofs.Common.{ℕ, ◌<◌, ◌^◌, List, length, drop, arith}
use Rattle.std.proofs.lemmas.List.{length-take}
use Rattle.byteorder.specs.Numbers.{big_from-lt}
use Rattle.rs_frame.proofs.Bytes.{IsBytes}
use Rattle.rs_chunk.specs.Stream.{first_frame, first_length}

pub first_short : (bytes : List ℕ) → IsBytes bytes → length (first_frame bytes) < 2 ^ 24
first_short bytes h = omega (arith, length-take (first_length bytes) (drop 3 bytes), big_from-lt 0 3 bytes h)
