-- Items that credit counts.
use Rattle.std.specs.Prelude.{◌≡◌, ◌<◌, ◌&&◌, not, Bool, true}
use Rattle.rs_wire.specs.declared.words.Role.{Role}
use Rattle.rs_wire.specs.declared.words.Way.{Way}
use Rattle.stream_model.specs.declared.stream.Stream.{Stream}
use Rattle.stream_model.specs.Turns.{carries, needs_credit}
use Rattle.stream_model.specs.Known.{over_at, credit_at}

-- a message of that end is an item of this way, and credit counts it
abbrev pub is_counted : Stream → Role → Bool → Way → Bool
is_counted f by next w = not (over_at f w) && (needs_credit f.kind && (next && carries f.kind f.whole w by))

-- an item that credit counts finds some left
abbrev pub HasCredit : Stream → Role → Bool → Type 0
HasCredit f by next = (w : Way) → is_counted f by next w ≡ true → (credit_at f w).used < (credit_at f w).granted
