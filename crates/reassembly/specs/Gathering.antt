-- What is gathered of the messages that are not whole yet, by stream.
use Rattle.std.specs.Prelude.{◌<◌, ℕ, nat_eq, Bool, List, Option, Some, None, is_some}
use Rattle.std.specs.Map.{lookup}
use Rattle.rs_wire.specs.declared.message.Message.{Message}
use Rattle.fragment.specs.Joining.{Gathered, GatheringView, nothing, HasRoomFor}

pub record ReassemblyView : Type 0 where
  -- what is gathered on the streams on which a part came
  pub gatherings : List (ℕ × GatheringView)
  -- for how many streams more there is a place
  pub place : ℕ
  -- the empty gathering that the next such stream is given
  pub fresh : GatheringView

-- what is gathered, where any part came
abbrev pub held_of : Option GatheringView → Gathered
held_of None = nothing
held_of (Some g) = g.held

-- what is gathered on a stream
abbrev pub gathered_at : ReassemblyView → ℕ → Gathered
gathered_at r s = held_of (lookup (nat_eq s) r.gatherings)

-- whether a part is kept of the stream's message; it may be an empty one
abbrev pub has_part_at : ReassemblyView → ℕ → Bool
has_part_at r s = is_some (lookup (nat_eq s) r.gatherings)

-- the gathering of a stream, or the fresh one
abbrev pub own_or : GatheringView → Option GatheringView → GatheringView
own_or fresh None = fresh
own_or fresh (Some g) = g

-- what a stream's next part is joined to
abbrev pub gathering_at : ReassemblyView → ℕ → GatheringView
gathering_at r s = own_or r.fresh (lookup (nat_eq s) r.gatherings)

-- there is a place for the stream, and room for a part on it
abbrev pub HasRoom : ReassemblyView → ℕ → Message → Type 0
HasRoom r s m = (0 < r.place) × HasRoomFor (gathering_at r s) m
