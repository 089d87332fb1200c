-- How the parts of a message are joined (RSocket 1.0, "Fragmentation and Reassembly").
use Rattle.std.specs.Prelude.{◌≡◌, ◌<◌, ◌≤◌, ◌^◌, ℕ, nat_lt, Bool, true, false, ◌||◌, List, [], ◌∷◌, ◌++◌, length, Option, Some, None, Result, Ok, Err, if◌then◌else◌}
use Rattle.rs_wire.specs.declared.message.Message.{Message}
use Rattle.rs_wire.specs.Message.{option_length, size_of}
use Rattle.rs_frame.specs.declared.frame.Frame.{Frame}
use Rattle.fragment.specs.declared.glue.Glued.{Glued}
use Rattle.fragment.specs.declared.glue.Glued.TheVariants.{Part, Whole}
use Rattle.fragment.specs.declared.glue.GlueFault.{GlueFault}
use Rattle.fragment.specs.declared.glue.GlueFault.TheVariants.{TooLarge, OutOfMemory}
use Rattle.fragment.specs.Splitting.{carried_by, complete_of, next_of, follows_of}

-- what one part brings, or several have brought: bytes, and whether C and N came
pub record Gathered : Type 0 where
  pub message : Message
  pub complete : Bool
  pub next : Bool

-- what a gathering is seen as: what it holds, and how many bytes more of each are sure to fit
pub record GatheringView : Type 0 where
  pub held : Gathered
  pub metadata_room : ℕ
  pub content_room : ℕ

-- what a glue is seen as: what it holds, and how many bytes that may be at most
pub record Holding : Type 0 where
  pub max_payload : ℕ
  pub held : Gathered

abbrev pub nothing : Gathered
nothing = record { message = record { metadata = None; content = [] }; complete = false; next = false }

-- metadata is there where either part had it
abbrev pub join_metadata : Option (List ℕ) → Option (List ℕ) → Option (List ℕ)
join_metadata None more = more
join_metadata (Some bytes) None = Some bytes
join_metadata (Some bytes) (Some more) = Some (bytes ++ more)

abbrev pub join_messages : Message → Message → Message
join_messages m more = record { metadata = join_metadata m.metadata more.metadata; content = m.content ++ more.content }

abbrev pub join : Gathered → Gathered → Gathered
join held part = record {
  message = join_messages held.message part.message;
  complete = held.complete || part.complete;
  next = held.next || part.next;
}

-- what is held once a part is taken in: what it carries, and whether it has C and N
abbrev pub with_part : Gathered → Message → Bool → Bool → Gathered
with_part held message complete next = join held (record { message = message; complete = complete; next = next })

-- the same of a glue
abbrev pub grown : Holding → Message → Bool → Bool → Gathered
grown glue message complete next = with_part glue.held message complete next

-- the part fits, and what is held stays below 2 ^ 62 bytes
abbrev pub HasRoomFor : GatheringView → Message → Type 0
HasRoomFor g m =
    (option_length m.metadata ≤ g.metadata_room) × (length m.content ≤ g.content_room)
    × (size_of (join_messages g.held.message m) < 2 ^ 62)

-- the parts of a message, in order
abbrev pub joined : List Gathered → Gathered
joined [] = nothing
joined (part ∷ parts) = join part (joined parts)

abbrev pub part_of : Frame → Gathered
part_of f = record { message = carried_by f; complete = complete_of f; next = next_of f }

-- the answer to a part, by whether more follows, and what is held then in all
abbrev pub glued_of : Bool → Gathered → Glued
glued_of true sum = Part
glued_of false sum = Whole sum.message sum.complete sum.next

abbrev pub left_held : Bool → Gathered → Gathered
left_held true sum = sum
left_held false sum = nothing

-- the size that is too large is the sum; out of memory comes only where it is not
abbrev pub IsGlueFaultOf : GlueFault → ℕ → ℕ → Type 0
IsGlueFaultOf (TooLarge n) size max_payload = (n ≡ size) × (max_payload < size)
IsGlueFaultOf OutOfMemory size max_payload = size ≤ max_payload

-- the answers to the parts of frames that are pushed in turn, where memory is enough; a request has no N
abbrev pub answers : Holding → List Frame → List (Result Glued GlueFault)
answers glue [] = []
answers glue (f ∷ fs) =
    let sum = grown glue (carried_by f) (complete_of f) (next_of f) in
    if nat_lt glue.max_payload (size_of sum.message)
    then Err (TooLarge (size_of sum.message)) ∷ answers glue fs
    else Ok (glued_of (follows_of f) sum) ∷ answers (record glue { held = left_held (follows_of f) sum }) fs

-- what a push is handed is what the frame has
pub record IsPushOf (f : Frame) (follows : Bool) (message : Message) (complete next : Bool) : Type 0 where
  pub follows_is : follows ≡ follows_of f
  pub message_is : message ≡ carried_by f
  pub complete_is : complete ≡ complete_of f
  pub next_is : next ≡ next_of f

-- a glue that holds nothing
abbrev pub empty_glue : ℕ → Holding
empty_glue max_payload = record { max_payload = max_payload; held = nothing }
