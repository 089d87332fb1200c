-- How a request or a payload is split into fragments (RSocket 1.0, "Fragmentation and Reassembly").
use Rattle.std.specs.Prelude.{◌≡◌, ◌<◌, ◌≤◌, ◌^◌, ℕ, zero, suc, ◌+◌, ◌-◌, ◌==◌, nat_le, Bool, true, false, List, [], ◌∷◌, length, take, drop, Option, Some, None, if◌then◌else◌}
use Rattle.std.specs.Option.{option_map}
use Rattle.rs_wire.specs.declared.message.Message.{Message}
use Rattle.rs_frame.specs.declared.frame.Frame.{Frame}
use Rattle.rs_frame.specs.declared.frame.Frame.TheVariants as frames
use Rattle.rs_frame.specs.Spelling.{length_of, number_there}

-- what is split: a request or a payload that nothing follows
abbrev pub IsSplittable : Frame → Type 0
IsSplittable (frames.Request r) = r.follows ≡ false
IsSplittable (frames.Payload stream follows complete next message) = follows ≡ false
IsSplittable _ = ⊥

-- the length that a frame may have at most: 0, which sets no limit, or 64 to 16,777,215
abbrev pub IsMtu : ℕ → Type 0
IsMtu mtu = (mtu < 2 ^ 24) × (0 < mtu → 64 ≤ mtu)

-- what a request or a payload carries
abbrev pub carried_by : Frame → Message
carried_by (frames.Request r) = r.message
carried_by (frames.Payload stream follows complete next message) = message
carried_by _ = record { metadata = None; content = [] }

abbrev pub follows_of : Frame → Bool
follows_of (frames.Request r) = r.follows
follows_of (frames.Payload stream follows complete next message) = follows
follows_of _ = false

abbrev pub complete_of : Frame → Bool
complete_of (frames.Request r) = r.complete
complete_of (frames.Payload stream follows complete next message) = complete
complete_of _ = false

abbrev pub next_of : Frame → Bool
next_of (frames.Payload stream follows complete next message) = next
next_of _ = false

-- what is joined of a payload has N exactly where the payload has
abbrev pub IsNextKept : Frame → Bool → Type 0
IsNextKept (frames.Payload stream follows complete next message) joined = joined ≡ next
IsNextKept _ joined = Unit {0}

-- the bytes before what it carries: the header, and a request's initial number
abbrev pub head_length : Frame → ℕ
head_length (frames.Request r) = 6 + length (number_there r.initial)
head_length _ = 6

-- metadata takes its 3-byte length and its bytes
abbrev pub field_length : Option (List ℕ) → ℕ
field_length None = 0
field_length (Some bytes) = 3 + length bytes

-- how many bytes a message takes in a frame
abbrev pub carried_length : Message → ℕ
carried_length m = field_length m.metadata + length m.content

-- what stands in a fragment that has this room: as much metadata as fits, then as much content
abbrev pub first_part : ℕ → Message → Message
first_part room m = record {
  metadata = option_map (take (room - 3)) m.metadata;
  content = take (room - field_length m.metadata) m.content;
}

-- the metadata after its first n bytes is there only where more are left
abbrev pub left_metadata : ℕ → Option (List ℕ) → Option (List ℕ)
left_metadata n None = None
left_metadata n (Some bytes) = if nat_le (length bytes) n then None else Some (drop n bytes)

-- what is left of the message for the fragments after that one
abbrev pub left_part : ℕ → Message → Message
left_part room m = record {
  metadata = left_metadata (room - 3) m.metadata;
  content = drop (room - field_length m.metadata) m.content;
}

-- the room that an mtu leaves beside the head
abbrev pub room_of : ℕ → Frame → ℕ
room_of mtu f = mtu - head_length f

-- the first fragment of a frame that is longer than the mtu: of its own type, with F, without C
abbrev pub first_fragment : ℕ → Frame → Frame
first_fragment mtu (frames.Request r) =
    frames.Request (record r { follows = true; complete = false; message = first_part (room_of mtu (frames.Request r)) r.message })
first_fragment mtu (frames.Payload stream follows complete next message) =
    frames.Payload stream true false next (first_part (mtu - 6) message)
first_fragment mtu f = f

-- what is left after it, as one payload of the stream: with C of the whole, with N after a request, and with N of a payload
abbrev pub rest_after : ℕ → Frame → Frame
rest_after mtu (frames.Request r) =
    frames.Payload r.stream false r.complete true (left_part (room_of mtu (frames.Request r)) r.message)
rest_after mtu (frames.Payload stream follows complete next message) =
    frames.Payload stream false complete next (left_part (mtu - 6) message)
rest_after mtu f = f

-- a frame that fits is its own one fragment; a longer one is its first fragment, and then the fragments of the rest.
-- n is how many cuts are made at most
unfoldable pub fragments : ℕ → ℕ → Frame → List Frame
fragments zero mtu f = f ∷ []
fragments (suc n) mtu f =
    if nat_le (length_of f) mtu then f ∷ [] else first_fragment mtu f ∷ fragments n mtu (rest_after mtu f)

-- each cut takes a byte at least, so as many cuts as the frame has bytes are enough; mtu 0 makes none
abbrev pub split_of : Frame → ℕ → List Frame
split_of f mtu = if mtu == 0 then f ∷ [] else fragments (length_of f) mtu f

-- a fact about each frame but the last
abbrev pub EachButLast : (Frame → Type 0) → List Frame → Type 0
EachButLast P [] = Unit {0}
EachButLast P (f ∷ []) = Unit {0}
EachButLast P (f ∷ g ∷ fs) = P f × EachButLast P (g ∷ fs)
