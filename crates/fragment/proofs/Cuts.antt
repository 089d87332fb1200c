-- One cut: how long the first fragment and the rest are, and that both can be spelled.
use Rattle.std.proofs.Common.{◌≡◌, ◌<◌, ◌≤◌, ℕ, ◌+◌, ◌-◌, Bool, List, ◌++◌, length, take, drop, Option, arith, length-append, length-drop, option_map}
use Rattle.std.proofs.lemmas.Grind.{common_steps}
use Rattle.std.proofs.lemmas.List.{length-take}
use Rattle.std.proofs.lemmas.Bool.Decides.{nat_tests}
use Rattle.rs_wire.specs.declared.message.Message.{Message}
use Rattle.rs_frame.specs.declared.frame.Frame.{Frame}
use Rattle.rs_frame.specs.declared.frame.Frame.TheVariants as frames
use Rattle.rs_frame.specs.declared.frame.Request.{Request}
use Rattle.rs_frame.specs.Spelling.{length_of, if_there, number_there, payload, IsSpellable}
use Rattle.fragment.specs.Splitting.{IsSplittable, carried_by, head_length, field_length, carried_length, left_metadata, room_of, first_fragment, rest_after}

payload_length : (md : Option (List ℕ)) (content : List ℕ) → length (if_there 3 md ++ content) ≡ field_length md + length content
payload_length md content = grind (arith, common_steps, length-append)

head_small : (initial : Option ℕ) → length (number_there initial) ≤ 4
head_small initial = grind (arith, common_steps)

length_request : (r : Request) → length_of (frames.Request r) ≡ 6 + length (number_there r.initial) + carried_length r.message
length_request r = omega (arith, length-append (number_there r.initial) (payload r.message), payload_length r.message.metadata r.message.content)

length_payload : (stream : ℕ) (follows complete next : Bool) (m : Message) → length_of (frames.Payload stream follows complete next m) ≡ 6 + carried_length m
length_payload stream follows complete next m = omega (arith, payload_length m.metadata m.content)

-- a frame's length is that of its head and of what it carries
pub length_carried : (f : Frame) → IsSplittable f → length_of f ≡ head_length f + carried_length (carried_by f)
length_carried f whole = grind (arith, common_steps, length_request, length_payload)

-- a request or a payload without F, that is longer than an mtu of 64 or more
pub record IsLong (mtu : ℕ) (f : Frame) : Type 0 where
  pub whole : IsSplittable f
  pub least : 64 ≤ mtu
  pub longer : mtu < length_of f

-- the first part of a message that does not fit fills the room
part_full : (room : ℕ) (md : Option (List ℕ)) (content : List ℕ) → 3 ≤ room → room < field_length md + length content
    → field_length (option_map (take (room - 3)) md) + length (take (room - field_length md) content) ≡ room
part_full room md content low over = grind (arith, length-take)

-- what is left is shorter by the room but for the metadata's length
pub part_left : (room : ℕ) (md : Option (List ℕ)) (content : List ℕ) → 3 ≤ room → room < field_length md + length content
    → field_length (left_metadata (room - 3) md) + length (drop (room - field_length md) content) + (room - 3) ≤ field_length md + length content
part_left room md content low over = grind (arith, nat_tests, length-drop)

pub first_length : (mtu : ℕ) (f : Frame) → IsLong mtu f → length_of (first_fragment mtu f) ≡ mtu
first_length mtu f long =
    grind (arith, common_steps, length_request, length_payload, head_small, part_full (room_of mtu f) (carried_by f).metadata (carried_by f).content)

pub rest_length : (mtu : ℕ) (f : Frame) → IsLong mtu f → length_of (rest_after mtu f) < length_of f
rest_length mtu f long =
    grind (arith, common_steps, length_request, length_payload, head_small, part_left (room_of mtu f) (carried_by f).metadata (carried_by f).content)

pub rest_whole : (mtu : ℕ) (f : Frame) → IsSplittable f → IsSplittable (rest_after mtu f)
rest_whole mtu f whole = grind (arith, common_steps)

pub first_spellable : (mtu : ℕ) (f : Frame) → IsLong mtu f → IsSpellable f → IsSpellable (first_fragment mtu f)
first_spellable mtu f long spellable = record {
  fields = grind (arith, common_steps, length-take, spellable.fields, long.whole);
  short = omega (arith, first_length mtu f long, spellable.short, long.longer);
}

pub rest_spellable : (mtu : ℕ) (f : Frame) → IsLong mtu f → IsSpellable f → IsSpellable (rest_after mtu f)
rest_spellable mtu f long spellable = record {
  fields = grind (arith, common_steps, nat_tests, length-drop, spellable.fields, long.whole);
  short = omega (arith, rest_length mtu f long, spellable.short);
}
