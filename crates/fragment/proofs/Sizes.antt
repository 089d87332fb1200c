-- How many frames and bytes a split has, from the length of the head and the message alone.
use Rattle.std.proofs.Common.{◌≡◌, ◌<◌, ◌≤◌, ℕ, zero, suc, ◌+◌, ◌-◌, List, [], ◌∷◌, length, refl, arith, ap}
use Rattle.std.proofs.lemmas.Grind.{common_steps}
use Rattle.rs_wire.specs.declared.message.Message.{Message}
use Rattle.rs_wire.specs.Message.{size_of}
use Rattle.rs_frame.specs.declared.frame.Frame.{Frame}
use Rattle.rs_frame.specs.Spelling.{length_of}
use Rattle.position.specs.Boundaries.{pos, pos_by}
use Rattle.fragment.specs.Splitting.{IsSplittable, carried_by, carried_length, head_length, left_part, first_fragment, rest_after, split_of}
use Rattle.fragment.proofs.Cuts.{IsLong, length_carried, first_length, rest_whole, part_left}
use Rattle.fragment.proofs.Splits.{split_fits, split_cut}

-- a frame of this message, with a head of this length
pub record IsOf (head : ℕ) (m : Message) (f : Frame) : Type 0 where
  pub whole : IsSplittable f
  pub head_is : head_length f ≡ head
  pub message_is : carried_by f ≡ m

-- the split of a frame has these frames, less one, and these bytes, and those of the split of what is left of it
pub record IsLeft (mtu : ℕ) (f : Frame) (frames bytes head : ℕ) (m : Message) : Type 0 where
  pub rest : Frame
  pub is_of : IsOf head m rest
  pub count : frames + length (split_of rest mtu) ≡ length (split_of f mtu) + 1
  pub sum : bytes + pos (split_of rest mtu) ≡ pos (split_of f mtu)

pub carried_small : (m : Message) → carried_length m ≤ size_of m + 3
carried_small m = grind (arith, common_steps)

length_is : (head : ℕ) (m : Message) (f : Frame) → IsOf head m f → length_of f ≡ head + carried_length m
length_is head m f is = cc (length_carried f is.whole, is.head_is, ap carried_length is.message_is)

pub none_cut : (mtu head : ℕ) (m : Message) (f : Frame) → IsOf head m f → IsLeft mtu f 1 0 head m
none_cut mtu head m f is = record {
  rest = f;
  is_of = is;
  count = omega arith;
  sum = omega arith;
}

-- what is left after a cut is shorter
pub left_shorter : (mtu head : ℕ) (m : Message) → 64 ≤ mtu → head ≤ 10 → mtu < head + carried_length m
    → 6 + carried_length (left_part (mtu - head) m) < head + carried_length m
left_shorter mtu head m least small longer =
    omega (arith, part_left (mtu - head) m.metadata m.content (omega arith) (omega arith))

head_after : (mtu : ℕ) (f : Frame) → IsSplittable f → head_length (rest_after mtu f) ≡ 6
head_after mtu f whole = grind (arith, common_steps)

message_after : (mtu : ℕ) (f : Frame) → IsSplittable f → carried_by (rest_after mtu f) ≡ left_part (mtu - head_length f) (carried_by f)
message_after mtu f whole = grind (arith, common_steps)

pos-none : pos [] ≡ 0
unfolding pos_by
pos-none = refl

pos-cons : (f : Frame) (fs : List Frame) → pos (f ∷ fs) ≡ length_of f + pos fs
unfolding pos_by
pos-cons f fs = refl

pub one_cut : (mtu : ℕ) (f : Frame) (frames bytes head : ℕ) (m : Message) → 64 ≤ mtu → mtu < head + carried_length m → IsLeft mtu f frames bytes head m
    → (cut_bytes head_left : ℕ) (m_left : Message) → cut_bytes ≡ mtu → head_left ≡ 6 → m_left ≡ left_part (mtu - head) m
    → IsLeft mtu f (frames + 1) (bytes + cut_bytes) head_left m_left
one_cut mtu f frames bytes head m least longer left cut_bytes head_left m_left bytes_is head_is m_is =
    let rest = left.rest in
    let whole = left.is_of.whole in
    let longer_is : mtu < length_of rest = omega (arith, length_is head m rest left.is_of) in
    let long : IsLong mtu rest = record { whole = whole; least = least; longer = longer_is } in
    let cut = split_cut rest mtu long in
    let cons = pos-cons (first_fragment mtu rest) (split_of (rest_after mtu rest) mtu) in
    record {
      rest = rest_after mtu rest;
      is_of = record {
        whole = rest_whole mtu rest whole;
        head_is = cc (head_after mtu rest whole, head_is);
        message_is = cc (message_after mtu rest whole, left.is_of.head_is, left.is_of.message_is, m_is);
      };
      count = omega (arith, ap length cut, left.count);
      sum = omega (arith, ap pos cut, cons, first_length mtu rest long, left.sum);
    }

split_alone : (mtu : ℕ) (f : Frame) → (0 < mtu → length_of f ≤ mtu) → split_of f mtu ≡ f ∷ []
split_alone zero f fits = refl
split_alone (suc n) f fits = split_fits f (suc n) (fits (omega arith))

-- where the rest fits, it is the last frame
pub last_left : (mtu : ℕ) (f : Frame) (frames bytes head : ℕ) (m : Message) → (0 < mtu → head + carried_length m ≤ mtu) → IsLeft mtu f frames bytes head m
    → (frames ≡ length (split_of f mtu)) × (bytes + (head + carried_length m) ≡ pos (split_of f mtu))
last_left mtu f frames bytes head m fits left =
    let long = length_is head m left.rest left.is_of in
    let alone = split_alone mtu left.rest (λ some. omega (arith, fits some)) in
    (omega (arith, ap length alone, left.count), omega (arith, ap pos alone, pos-cons left.rest [], pos-none, left.sum))
