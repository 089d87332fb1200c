-- Joining the fragments of a frame.
use Rattle.std.proofs.Common.{◌≡◌, ◌≤◌, ℕ, suc, ◌+◌, ◌-◌, Bool, false, List, [], ◌∷◌, ◌++◌, length, Ok, refl, ap, sym, ◌∙◌, arith, append_assoc, length-append, map, replicate, ◌||◌}
use Rattle.std.proofs.lemmas.Grind.{common_steps}
use Rattle.std.proofs.lemmas.Bool.Decides.{nat_tests}
use Rattle.std.proofs.Math.Bool.{or_assoc, or_self, or-false}
use Rattle.std.proofs.lemmas.List.{take-append-drop, take_all, append-nil}
use Rattle.rs_wire.specs.declared.message.Message.{Message}
use Rattle.rs_wire.specs.Message.{size_of}
use Rattle.rs_frame.specs.declared.frame.Frame.{Frame}
use Rattle.rs_frame.specs.Spelling.{length_of}
use Rattle.fragment.specs.declared.glue.Glued.TheVariants.{Part, Whole}
use Rattle.fragment.specs.Splitting.{IsSplittable, field_length, IsMtu, IsNextKept, carried_by, follows_of, complete_of, first_part, left_part, room_of, first_fragment, rest_after, split_of}
use Rattle.fragment.specs.Joining.{Gathered, Holding, nothing, empty_glue, join_messages, join, joined, grown, part_of, glued_of, left_held, answers, IsPushOf}
use Rattle.fragment.proofs.Splits.{by_cuts, first_flags}

-- ---- joining has a unit, is associative, and adds the sizes

same_message : (a b : Message) → a.metadata ≡ b.metadata → a.content ≡ b.content → a ≡ b
same_message a b p q = ap (λ md. record a { metadata = md }) p ∙ ap (λ content. record b { content = content }) q

same_gathered : (a b : Gathered) → a.message ≡ b.message → a.complete ≡ b.complete → a.next ≡ b.next → a ≡ b
same_gathered a b p q r =
    ap (λ m. record a { message = m }) p ∙ ap (λ c. record a { message = b.message; complete = c }) q ∙ ap (λ n. record b { next = n }) r

join-nothing : (held : Gathered) → join held nothing ≡ held
join-nothing held =
    same_gathered _ _ (same_message _ _ (grind (arith, common_steps)) (append-nil held.message.content)) (or-false held.complete) (or-false held.next)

pub messages_assoc : (a b c : Message) → join_messages (join_messages a b) c ≡ join_messages a (join_messages b c)
messages_assoc a b c = same_message _ _ (grind (arith, common_steps)) (append_assoc a.content b.content c.content)

join-assoc : (a b c : Gathered) → join (join a b) c ≡ join a (join b c)
join-assoc a b c =
    same_gathered _ _ (messages_assoc a.message b.message c.message) (or_assoc a.complete b.complete c.complete) (or_assoc a.next b.next c.next)

pub joined-push : (parts : List Gathered) (part : Gathered) → joined (parts ++ part ∷ []) ≡ join (joined parts) part
joined-push [] part = join-nothing part
joined-push (first ∷ parts) part = ap (join first) (joined-push parts part) ∙ sym (join-assoc first (joined parts) part)

pub size-join : (a b : Message) → size_of (join_messages a b) ≡ size_of a + size_of b
size-join a b = grind (arith, common_steps, length-append)

-- ---- one cut

pub cut_parts : (room : ℕ) (m : Message) → join_messages (first_part room m) (left_part room m) ≡ m
cut_parts room m =
    same_message (join_messages (first_part room m) (left_part room m)) m
    (grind (arith, common_steps, nat_tests, take_all, take-append-drop)) (take-append-drop (room - field_length m.metadata) m.content)

cut_message : (mtu : ℕ) (f : Frame) → IsSplittable f → join_messages (carried_by (first_fragment mtu f)) (carried_by (rest_after mtu f)) ≡ carried_by f
cut_message mtu f whole = grind (arith, common_steps, cut_parts (room_of mtu f) (carried_by f))

-- ---- the fragments, joined

abbrev glue_with : ℕ → Gathered → Holding
glue_with max_payload held = record { max_payload = max_payload; held = held }

abbrev pub joined_of : List Frame → Gathered
joined_of fs = joined (map part_of fs)

-- the fragments of a frame are joined to what it carried, with its C and, for a payload, its N
pub record IsJoined (f : Frame) (gs : List Frame) : Type 0 where
  pub message : (joined_of gs).message ≡ carried_by f
  pub complete : (joined_of gs).complete ≡ complete_of f
  pub next : IsNextKept f (joined_of gs).next

pub split_joined : (f : Frame) (mtu : ℕ) → IsSplittable f → IsMtu mtu → IsJoined f (split_of f mtu)
split_joined f mtu whole limit =
    by_cuts IsJoined mtu limit.1
    (λ g g_whole fits. record {
      message = ap (λ (h : Gathered). h.message) (join-nothing (part_of g));
      complete = or-false (complete_of g);
      next = grind (arith, common_steps, or-false);
    })
    (λ g gs long rest. record {
      message = ap (join_messages (carried_by (first_fragment mtu g))) rest.message ∙ cut_message mtu g long.whole;
      complete = ap (λ c. complete_of (first_fragment mtu g) || c) rest.complete ∙ grind (arith, common_steps, long.whole);
      next = grind (arith, common_steps, or_self, long.whole, rest.next);
    })
    (length_of f) f (omega arith) whole

-- ---- the fragments, pushed

whole_follows : (f : Frame) → IsSplittable f → follows_of f ≡ false
whole_follows f whole = grind (arith, common_steps)

-- each but the last gives Part, and the last gives what was held and all of them, joined
abbrev Gives : ℕ → Gathered → List Frame → Type 0
Gives max_payload held fs =
    (k : ℕ) × (length fs ≡ k + 1) × (answers (glue_with max_payload held) fs ≡ replicate k (Ok Part) ++ (Ok (glued_of false (join held (joined_of fs))) ∷ []))

split_gives : (f : Frame) (mtu max_payload : ℕ) → IsSplittable f → IsMtu mtu → (held : Gathered) → size_of (join_messages held.message (carried_by f)) ≤ max_payload → Gives max_payload held (split_of f mtu)
split_gives f mtu max_payload whole limit =
    by_cuts (λ g gs. (held : Gathered) → size_of (join_messages held.message (carried_by g)) ≤ max_payload → Gives max_payload held gs) mtu limit.1
    (λ g g_whole alone held fits. (0, refl, grind (arith, common_steps, nat_tests, join-nothing, whole_follows g g_whole)))
    (λ g gs long rest held fits.
    let first = part_of (first_fragment mtu g) in
    let all : join_messages (join_messages held.message first.message) (carried_by (rest_after mtu g)) ≡ join_messages held.message (carried_by g) =
    messages_assoc held.message first.message (carried_by (rest_after mtu g)) ∙ ap (join_messages held.message) (cut_message mtu g long.whole) in
    let size = size-join (join_messages held.message first.message) (carried_by (rest_after mtu g)) in
    let gives = rest (join held first) (omega (arith, ap size_of all)) in (
      suc gives.0,
      omega (arith, gives.1),
      grind (arith, common_steps, nat_tests, first_flags mtu g long.whole, gives.2, join-assoc held first (joined_of gs), ap size_of all, size),
    ))
    (length_of f) f (omega arith) whole

pub split_glued : (f : Frame) (mtu max_payload : ℕ) → IsSplittable f → IsMtu mtu → size_of (carried_by f) ≤ max_payload
    → (k : ℕ) × (next : Bool) × (length (split_of f mtu) ≡ k + 1) × IsNextKept f next × (answers (empty_glue max_payload) (split_of f mtu) ≡ replicate k (Ok Part) ++ (Ok (Whole (carried_by f) (complete_of f) next) ∷ []))
split_glued f mtu max_payload whole limit fits =
    let gives = split_gives f mtu max_payload whole limit nothing fits in
    let all = split_joined f mtu whole limit in
    (gives.0, (joined_of (split_of f mtu)).next, gives.1, all.next, cc (gives.2, all.message, all.complete))

-- ---- one push, where it is taken

pub taken : (old new : Holding) (follows : Bool) (message : Message) (complete next : Bool) (f : Frame) (fs : List Frame) → IsPushOf f follows message complete next
    → size_of (grown old message complete next).message ≤ old.max_payload → new.held ≡ left_held follows (grown old message complete next) → new.max_payload ≡ old.max_payload
    → answers old (f ∷ fs) ≡ Ok (glued_of follows (grown old message complete next)) ∷ answers new fs
taken old new follows message complete next f fs part fits held limit =
    let after : new ≡ glue_with old.max_payload (left_held follows (grown old message complete next)) =
    ap (λ n. record new { max_payload = n }) limit ∙ ap (glue_with old.max_payload) held in
    grind (arith, common_steps, nat_tests, after, part.message_is, part.complete_is, part.next_is, part.follows_is)
