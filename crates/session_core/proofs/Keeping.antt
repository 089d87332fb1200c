-- What is held of the frames made, as a session keeps it.
use Rattle.std.proofs.Common.{◌≡◌, ◌≤◌, ◌<◌, ◌+◌, ◌-◌, ◌^◌, ◌&&◌, ◌↔◌, leb, ℕ, Bool, true, false, List, [], ◌∷◌, ◌++◌, length, map, take, drop, zero, suc, refl, ap, sym, subst, ◌∙◌, arith, length-append, append_assoc, append-nil}
use Rattle.std.specs.Prelude.{get_or}
use Rattle.std.specs.List.{AllByRecursion}
use Rattle.std.proofs.lemmas.Bool.{le-leb}
use Rattle.std.proofs.lemmas.Grind.{take_at_read}
use Rattle.std.proofs.lemmas.List.{length-take, take-append-drop}
use Rattle.std.proofs.lemmas.Bool.Decides.{nat_tests}
use Rattle.rs_frame.specs.declared.frame.Frame.{Frame}
use Rattle.rs_frame.specs.Spelling.{IsSpellable, canonical, length_of}
use Rattle.position.specs.Boundaries.{is_boundary, is_boundary_by, pos, pos_by}
use Rattle.position.proofs.Boundaries.{pos-append}
use Rattle.position.proofs.Held.{boundary_test, test_boundary}
use Rattle.outbox.specs.Waiting.{Waiting}
use Rattle.replay_buffer.specs.Held.{HasSpare, Held, IsHeldBoundary, IsHeldOf, Spare, end_of, from_least, spare_after, with_newest}
use Rattle.replay_buffer.proofs.HeldOf.{boundaries_held}
use Rattle.session_core.specs.Kept.{FindsSpare, HasFrameLength, KeepsAll, has_boundary}

-- ---- boundaries

both : (a b : Bool) → (a && b) ≡ true → (a ≡ true) × (b ≡ true)
both true b is = (refl, is)
both false b is = absurd (cc)

pub held_test : (h : Held) (p : ℕ) → has_boundary h p ≡ true → IsHeldBoundary h p
held_test h p is =
    let b = both (leb h.first p) (is_boundary_by length h.frames (p - h.first)) is in
    let low = b.0 in
    (grind (arith, nat_tests), boundary_test length h.frames (p - h.first) b.1)

test_held : (h : Held) (p : ℕ) → IsHeldBoundary h p → has_boundary h p ≡ true
test_held h p is = rw (le-leb h.first p is.0, test_boundary length h.frames (p - h.first) is.1) refl

-- two tests of one fact are one
same_tests : (b c : Bool) (P : Type 0) → (b ≡ true → P) → (P → b ≡ true) → (c ≡ true → P) → (P → c ≡ true) → b ≡ c
same_tests true c P to from there back = sym (back (to refl))
same_tests false true P to from there back = from (there refl)
same_tests false false P to from there back = refl

pub boundary_is : (b : Bool) (h : Held) (p : ℕ) → (b ≡ true) ↔ IsHeldBoundary h p → b ≡ has_boundary h p
boundary_is b h p is = same_tests b (has_boundary h p) (IsHeldBoundary h p) is.0 is.1 (held_test h p) (test_held h p)

-- the held boundaries are those of the frames made from the first one held on
pub boundary_of_made : (made : List Frame) (told : ℕ) (h : Held) (p : ℕ) → IsHeldOf made told h → has_boundary h p ≡ (leb h.first p && is_boundary made p)
boundary_of_made made told h p is =
    let held = boundaries_held made told h p is in
    same_tests (has_boundary h p) (leb h.first p && is_boundary made p) (IsHeldBoundary h p) (held_test h p) (test_held h p)
    (λ t.
    let b = both (leb h.first p) (is_boundary made p) t in
    let low = b.0 in
    let from : h.first ≤ p = grind (arith, nat_tests) in
    held.1 (boundary_test length_of made p b.1, from))
    (λ there.
    let b = held.0 there in
    rw (le-leb h.first p b.1, test_boundary length_of made p b.0) refl)

-- ---- frames in their bytes

frame_long : (f : Frame) → IsSpellable f → HasFrameLength (canonical f)
frame_long f spellable = let short = spellable.short in (omega arith, omega arith)

all_long : (fs : List Frame) → AllByRecursion IsSpellable fs → AllByRecursion HasFrameLength (map canonical fs)
all_long [] h = tt
all_long (f ∷ fs) h = (frame_long f h.0, all_long fs h.1)

pub spelled_long : (v : List (List ℕ)) (fs : List Frame) → v ≡ map canonical fs → AllByRecursion IsSpellable fs → AllByRecursion HasFrameLength v
spelled_long v fs is spellable = subst (AllByRecursion HasFrameLength) (sym is) (all_long fs spellable)

pub pos_spelled : (fs : List Frame) → pos_by length (map canonical fs) ≡ pos fs
unfolding pos_by
pos_spelled [] = refl
pos_spelled (f ∷ fs) = omega (arith, pos_spelled fs)

-- ---- keeping one frame after the other

-- the last one of some frames in their bytes
last_spelled : (done : List (List ℕ)) (frame : List ℕ) (fs : List Frame) → done ++ frame ∷ [] ≡ map canonical fs
    → (front : List Frame) × (newest : Frame) × (fs ≡ front ++ newest ∷ []) × (done ≡ map canonical front) × (frame ≡ canonical newest)
last_spelled [] frame [] is = absurd (cc)
last_spelled [] frame (f ∷ []) is = ([], f, refl, refl, (cc))
last_spelled [] frame (f ∷ g ∷ fs) is = absurd (cc)
last_spelled (d ∷ done) frame [] is = absurd (cc)
last_spelled (d ∷ done) frame (f ∷ fs) is =
    let head : d ≡ canonical f = cc in
    let rest : done ++ frame ∷ [] ≡ map canonical fs = cc in
    let l = last_spelled done frame fs rest in
    (f ∷ l.0, l.1, ap (λ xs. f ∷ xs) l.2, (cc), l.4)

-- what is kept of the first frames
pub record IsKeeping (old now : Waiting) (done : List (List ℕ)) : Type 0 where
  pub kept : KeepsAll old.held done now.held
  pub hold : now.held.hold ≡ old.held.hold
  pub end : end_of now.held ≡ end_of old.held + pos_by length done
  pub frames : now.room.spare.frames ≡ old.room.spare.frames - length done
  pub bytes : now.room.spare.bytes ≡ old.room.spare.bytes - pos_by length done
  pub queue : now.queue ≡ old.queue

none_kept : (made : List Frame) (told : ℕ) (h : Held) (fs : List Frame) → IsHeldOf made told h → [] ≡ map canonical fs → IsHeldOf (made ++ fs) told h
none_kept made told h [] is none = subst (λ l. IsHeldOf l told h) (sym (append-nil made)) is
none_kept made told h (f ∷ fs) is none = absurd (cc)

pub keeping_none : (b : Waiting) → IsKeeping b b []
unfolding pos_by
keeping_none b = record {
  kept = λ made told more is low same. none_kept made told b.held more is same;
  hold = refl;
  end = omega arith;
  frames = omega arith;
  bytes = omega arith;
  queue = refl;
}

one_more : (old now : Waiting) (done : List (List ℕ)) (frame : List ℕ) (new : Held) → KeepsAll old.held done now.held
    → ((made : List Frame) (told : ℕ) (newest : Frame) → IsHeldOf made told now.held → told ≤ pos made → frame ≡ canonical newest → IsHeldOf (made ++ newest ∷ []) told new)
    → KeepsAll old.held (done ++ frame ∷ []) new
one_more old now done frame new kept of_made made told more is low same =
    let l = last_spelled done frame more same in
    let front = l.0 in
    let newest = l.1 in
    let before = kept made told front is low l.3 in
    let sum = pos-append length_of made front in
    let after = of_made (made ++ front) told newest before (omega (arith, sum, low)) l.4 in
    let grouped : (made ++ front) ++ newest ∷ [] ≡ made ++ more = append_assoc made front (newest ∷ []) ∙ ap (λ xs. made ++ xs) (sym l.2) in
    subst (λ xs. IsHeldOf xs told new) grouped after

pub keeping_more : (old now new : Waiting) (done : List (List ℕ)) (frame : List ℕ) → IsKeeping old now done
    → ((made : List Frame) (told : ℕ) (newest : Frame) → IsHeldOf made told now.held → told ≤ pos made → frame ≡ canonical newest → IsHeldOf (made ++ newest ∷ []) told new.held)
    → new.held.hold ≡ now.held.hold → end_of new.held ≡ end_of now.held + length frame → new.room.spare.frames ≡ now.room.spare.frames - 1 → new.room.spare.bytes ≡ now.room.spare.bytes - length frame → new.queue ≡ now.queue
    → IsKeeping old new (done ++ frame ∷ [])
unfolding pos_by
keeping_more old now new done frame h of_made hold end frames bytes queue =
    let sum = pos-append length done (frame ∷ []) in
    let one : pos_by length (frame ∷ []) ≡ length frame = omega arith in
    let count = length-append done (frame ∷ []) in
    record {
      kept = one_more old now done frame new.held h.kept of_made;
      hold = hold ∙ h.hold;
      end = omega (arith, end, h.end, sum, one);
      frames = omega (arith, frames, h.frames, count);
      bytes = omega (arith, bytes, h.bytes, sum, one);
      queue = queue ∙ h.queue;
    }

-- ---- frame by frame

next_of : (frames : List (List ℕ)) (i : ℕ) (f : List ℕ) → i < length frames → f ≡ get_or frames i f → take (i + 1) frames ≡ take i frames ++ f ∷ []
next_of frames i f h is = (take_at_read frames i f h).1 ∙ ap (λ (x : List ℕ). take i frames ++ x ∷ []) (sym is)

-- the frames up to the next one have no more bytes than all
next_within : (frames : List (List ℕ)) (i : ℕ) (f : List ℕ) → i < length frames → f ≡ get_or frames i f → pos_by length (take i frames) + length f ≤ pos_by length frames
unfolding pos_by
next_within frames i f h is =
    let next = ap (pos_by length) (next_of frames i f h is) in
    let sum = pos-append length (take i frames) (f ∷ []) in
    let all = pos-append length (take (i + 1) frames) (drop (i + 1) frames) in
    let whole = ap (pos_by length) (take-append-drop (i + 1) frames) in
    omega (arith, next, sum, all, whole)

pub next_fits : (old now : Waiting) (frames : List (List ℕ)) (i : ℕ) (f : List ℕ) → i < length frames → f ≡ get_or frames i f → IsKeeping old now (take i frames) → FindsSpare old.room.spare frames
    → HasSpare now.room.spare (length f)
next_fits old now frames i f h is k spare =
    let within = next_within frames i f h is in
    (omega (arith, h, k.frames, spare.frames, length-take i frames), omega (arith, k.bytes, spare.bytes, within))

long_at : (frames : List (List ℕ)) (i : ℕ) (f : List ℕ) → AllByRecursion HasFrameLength frames → i < length frames → HasFrameLength (get_or frames i f)
long_at [] i f h lt = absurd (omega (arith, lt))
long_at (x ∷ xs) zero f h lt = h.0
long_at (x ∷ xs) (suc i) f h lt = long_at xs i f h.1 (omega (arith, lt))

pub next_long : (frames : List (List ℕ)) (i : ℕ) (f : List ℕ) → AllByRecursion HasFrameLength frames → i < length frames → f ≡ get_or frames i f → HasFrameLength f
next_long frames i f long h is = subst HasFrameLength (sym is) (long_at frames i f long h)

pub next_below : (old now : Waiting) (frames : List (List ℕ)) (i : ℕ) (f : List ℕ) → i < length frames → f ≡ get_or frames i f → IsKeeping old now (take i frames)
    → end_of old.held + pos_by length frames < 2 ^ 63 → end_of now.held + length f < 2 ^ 63
next_below old now frames i f h is k top = omega (arith, k.end, top, next_within frames i f h is)

pub next_kept : (old now new : Waiting) (frames : List (List ℕ)) (i : ℕ) (f : List ℕ) → i < length frames → f ≡ get_or frames i f → IsKeeping old new (take i frames ++ f ∷ [])
    → IsKeeping old new (take (i + 1) frames)
next_kept old now new frames i f h is k = subst (IsKeeping old new) (sym (next_of frames i f h is)) k

-- one frame more, whose bytes were handed in as `bytes`
pub keeping_step : (old now new : Waiting) (done : List (List ℕ)) (f bytes : List ℕ) → bytes ≡ f → IsKeeping old now done
    → ((made : List Frame) (told : ℕ) (newest : Frame) → IsHeldOf made told now.held → told ≤ pos made → bytes ≡ canonical newest → IsHeldOf (made ++ newest ∷ []) told new.held)
    → new.held ≡ from_least (with_newest now.held bytes) (end_of (with_newest now.held bytes) - now.held.hold) → end_of new.held ≡ end_of now.held + length bytes → new.room.spare ≡ spare_after now.room.spare (length bytes) → new.queue ≡ now.queue
    → IsKeeping old new (done ++ f ∷ [])
keeping_step old now new done f bytes same h of_made held end spare queue =
    subst (λ (x : List ℕ). IsKeeping old new (done ++ x ∷ [])) same
    (keeping_more old now new done bytes h of_made (ap (λ (k : Held). k.hold) held) end (ap (λ (s : Spare). s.frames) spare) (ap (λ (s : Spare). s.bytes) spare) queue)

-- ---- bytes in sum

-- the bytes of one frame more
pub next_size : (frames : List (List ℕ)) (i size sum : ℕ) (f : List ℕ) → i < length frames → f ≡ get_or frames i f → size ≡ pos_by length (take i frames) → sum ≡ size + length f
    → sum ≡ pos_by length (take (i + 1) frames)
unfolding pos_by
next_size frames i size sum f h is before more =
    let next = ap (pos_by length) (next_of frames i f h is) in
    let split = pos-append length (take i frames) (f ∷ []) in
    omega (arith, next, split, before, more)
