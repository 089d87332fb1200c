-- The fields once the oldest frames are forgotten.
use Rattle.std.proofs.Common.{◌≡◌, ◌+◌, ◌-◌, ◌≤◌, [], ◌++◌, length, take, drop, refl, sym, ap, subst, ◌∙◌, arith}
use Rattle.std.specs.List.{AllByRecursion}
use Rattle.std.proofs.lemmas.List.{drop-drop, drop-take, drop_all, drop_at, length-append, length-drop, take-append-drop, take_at}
use Rattle.position.specs.Boundaries.{frames_from_by, pos_by}
use Rattle.position.proofs.Boundaries.{pos-append}
use Rattle.replay_buffer.specs.Blocks.{Bytes}
use Rattle.replay_buffer.specs.Laid.{laid_len}
use Rattle.replay_buffer.specs.Marked.{HasRoom, IsAt, IsMarked}
use Rattle.replay_buffer.specs.Stored.{IsTrimmed, Stored, floor_of, frames_of}
use Rattle.replay_buffer.specs.Storage.{IsPlainFrom, IsStored, all_of, stored_of}
use Rattle.replay_buffer.specs.declared.marks.Marks.{Marks}
use Rattle.replay_buffer.specs.declared.marks.Spot.{Spot}
use Rattle.replay_buffer.specs.declared.store.Store.TheInside.{Inside}
use Rattle.replay_buffer.proofs.Boundaries.{from-taken}
use Rattle.replay_buffer.proofs.Marked.{at-drop}
use Rattle.replay_buffer.proofs.Plain.{plain-drop}
use Rattle.replay_buffer.proofs.Shown.{same_stored, shows}
use Rattle.replay_buffer.proofs.Stored.{Stores-drop, all_take, few_laid}

-- the fields without the frames before a place
abbrev pub without_front : Inside → Bytes → Marks → Spot → Spot → Inside
without_front r bytes marks near gone = record {
  bytes = bytes;
  marks = marks;
  floor = gone.position;
  base = gone.offset;
  oldest = record r.oldest { index = r.oldest.index - gone.index };
  end = r.end;
  plain = r.plain;
  near = near;
  spare_frames = r.spare_frames;
  spare_bytes = r.spare_bytes;
}

pub record Dropped (r new : Inside) (gone : Spot) : Type 0 where
  pub stored : IsStored new
  pub same : stored_of new ≡ record (stored_of r) { base = gone.offset; below = drop gone.index (stored_of r).below }
  pub floor : floor_of (stored_of new) ≡ gone.position

pub dropped : (r : Inside) (bytes : Bytes) (marks : Marks) (near gone : Spot) → IsStored r → IsAt r.floor r.base (all_of r) gone → gone.index ≤ r.oldest.index
    → bytes ≡ record r.bytes { items = drop (gone.offset - r.base) r.bytes.items } → marks.frames ≡ r.marks.frames - gone.index
    → IsMarked (r.floor + pos_by length (take gone.index (all_of r))) (r.base + laid_len (take gone.index (all_of r))) (drop gone.index (all_of r)) marks
    → HasRoom marks r.spare_frames → IsAt gone.position gone.offset (drop gone.index (all_of r)) near → Dropped r (without_front r bytes marks near gone) gone
dropped r bytes marks near gone s there le bytes_are less marked room here =
    let fs = all_of r in
    let k = gone.index in
    let left = r.oldest.index - gone.index in
    let new = without_front r bytes marks near gone in
    let rest = ap (λ (b : Bytes). b.items) bytes_are in
    let now = Stores-drop marks.frames (gone.offset - r.base) r.bytes.items bytes.items fs k s.stored (omega (arith, less, s.marked.count)) (omega (arith, there.offset)) rest in
    let sum : pos_by length fs ≡ pos_by length (take gone.index fs) + pos_by length (drop gone.index fs) = ap (pos_by length) (sym (take-append-drop k fs)) ∙ pos-append length (take k fs) (drop k fs) in
    let whole : gone.index + (r.oldest.index - gone.index) ≡ r.oldest.index = omega (arith, le) in
    let few = few_laid (take k fs) (all_take _ fs k s.stored.longer) in
    let size = ap length now.same ∙ length-drop gone.index fs in
    let oldest : IsAt gone.position gone.offset (drop k fs) new.oldest = at-drop r.floor r.base fs r.oldest new.oldest gone s.oldest there le refl refl refl in
    let marked_now : IsMarked gone.position gone.offset (drop k fs) marks =
    subst (λ p. IsMarked p gone.offset (drop k fs) marks) (sym there.start) (subst (λ b. IsMarked (r.floor + pos_by length (take k fs)) b (drop k fs) marks) (sym there.offset) marked) in
    let stored : IsStored new = record {
      stored = now.stored;
      marked = subst (λ l. IsMarked gone.position gone.offset l marks) (sym now.same) marked_now;
      end = omega (arith, s.end, ap (pos_by length) now.same, sum, there.start);
      top = s.top;
      framed = omega (arith, s.framed, ap (pos_by length) now.same, sum, size);
      small = omega (arith, s.small, there.start, there.offset, few);
      oldest = subst (λ l. IsAt gone.position gone.offset l new.oldest) (sym now.same) oldest;
      near = subst (λ l. IsAt gone.position gone.offset l near) (sym now.same) here;
      plain = subst (IsPlainFrom r.plain gone.position) (sym now.same) (plain-drop r.plain r.floor gone.position k fs s.plain there.within there.start);
      plain_end = s.plain_end;
      spare_of_bytes = omega (arith, s.spare_of_bytes, ap (λ (b : Bytes). b.free) bytes_are);
      spare_of_frames = room;
    } in
    let below = ap (take left) now.same ∙ sym (ap (λ n. drop k (take n fs)) (sym whole) ∙ drop-take k left fs) in
    record {
      stored = stored;
      same = same_stored _ _ refl refl below (ap (drop left) now.same ∙ drop-drop left k fs ∙ ap (λ n. drop n fs) whole) refl;
      floor = (shows new stored).floor;
    }

-- what is left where all frames are forgotten that are held no longer
pub freed : (v new : Stored) (gone : Spot) → AllByRecursion (λ f. 6 ≤ length f) (frames_of v) → pos_by length v.below ≤ v.first → length v.below ≡ gone.index → gone.position ≡ v.first
    → new ≡ record v { base = gone.offset; below = drop gone.index v.below } → floor_of new ≡ gone.position → IsTrimmed v new v.first
unfolding pos_by
freed v new gone longer within many first is floor =
    let n = length v.below in
    let none : new.below ≡ [] = ap (λ (s : Stored). s.below) is ∙ drop_all gone.index v.below (omega (arith, many)) in
    let base : gone.offset ≡ new.base = sym (ap (λ (s : Stored). s.base) is) in
    let below : drop gone.index v.below ≡ new.below = sym (ap (λ (s : Stored). s.below) is) in
    let held : new.held ≡ v.held = ap (λ (s : Stored). s.held) is in
    let frames : frames_of new ≡ v.held = (λ i. none i ++ held i) in
    let taken : take n (frames_of v) ≡ v.below = take_at v.below v.held n refl in
    let from : pos_by length (take n (frames_of v)) ≡ v.first - floor_of v = omega (arith, ap (pos_by length) taken, within) in
    let rest : frames_from_by length (frames_of v) (pos_by length (take n (frames_of v))) ≡ v.held = from-taken (frames_of v) n longer (omega (arith, length-append v.below v.held)) ∙ drop_at v.below v.held n refl in
    record {
      same = is ∙ (λ i. record v { base = base i; below = below i });
      floor = floor ∙ first;
      frames = frames ∙ sym rest ∙ ap (frames_from_by length (frames_of v)) from;
      within = omega (arith, ap (pos_by length) none);
      none = λ all. none;
    }
