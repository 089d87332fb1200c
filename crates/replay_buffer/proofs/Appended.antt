-- The fields once a frame was appended.
use Rattle.std.proofs.Common.{◌≡◌, ℕ, ◌+◌, ◌-◌, ◌*◌, ◌<◌, ◌≤◌, ◌^◌, List, [], ◌∷◌, ◌++◌, length, take, drop, refl, sym, ap, subst, ◌∙◌, arith}
use Rattle.std.proofs.lemmas.List.{drop-append-le, length-append, take-append-le}
use Rattle.position.specs.Boundaries.{pos_by}
use Rattle.position.proofs.Boundaries.{pos-push}
use Rattle.replay_buffer.specs.Blocks.{Bytes}
use Rattle.replay_buffer.specs.Held.{HasSpare, spare_after}
use Rattle.replay_buffer.specs.Laid.{laid, laid_len, plain_after, prefix_len}
use Rattle.replay_buffer.specs.Marked.{HasRoom, IsAt, IsMarked}
use Rattle.replay_buffer.specs.Storage.{IsPlainFrom, IsStored, all_of, stored_of}
use Rattle.replay_buffer.specs.Stored.{Stored, end_of}
use Rattle.replay_buffer.specs.declared.marks.Marks.{Marks}
use Rattle.replay_buffer.specs.declared.store.Store.TheInside.{Inside}
use Rattle.replay_buffer.proofs.Marked.{at-push}
use Rattle.replay_buffer.proofs.Plain.{plain-push, plain-within}
use Rattle.replay_buffer.proofs.Prefixed.{prefix-most}
use Rattle.replay_buffer.proofs.Shown.{same_stored, shows}
use Rattle.replay_buffer.proofs.Stored.{Stores-append, few_frames, laid_least}

abbrev pub with_frame : Inside → Bytes → Marks → ℕ → ℕ → Inside
with_frame r bytes marks plain n = record {
  bytes = bytes;
  marks = marks;
  floor = r.floor;
  base = r.base;
  oldest = r.oldest;
  end = r.end + n;
  plain = plain;
  near = r.near;
  spare_frames = r.spare_frames - 1;
  spare_bytes = r.spare_bytes - n;
}

-- what the blocks and the marks hold once the frame was put there
pub record Puts (r : Inside) (bytes : Bytes) (marks : Marks) (frame : List ℕ) : Type 0 where
  pub size : length r.bytes.items < 3 * 2 ^ 61
  pub bytes_are : bytes ≡ record r.bytes { items = r.bytes.items ++ laid frame; free = r.bytes.free - (prefix_len (length frame) + length frame) }
  pub many : marks.frames ≡ r.marks.frames + 1
  pub marked : IsMarked r.floor r.base (all_of r ++ frame ∷ []) marks
  pub room : HasRoom r.marks (1 + (r.spare_frames - 1)) → HasRoom marks (r.spare_frames - 1)

pub record Appended (r new : Inside) (frame : List ℕ) : Type 0 where
  pub stored : IsStored new
  pub same : stored_of new ≡ record (stored_of r) {
    held = (stored_of r).held ++ frame ∷ [];
    spare = spare_after (stored_of r).spare (length frame);
  }

-- what lies there lies where the newest frame ended
pub newest_at : (r : Inside) → IsStored r → (n : ℕ) → n ≡ length r.bytes.items → r.base + n ≡ r.base + laid_len (all_of r)
newest_at r s n is = omega (arith, is, ap length s.stored.bytes_are)

pub appended : (r : Inside) (v : Stored) (bytes : Bytes) (marks : Marks) (plain n : ℕ) (frame : List ℕ) → IsStored r → stored_of r ≡ v → Puts r bytes marks frame → n ≡ length frame
    → HasSpare v.spare (length frame) → 6 ≤ length frame → length frame < 2 ^ 24 → end_of v + length frame < 2 ^ 63 → plain ≡ plain_after r.plain (r.end + n) n
    → Appended r (with_frame r bytes marks plain n) frame
appended r v bytes marks plain n frame s is put count spare long short top plain_is =
    let fs = all_of r in
    let new = with_frame r bytes marks plain n in
    let items = ap (λ (b : Bytes). b.items) put.bytes_are in
    let now = Stores-append marks.frames r.bytes.items bytes.items fs frame s.stored (omega (arith, put.many, s.marked.count)) items long short in
    let few = ap (λ (u : Stored). u.spare.frames) is in
    let some = ap (λ (u : Stored). u.spare.bytes) is in
    let sum = pos-push length fs frame in
    let more = length-append fs (frame ∷ []) in
    let within = s.oldest.within in
    let ends : r.end + n ≡ r.floor + pos_by length (fs ++ frame ∷ []) = omega (arith, count, s.end, sum) in
    let plain_now : IsPlainFrom plain r.floor (fs ++ frame ∷ []) =
    subst (λ p. IsPlainFrom p r.floor (fs ++ frame ∷ [])) (sym plain_is) (plain-push r.plain r.floor (r.end + n) n fs frame s.plain (omega (arith, long)) count ends) in
    let stored : IsStored new = record {
      stored = now.stored;
      marked = subst (λ l. IsMarked r.floor r.base l marks) (sym now.same) put.marked;
      end = omega (arith, ends, ap (pos_by length) now.same);
      top = omega (arith, count, (shows r s).end, ap end_of is, top);
      framed = omega (arith, put.size, ap length s.stored.bytes_are, laid_least fs, few_frames fs s.stored.longer, sum, more, short, ap length now.same, ap (pos_by length) now.same);
      small = s.small;
      oldest = subst (λ l. IsAt r.floor r.base l r.oldest) (sym now.same) (at-push r.floor r.base fs frame r.oldest s.oldest);
      near = subst (λ l. IsAt r.floor r.base l r.near) (sym now.same) (at-push r.floor r.base fs frame r.near s.near);
      plain = subst (IsPlainFrom plain r.floor) (sym now.same) plain_now;
      plain_end = omega (arith, plain_is, plain-within r.plain (r.end + n) n (omega (arith, s.plain_end)));
      spare_of_bytes = omega (arith, count, s.spare_of_bytes, ap (λ (b : Bytes). b.free) put.bytes_are, prefix-most (length frame), few, some, spare.0, spare.1);
      spare_of_frames = put.room (omega (arith, s.spare_of_frames, few, spare.0));
    } in
    let below = ap (take r.oldest.index) now.same ∙ take-append-le r.oldest.index fs (frame ∷ []) within in
    let held = ap (drop r.oldest.index) now.same ∙ drop-append-le r.oldest.index fs (frame ∷ []) within in
    record {
      stored = stored;
      same = same_stored _ _ refl refl below held (ap (λ m. record { frames = r.spare_frames - 1; bytes = r.spare_bytes - m }) count);
    }
