-- What contracts see of a store, and what its fields hold.
use Rattle.std.proofs.Common.{◌≡◌, ℕ, ◌+◌, ◌-◌, ◌*◌, ◌<◌, ◌≤◌, List, ◌∷◌, suc, length, take, drop, ◌^◌, sym, ap, subst, ◌∙◌, arith}
use Rattle.std.specs.List.{AllByRecursion}
use Rattle.std.proofs.lemmas.List.{take_all}
use Rattle.position.specs.Boundaries.{pos_by}
use Rattle.replay_buffer.specs.Laid.{Begins, laid_len, prefix_len}
use Rattle.replay_buffer.specs.Marked.{Counts, IsAt, IsMarked}
use Rattle.replay_buffer.specs.Stored.{Stored, end_of, floor_of, frames_of}
use Rattle.replay_buffer.specs.Storage.{IsPlainFrom, IsStored, Stores, all_of, stored_of}
use Rattle.replay_buffer.specs.declared.marks.Spot.{Spot}
use Rattle.replay_buffer.specs.declared.store.Store.TheInside.{Inside}
use Rattle.replay_buffer.proofs.Boundaries.{rising}
use Rattle.replay_buffer.proofs.Marked.{first_at}
use Rattle.replay_buffer.proofs.Prefixed.{prefix-least}
use Rattle.replay_buffer.proofs.Shown.{shows}
use Rattle.replay_buffer.proofs.Stored.{few_frames, few_laid, laid_parts, measured}

pub record Known (r : Inside) (v : Stored) : Type 0 where
  pub frames : frames_of v ≡ all_of r
  pub floor : floor_of v ≡ r.floor
  pub base : v.base ≡ r.base
  pub first : v.first ≡ r.oldest.position
  pub within : pos_by length v.below ≤ v.first
  pub end : end_of v ≡ r.end
  pub longer : AllByRecursion (λ f. 6 ≤ length f) (frames_of v)
  pub stores : Stores r.bytes.items (frames_of v)
  pub size : length r.bytes.items ≡ laid_len (frames_of v)
  pub marked : IsMarked (floor_of v) v.base (frames_of v) r.marks
  pub many : r.marks.frames ≡ length (frames_of v)
  pub few : 6 * length (frames_of v) ≤ pos_by length (frames_of v)
  pub top : floor_of v + pos_by length (frames_of v) < 2 ^ 63
  pub framed : pos_by length (frames_of v) + 3 * length (frames_of v) < 2 ^ 63
  pub small : 5 * (v.base + laid_len (frames_of v)) ≤ 6 * (floor_of v + pos_by length (frames_of v))
  pub counts : Counts r.marks
  pub whole : floor_of v + pos_by length (frames_of v) ≡ r.end
  pub oldest : IsAt (floor_of v) v.base (frames_of v) r.oldest
  pub near : IsAt (floor_of v) v.base (frames_of v) r.near
  pub plain : IsPlainFrom r.plain (floor_of v) (frames_of v)
  pub plain_end : r.plain ≤ floor_of v + pos_by length (frames_of v)

pub known : (r : Inside) (v : Stored) → IsStored r → stored_of r ≡ v → Known r v
known r v s is =
    let w = shows r s in
    let frames : frames_of v ≡ all_of r = ap frames_of (sym is) ∙ w.frames in
    let floor : floor_of v ≡ r.floor = ap floor_of (sym is) ∙ w.floor in
    let base : v.base ≡ r.base = ap (λ (u : Stored). u.base) (sym is) in
    let longer : AllByRecursion (λ f. 6 ≤ length f) (frames_of v) = subst (AllByRecursion (λ f. 6 ≤ length f)) (sym frames) s.stored.longer in
    let few : 6 * length (frames_of v) ≤ pos_by length (frames_of v) = few_frames (frames_of v) longer in
    let marked : IsMarked (floor_of v) v.base (frames_of v) r.marks = rw (frames, floor, base) s.marked in
    let top : floor_of v + pos_by length (frames_of v) < 2 ^ 63 = omega (arith, s.top, s.end, floor, ap (pos_by length) frames) in
    record {
      frames = frames;
      floor = floor;
      base = base;
      first = ap (λ (u : Stored). u.first) (sym is);
      within = omega (arith, s.oldest.start, ap (λ (u : Stored). u.first) is, ap (λ (u : Stored). pos_by length u.below) is);
      end = ap end_of (sym is) ∙ w.end;
      longer = longer;
      stores = subst (Stores r.bytes.items) (sym frames) s.stored;
      size = ap length s.stored.bytes_are ∙ ap laid_len (sym frames);
      marked = marked;
      many = marked.count;
      few = few;
      top = top;
      framed = omega (arith, s.framed, ap length frames, ap (pos_by length) frames);
      small = omega (arith, s.small, floor, base, few_laid (frames_of v) longer);
      counts = record { reach = marked.reach; top = omega (arith, marked.tight, marked.count, few, top) };
      whole = omega (arith, s.end, floor, ap (pos_by length) frames);
      oldest = rw (frames, floor, base) s.oldest;
      near = rw (frames, floor, base) s.near;
      plain = subst (λ fs. IsPlainFrom r.plain (floor_of v) fs) (sym frames) (subst (λ at. IsPlainFrom r.plain at (all_of r)) (sym floor) s.plain);
      plain_end = omega (arith, s.plain_end, s.end, floor, ap (pos_by length) frames);
    }

-- the first frame lies at the floor
pub first_here : (r : Inside) (v : Stored) (s : Spot) → Known r v → s ≡ record { index = 0; position = r.floor; offset = r.base } → IsAt (floor_of v) v.base (frames_of v) s
first_here r v s k is =
    let here : record { index = 0; position = floor_of v; offset = v.base } ≡ s = (λ i. record { index = 0; position = k.floor i; offset = k.base i }) ∙ sym is in
    subst (IsAt (floor_of v) v.base (frames_of v)) here (first_at (floor_of v) v.base (frames_of v))

-- a place among the frames is one among those that the fields hold
pub inside_at : (r : Inside) (v : Stored) (s : Spot) → Known r v → IsAt (floor_of v) v.base (frames_of v) s → IsAt r.floor r.base (all_of r) s
inside_at r v s k here = rw (← k.frames, ← k.floor, ← k.base) here

pub outside_at : (r : Inside) (v : Stored) (s : Spot) → Known r v → IsAt r.floor r.base (all_of r) s → IsAt (floor_of v) v.base (frames_of v) s
outside_at r v s k here = rw (k.frames, k.floor, k.base) here

-- the frame at a place, and the place after it
pub record Reached (r : Inside) (v : Stored) (s : Spot) : Type 0 where
  pub frame : List ℕ
  pub begins : Begins (drop (s.offset - r.base) r.bytes.items) frame
  pub rest : drop s.index (frames_of v) ≡ frame ∷ drop (suc s.index) (frames_of v)
  pub next : s.position + length frame ≡ floor_of v + pos_by length (take (s.index + 1) (frames_of v))
  pub lies : s.offset + (prefix_len (length frame) + length frame) ≡ v.base + laid_len (take (s.index + 1) (frames_of v))
  pub from : r.base ≤ s.offset
  pub top : s.position + length frame < 2 ^ 63
  pub high : s.offset + (prefix_len (length frame) + length frame) < 2 ^ 64
  pub prefix : 1 ≤ prefix_len (length frame)

pub reached : (r : Inside) (v : Stored) (s : Spot) → Known r v → IsAt (floor_of v) v.base (frames_of v) s → s.index < length (frames_of v) → Reached r v s
reached r v s k here lt =
    let fs = frames_of v in
    let m = measured r.bytes.items fs s.index (s.offset - r.base) k.stores lt (omega (arith, here.offset, k.base)) in
    let all = ap (pos_by length) (take_all (length fs) fs (omega arith)) in
    let up = rising fs (s.index + 1) (length fs) (omega arith) in
    let parts = laid_parts fs (s.index + 1) in
    record {
      frame = m.frame;
      begins = m.begins;
      rest = m.rest;
      next = omega (arith, m.next, here.start);
      lies = omega (arith, m.lies, here.offset);
      from = omega (arith, here.offset, k.base);
      top = omega (arith, m.next, here.start, all, up, k.top);
      high = omega (arith, m.lies, here.offset, parts, k.small, k.top);
      prefix = prefix-least (length m.frame);
    }

-- from one place to a later one
pub record Stepped (position end index j : ℕ) : Type 0 where
  pub rises : position ≤ end
  pub top : (end - position) + 3 * (j - index) < 2 ^ 64

pub stepped : (r : Inside) (v : Stored) (position end index j : ℕ) → Known r v → position ≡ floor_of v + pos_by length (take index (frames_of v))
    → end ≡ floor_of v + pos_by length (take j (frames_of v)) → index ≤ j → j ≤ length (frames_of v) → Stepped position end index j
stepped r v position end index j k at to up le =
    let fs = frames_of v in
    let all = ap (pos_by length) (take_all (length fs) fs (omega arith)) in
    let rise = rising fs index j up in
    let rest = rising fs j (length fs) le in
    record {
      rises = omega (arith, at, to, rise);
      top = omega (arith, at, to, all, rest, k.few, k.top, le);
    }
