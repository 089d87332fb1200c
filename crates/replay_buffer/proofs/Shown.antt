-- What the fields show.
use Rattle.std.proofs.Common.{◌≡◌, ℕ, ◌+◌, zero, suc, List, [], ◌++◌, length, take, drop, refl, sym, ap, ◌∙◌, arith}
use Rattle.std.specs.List.{AllByRecursion}
use Rattle.circular_buffer.specs.Buffer.{buffer}
use Rattle.replay_buffer.specs.Blocks.{Bytes}
use Rattle.std.proofs.lemmas.List.{take-append-drop, drop-drop}
use Rattle.std.proofs.Math.Seq.{take-add}
use Rattle.std.proofs.Math.Numerals.{add-one}
use Rattle.position.specs.Boundaries.{pos_by}
use Rattle.position.proofs.Boundaries.{pos-append}
use Rattle.replay_buffer.specs.Laid.{IsPlain}
use Rattle.replay_buffer.specs.Stored.{Stored, end_of, floor_of, frames_of}
use Rattle.replay_buffer.specs.Storage.{IsStored, all_of, stored_of}
use Rattle.replay_buffer.specs.declared.marks.Marks.{Marks}
use Rattle.replay_buffer.specs.declared.marks.Spot.{Spot}
use Rattle.replay_buffer.specs.declared.store.Store.TheInside.{Inside}

pub record Shows (r : Inside) : Type 0 where
  pub frames : frames_of (stored_of r) ≡ all_of r
  pub floor : floor_of (stored_of r) ≡ r.floor
  pub end : end_of (stored_of r) ≡ r.end
  pub sum : pos_by length (all_of r) ≡ pos_by length (take r.oldest.index (all_of r)) + pos_by length (drop r.oldest.index (all_of r))

pub shows : (r : Inside) → IsStored r → Shows r
shows r s =
    let parts : take r.oldest.index (all_of r) ++ drop r.oldest.index (all_of r) ≡ all_of r = take-append-drop r.oldest.index (all_of r) in
    let sum = pos-append length (take r.oldest.index (all_of r)) (drop r.oldest.index (all_of r)) in
    let all = ap (pos_by length) parts in
    record {
      frames = parts;
      floor = omega (arith, s.oldest.start);
      end = omega (arith, s.oldest.start, s.end, sum, all);
      sum = omega (arith, sum, all);
    }

-- nothing is stored
abbrev pub start : Spot
start = record { index = 0; position = 0; offset = 0 }

abbrev pub nothing : Bytes → Marks → Spot → Spot → Inside
nothing bytes marks oldest near = record {
  bytes = bytes;
  marks = marks;
  floor = 0;
  base = 0;
  oldest = oldest;
  end = 0;
  plain = 0;
  near = near;
  spare_frames = 0;
  spare_bytes = 0;
}

plain_none : (k : ℕ) → AllByRecursion IsPlain (drop k [])
plain_none zero = tt
plain_none (suc k) = tt

pub none : (bytes : Bytes) (marks : Marks) (oldest near : Spot) → bytes.items ≡ [] → marks ≡ record { starts = buffer [] 0; lead = 0; frames = 0 }
    → oldest ≡ start → near ≡ start → IsStored (nothing bytes marks oldest near)
unfolding pos_by
none bytes marks oldest near b m o n =
    rw (m, o, n) (record {
      stored = record { bytes_are = b; longer = tt; shorter = tt };
      marked = record { count = refl; starts = λ i lt. absurd (omega arith); offsets = λ i lt. absurd (omega arith); reach = omega arith; tight = omega arith };
      end = omega arith;
      top = omega arith;
      framed = omega arith;
      small = omega arith;
      oldest = record { within = omega arith; start = omega arith; offset = omega arith };
      near = record { within = omega arith; start = omega arith; offset = omega arith };
      plain = λ k le up. plain_none k;
      plain_end = omega arith;
      spare_of_bytes = omega (arith, ap length b);
      spare_of_frames = omega arith;
    })

pub same_stored : (s t : Stored) → s.first ≡ t.first → s.base ≡ t.base → s.below ≡ t.below → s.held ≡ t.held → s.spare ≡ t.spare → s ≡ t
same_stored s t first base below held spare =
    λ i. record { first = first i; base = base i; below = below i; held = held i; spare = spare i }

-- the frames up to the next one
pub record Next (fs : List (List ℕ)) (n : ℕ) : Type 0 where
  pub taken : take (n + 1) fs ≡ take n fs ++ take 1 (drop n fs)
  pub left : drop (n + 1) fs ≡ drop 1 (drop n fs)
  pub sum : pos_by length (take (n + 1) fs) ≡ pos_by length (take n fs) + pos_by length (take 1 (drop n fs))
  pub same : pos_by length (take (suc n) fs) ≡ pos_by length (take (n + 1) fs)

pub next : (fs : List (List ℕ)) (n : ℕ) → Next fs n
next fs n =
    let taken = take-add n 1 fs in
    record {
      taken = taken;
      left = sym (drop-drop 1 n fs);
      sum = ap (pos_by length) taken ∙ pos-append length (take n fs) (take 1 (drop n fs));
      same = ap (λ k. pos_by length (take k fs)) (sym (add-one n));
    }
