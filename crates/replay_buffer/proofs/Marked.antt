-- Marks, and how they change.
use Rattle.std.proofs.Common.{◌≡◌, ℕ, ◌+◌, ◌-◌, ◌*◌, ◌<◌, ◌≤◌, List, [], ◌∷◌, ◌++◌, length, take, drop, sym, ap, subst, ◌∙◌, arith}
use Rattle.std.proofs.lemmas.List.{get_or-drop, length-append, length-drop, take-append-le}
use Rattle.position.specs.Boundaries.{pos_by}
use Rattle.replay_buffer.specs.Laid.{laid_len}
use Rattle.replay_buffer.specs.Marked.{IsAt, IsMarked, mark_at}
use Rattle.replay_buffer.specs.declared.marks.Marks.{Marks}
use Rattle.replay_buffer.specs.declared.marks.Spot.{Spot}
use Rattle.replay_buffer.specs.declared.marks.TheConstants.{EVERY}
use Rattle.replay_buffer.specs.declared.rings.Mark.{Mark}
use Rattle.replay_buffer.proofs.Boundaries.{pos_parts, rising}
use Rattle.replay_buffer.proofs.Stored.{laid_len-parts}

-- marks rise
pub marks_rise : (at base : ℕ) (fs : List (List ℕ)) (m : Marks) → IsMarked at base fs m
    → (i j : ℕ) → i ≤ j → j < length m.starts.items → (mark_at m.starts.items i).position ≤ (mark_at m.starts.items j).position
marks_rise at base fs m s i j le lt =
    omega (arith, s.starts i (omega arith), s.starts j lt, rising fs (m.lead + EVERY * i) (m.lead + EVERY * j) (omega arith))

-- the first frame is at the floor
pub first_at : (at base : ℕ) (fs : List (List ℕ)) → IsAt at base fs (record { index = 0; position = at; offset = base })
unfolding pos_by
first_at at base fs = record { within = omega arith; start = omega arith; offset = omega arith }

pub at-first : (fs : List (List ℕ)) (s : Spot) → s.index ≡ 0 → IsAt s.position s.offset fs s
at-first fs s none = subst (IsAt s.position s.offset fs) (λ i. record { index = sym none i; position = s.position; offset = s.offset }) (first_at s.position s.offset fs)

-- a place stays one where a frame comes to the others
pub at-push : (at base : ℕ) (fs : List (List ℕ)) (f : List ℕ) (s : Spot) → IsAt at base fs s → IsAt at base (fs ++ f ∷ []) s
at-push at base fs f s here =
    let same = take-append-le s.index fs (f ∷ []) here.within in
    record {
      within = omega (arith, here.within, length-append fs (f ∷ []));
      start = omega (arith, here.start, ap (pos_by length) same);
      offset = omega (arith, here.offset, ap laid_len same);
    }

-- and so does one where the frames before another one are gone, if it lies behind these
pub at-drop : (at base : ℕ) (fs : List (List ℕ)) (s new gone : Spot) → IsAt at base fs s → IsAt at base fs gone → gone.index ≤ s.index
    → new.index ≡ s.index - gone.index → new.position ≡ s.position → new.offset ≡ s.offset → IsAt gone.position gone.offset (drop gone.index fs) new
at-drop at base fs s new gone here there le less same lies =
    let whole : s.index ≡ gone.index + new.index = omega (arith, less, le) in
    record {
      within = omega (arith, here.within, length-drop gone.index fs, less);
      start = omega (arith, same, here.start, there.start, ap (λ n. pos_by length (take n fs)) whole, pos_parts fs gone.index new.index);
      offset = omega (arith, lies, here.offset, there.offset, ap (λ n. laid_len (take n fs)) whole, laid_len-parts fs gone.index new.index);
    }

-- the first frames are gone, and so many marks
pub marked-drop : (at base : ℕ) (fs : List (List ℕ)) (m new : Marks) (k n : ℕ) → IsMarked at base fs m → k ≤ length fs → n ≤ length m.starts.items → new.frames ≡ m.frames - k
    → new.lead + k ≡ m.lead + EVERY * n → new.starts.items ≡ drop n m.starts.items → IsMarked (at + pos_by length (take k fs)) (base + laid_len (take k fs)) (drop k fs) new
marked-drop at base fs m new k n s le few less lead dropped =
    let len = ap length dropped ∙ length-drop n m.starts.items in
    let same : (i : ℕ) → mark_at new.starts.items i ≡ mark_at m.starts.items (n + i) = λ i. ap (λ l. mark_at l i) dropped ∙ get_or-drop n m.starts.items i (record { position = 0; offset = 0 }) in
    let sum : (i : ℕ) → m.lead + EVERY * (n + i) ≡ k + (new.lead + EVERY * i) = λ i. omega (arith, lead) in
    let inside : (i : ℕ) → i < length new.starts.items → n + i < length m.starts.items = λ i lt. omega (arith, lt, len) in
    record {
      count = omega (arith, less, s.count, length-drop k fs);
      starts = λ i lt.
          let there : (mark_at m.starts.items (n + i)).position ≡ at + pos_by length (take (k + (new.lead + EVERY * i)) fs) =
          s.starts (n + i) (inside i lt) ∙ ap (λ j. at + pos_by length (take j fs)) (sum i) in
          ap (λ (x : Mark). x.position) (same i) ∙ there ∙ omega (arith, pos_parts fs k (new.lead + EVERY * i));
      offsets = λ i lt.
          let there : (mark_at m.starts.items (n + i)).offset ≡ base + laid_len (take (k + (new.lead + EVERY * i)) fs) =
          s.offsets (n + i) (inside i lt) ∙ ap (λ j. base + laid_len (take j fs)) (sum i) in
          ap (λ (x : Mark). x.offset) (same i) ∙ there ∙ omega (arith, laid_len-parts fs k (new.lead + EVERY * i));
      reach = omega (arith, s.reach, less, lead, len, few);
      tight = omega (arith, s.tight, less, lead, len, few, le, s.count);
    }
