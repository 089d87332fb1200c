-- What was read of canonical bytes: the frames that they are, in order.
use Rattle.std.proofs.Common.{◌≡◌, ◌<◌, ◌≤◌, ◌+◌, ◌-◌, ◌^◌, ◌⊎◌, inl, inr, ℕ, List, [], ◌∷◌, ◌++◌, length, map, take, drop, Option, Some, None, refl, ap, subst, sym, ◌∙◌, arith, append_assoc}
use Rattle.std.specs.List.{flat_map, AllByRecursion}
use Rattle.std.proofs.lemmas.List.{drop_at, length-append, take_at}
use Rattle.std.proofs.lemmas.List.Concat.{flat_map-cons}
use Rattle.std.proofs.Math.Seq.{take-append_seam}
use Rattle.byteorder.specs.Endian.{big_bytes, big_from, big_number}
use Rattle.byteorder.specs.Numbers.{big_from-take}
use Rattle.rs_frame.specs.declared.frame.Frame.{Frame}
use Rattle.rs_frame.specs.Rules.{broken, prefixed}
use Rattle.rs_frame.specs.Spelling.{IsSpellable, Spells, canonical}
use Rattle.rs_frame.specs.Framed.{framed, framed_all, framed_frame}
use Rattle.rs_frame.proofs.Decoded.{none_broken}
use Rattle.rs_frame.proofs.Fields.{counted_again, number_again, rest_again}
use Rattle.rs_frame.proofs.Whole.{canonical_spells, one_frame}
use Rattle.rs_chunk.specs.Stream.{IsTooLong, IsWhole, first_frame, first_length}
use Rattle.rs_chunk.proofs.Lengths.{length-canonical}
use Rattle.session_model.specs.Lists.{IsPrefix}
use Rattle.session_model.specs.Joined.{BadFits, Crossed}
use Rattle.session_model.specs.declared.numbers.TheConstants.{LONG_FRAME}
use Rattle.session_laws.proofs.Framing.{AreSpellable}
use Rattle.link_model.specs.Reading.{AreSpelled, BeginsBad, Breaks, HasRead, IsAfter}
use Rattle.link_model.proofs.Bytes.{bad_still}

same_pair : (a b : List ℕ × List ℕ) → Some a ≡ Some b → (a.0 ≡ b.0) × (a.1 ≡ b.1)
same_pair a b e =
    let both : a ≡ b = cc in
    (ap (λ (p : List ℕ × List ℕ). p.0) both, ap (λ (p : List ℕ × List ℕ). p.1) both)

same_front : (f g x y : List ℕ) → length f < 2 ^ 24 → length g < 2 ^ 24 → framed f ++ x ≡ framed g ++ y → (f ≡ g) × (x ≡ y)
same_front f g x y a b e = same_pair (f, x) (g, y) (sym (counted_again 3 f x a) ∙ ap (prefixed 3) e ∙ counted_again 3 g y b)

short : (f : Frame) → IsSpellable f → length (canonical f) < 2 ^ 24
short f h = subst (λ (n : ℕ). n < 2 ^ 24) (sym (length-canonical f)) h.short

length_here : (f x : List ℕ) → length f < 2 ^ 24 → first_length (framed f ++ x) ≡ length f
length_here f x fits = ap (big_number 3) (append_assoc (big_bytes 3 (length f)) f x) ∙ number_again 3 (length f) (f ++ x) fits

frame_here : (f x : List ℕ) → length f < 2 ^ 24 → first_frame (framed f ++ x) ≡ f
frame_here f x fits =
    let after : drop 3 (framed f ++ x) ≡ f ++ x = ap (drop 3) (append_assoc (big_bytes 3 (length f)) f x) ∙ rest_again 3 (length f) (f ++ x) in
    ap (λ (n : ℕ). take n (drop 3 (framed f ++ x))) (length_here f x fits) ∙ (ap (take (length f)) after ∙ take-append_seam f x)

pub not_empty : (f x : List ℕ) → framed f ++ x ≡ [] → ⊥
not_empty f x e = absurd (let n : length (framed f ++ x) ≡ 0 = ap length e in omega (arith, n, length-append (framed f) x, length-append (big_bytes 3 (length f)) f))

pub cons_front : (f : List ℕ) (fs : List (List ℕ)) (r : List ℕ) → flat_map framed (f ∷ fs) ++ r ≡ framed f ++ (flat_map framed fs ++ r)
cons_front f fs r = ap (λ (t : List ℕ). t ++ r) (flat_map-cons framed f fs) ∙ append_assoc (framed f) (flat_map framed fs) r

-- pieces cut from the front of canonical bytes are canonical, and what follows them is too
pub record CutAs (ss : List (List ℕ)) (frames : List Frame) (z : List ℕ) : Type 0 where
  pub here : List Frame
  pub more : List Frame
  pub all : here ++ more ≡ frames
  pub canonical_are : ss ≡ map canonical here
  pub rest : z ≡ framed_all more

cut_canonical : (ss : List (List ℕ)) (frames : List Frame) (z : List ℕ) → AllByRecursion (λ f. length f < 2 ^ 24) ss → AreSpellable frames → flat_map framed ss ++ z ≡ framed_all frames → CutAs ss frames z
cut_canonical [] frames z fit h e = record { here = []; more = frames; all = refl; canonical_are = refl; rest = e }
cut_canonical (s ∷ ss) [] z fit h e = absurd (not_empty s (flat_map framed ss ++ z) (sym (cons_front s ss z) ∙ e))
cut_canonical (s ∷ ss) (f ∷ fs) z fit h e =
    let first = same_front s (canonical f) (flat_map framed ss ++ z) (framed_all fs) fit.0 (short f h.0) (sym (cons_front s ss z) ∙ (e ∙ flat_map-cons framed_frame f fs)) in
    let next = cut_canonical ss fs z fit.1 h.1 first.1 in
    let here = next.here in
    let same : s ≡ canonical f = first.0 in
    let others : ss ≡ map canonical here = next.canonical_are in
    record {
      here = f ∷ here;
      more = next.more;
      all = ap (λ (l : List Frame). f ∷ l) next.all;
      canonical_are = ap (λ (x : List ℕ). x ∷ ss) same ∙ ap (λ (l : List (List ℕ)). canonical f ∷ l) others;
      rest = next.rest;
    }

head_is : (s t : List ℕ) (ss ts : List (List ℕ)) → (s ∷ ss) ≡ (t ∷ ts) → (s ≡ t) × (ss ≡ ts)
head_is s t ss ts e = let a : s ≡ t = cc in let b : ss ≡ ts = cc in (a, b)

no_piece : (s : List ℕ) (ss : List (List ℕ)) → (s ∷ ss) ≡ [] → ⊥
no_piece s ss e = absurd (cc)

none_here : (t : List ℕ) (ts : List (List ℕ)) → [] ≡ (t ∷ ts) → ⊥
none_here t ts e = absurd (cc)

-- what canonical pieces spell
same_frames : (came : List Frame) (ss : List (List ℕ)) (here : List Frame) → AreSpelled came ss → ss ≡ map canonical here → AreSpellable here → came ≡ here
same_frames [] [] [] a e h = refl
same_frames [] [] (g ∷ gs) a e h = absurd (none_here (canonical g) (map canonical gs) e)
same_frames [] (s ∷ ss) here a e h = absurd a
same_frames (c ∷ cs) [] here a e h = absurd a
same_frames (c ∷ cs) (s ∷ ss) [] a e h = absurd (no_piece s ss e)
same_frames (c ∷ cs) (s ∷ ss) (g ∷ gs) a e h =
    let parts = head_is s (canonical g) ss (map canonical gs) e in
    let first : c ≡ g = one_frame c g s a.0 (subst (Spells g) (sym parts.0) (canonical_spells g h.0.fields)) in
    ap (λ (x : Frame). x ∷ cs) first ∙ ap (λ (l : List Frame). g ∷ l) (same_frames cs ss gs a.1 parts.1 h.1)

framed_map : (here : List Frame) → flat_map framed (map canonical here) ≡ framed_all here
framed_map [] = refl
framed_map (f ∷ fs) = flat_map-cons framed (canonical f) (map canonical fs) ∙ (ap (λ (l : List ℕ). framed (canonical f) ++ l) (framed_map fs) ∙ sym (flat_map-cons framed_frame f fs))

spelled_before : (xs ys : List Frame) → AreSpellable (xs ++ ys) → AreSpellable xs
spelled_before [] ys h = tt
spelled_before (x ∷ xs) ys h = (h.0, spelled_before xs ys h.1)

spelled_behind : (xs ys : List Frame) → AreSpellable (xs ++ ys) → AreSpellable ys
spelled_behind [] ys h = h
spelled_behind (x ∷ xs) ys h = spelled_behind xs ys h.1

-- canonical bytes break no rule but that of their length
only_long : (most rule : ℕ) (more : List Frame) → AreSpellable more → BeginsBad rule most (framed_all more) → (rule ≡ LONG_FRAME) × IsTooLong (framed_all more) most
only_long most rule more h (inr l) = (l.1, l.0)
only_long most rule [] h (inl w) = absurd (let n = w.0.0.0 in omega (arith, n))
only_long most rule (f ∷ fs) h (inl w) =
    let bytes : framed_all (f ∷ fs) ≡ framed (canonical f) ++ framed_all fs = flat_map-cons framed_frame f fs in
    let is : first_frame (framed_all (f ∷ fs)) ≡ canonical f = ap first_frame bytes ∙ frame_here (canonical f) (framed_all fs) (short f h.0) in
    let none : broken (first_frame (framed_all (f ∷ fs))) ≡ None = ap broken is ∙ none_broken (canonical f) (f, canonical_spells f h.0.fields) in
    let some = w.1.1 in
    absurd (cc (none, some))

length_on : (bytes piece : List ℕ) → 3 ≤ length bytes → first_length (bytes ++ piece) ≡ first_length bytes
length_on bytes piece le = sym (big_from-take 0 3 (length bytes) (bytes ++ piece) (omega arith)) ∙ ap (big_from 0 3) (take_at bytes piece (length bytes) refl)

-- where the bytes go on to a length that is too long, so they are themselves, if they begin with something bad
is_long : (most rule : ℕ) (bytes piece : List ℕ) → BeginsBad rule most bytes → IsTooLong (bytes ++ piece) most → IsTooLong bytes most
is_long most rule bytes piece (inr l) long = l.0
is_long most rule bytes piece (inl w) long =
    let same = length_on bytes piece w.0.0.0 in
    absurd (omega (arith, long.1, same, w.0.1))

bad_fits : (most : ℕ) (bad : Option ℕ) (rest after x y front : List ℕ) (more : List Frame) → AreSpellable more → IsAfter bad most rest after → after ++ (x ++ y) ≡ framed_all more → BadFits bad most front (front ++ (after ++ x))
bad_fits most None rest after x y front more h a e = tt
bad_fits most (Some rule) rest after x y front more h a e =
    let whole = bad_still rule most after (x ++ y) a in
    let long = only_long most rule more h (subst (BeginsBad rule most) e whole) in
    let there = bad_still rule most after x a in
    let dropped : drop (length front) (front ++ (after ++ x)) ≡ after ++ x = drop_at front (after ++ x) (length front) refl in
    (long.0, subst (λ (l : List ℕ). IsTooLong l most) (sym dropped) (is_long most rule (after ++ x) y there (subst (λ (l : List ℕ). IsTooLong l most) (sym (append_assoc after x y ∙ e)) long.1)))

-- What was read of the first of canonical bytes crossed: frames came whole and in order, and where bytes came that are no frame, a length stands there that is too long.
pub read_crossed : (most : ℕ) (frames came : List Frame) (bad : Option ℕ) (rest taken bytes : List ℕ) → AreSpellable frames → HasRead came bad most rest taken → IsPrefix taken bytes → IsPrefix bytes (framed_all frames) → Crossed (framed_all came) bad most bytes
read_crossed most frames came bad rest taken bytes h r p q =
    let ss = r.spellings in
    let after = r.more in
    let tail = after ++ (p.0 ++ q.0) in
    let front = framed_all came in
    let split : flat_map framed ss ++ tail ≡ framed_all frames =
    sym (append_assoc (flat_map framed ss) after (p.0 ++ q.0)) ∙ (ap (λ (l : List ℕ). l ++ (p.0 ++ q.0)) (sym r.cut.whole) ∙ (sym (append_assoc taken p.0 q.0) ∙ (ap (λ (l : List ℕ). l ++ q.0) p.1 ∙ q.1))) in
    let c = cut_canonical ss frames tail r.cut.fit h split in
    let spelled : AreSpellable (c.here ++ c.more) = subst AreSpellable (sym c.all) h in
    let same : came ≡ c.here = same_frames came ss c.here r.spelled c.canonical_are (spelled_before c.here c.more spelled) in
    let pieces : flat_map framed ss ≡ front = ap (flat_map framed) c.canonical_are ∙ (framed_map c.here ∙ ap framed_all (sym same)) in
    let whole : front ++ (after ++ p.0) ≡ bytes = sym (append_assoc front after p.0) ∙ (ap (λ (l : List ℕ). l ++ p.0) (ap (λ (l : List ℕ). l ++ after) (sym pieces) ∙ sym r.cut.whole) ∙ p.1) in
    record {
      begins = (after ++ p.0, whole);
      bad_fits = subst (BadFits bad most front) whole (bad_fits most bad rest after p.0 q.0 front c.more (spelled_behind c.here c.more spelled) r.after c.rest);
    }

-- the same in bytes, where no bad bytes came
pub read_bytes : (most : ℕ) (frames came : List Frame) (rest taken : List ℕ) → AreSpellable frames → HasRead came None most rest taken → IsPrefix taken (framed_all frames) → framed_all came ++ rest ≡ taken
read_bytes most frames came rest taken h r p =
    let ss = r.spellings in
    let split : flat_map framed ss ++ (r.more ++ p.0) ≡ framed_all frames = sym (append_assoc (flat_map framed ss) r.more p.0) ∙ (ap (λ (l : List ℕ). l ++ p.0) (sym r.cut.whole) ∙ p.1) in
    let c = cut_canonical ss frames (r.more ++ p.0) r.cut.fit h split in
    let spelled : AreSpellable (c.here ++ c.more) = subst AreSpellable (sym c.all) h in
    let same : came ≡ c.here = same_frames came ss c.here r.spelled c.canonical_are (spelled_before c.here c.more spelled) in
    let pieces : flat_map framed ss ≡ framed_all came = ap (flat_map framed) c.canonical_are ∙ (framed_map c.here ∙ ap framed_all (sym same)) in
    ap (λ (l : List ℕ). l ++ rest) (sym pieces) ∙ (ap (λ (l : List ℕ). flat_map framed ss ++ l) (sym r.after) ∙ sym r.cut.whole)
