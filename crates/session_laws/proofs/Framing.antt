-- Framing keeps prefixes: a stream of bytes is cut into frames in one way.
use Rattle.std.proofs.Common.{◌≡◌, ◌<◌, ◌^◌, ℕ, List, [], ◌∷◌, ◌++◌, length, take, ap, subst, sym, ◌∙◌, arith, append_assoc}
use Rattle.std.specs.List.{AllByRecursion}
use Rattle.std.proofs.lemmas.Grind.{common_steps}
use Rattle.std.proofs.lemmas.List.Concat.{flat_map-cons}
use Rattle.rs_frame.specs.declared.frame.Frame.{Frame}
use Rattle.rs_frame.specs.Spelling.{canonical, Spells, IsSpellable}
use Rattle.rs_frame.specs.Framed.{framed, framed_all, framed_frame}
use Rattle.rs_frame.proofs.Fields.{counted_again}
use Rattle.rs_frame.proofs.Whole.{one_frame, canonical_spells}
use Rattle.rs_chunk.proofs.Lengths.{length-canonical}
use Rattle.session_model.specs.Lists.{IsPrefix}
use Rattle.session_laws.proofs.Prefixes.{prefix_nil, prefix_trans, prefix_take}

abbrev pub AreSpellable : List Frame → Type 0
AreSpellable frames = AllByRecursion IsSpellable frames

pub spellable-append : (xs ys : List Frame) → AreSpellable xs → AreSpellable ys → AreSpellable (xs ++ ys)
spellable-append [] ys h k = k
spellable-append (x ∷ xs) ys h k = (h.0, spellable-append xs ys h.1 k)

-- of two streams that are equal the first frames are equal, and what follows them
same_first : (a b x y : List ℕ) → length a < 2 ^ 24 → length b < 2 ^ 24 → framed a ++ x ≡ framed b ++ y → (a ≡ b) × (x ≡ y)
same_first a b x y short_a short_b e =
    let read_a = counted_again 3 a x short_a in
    let read_b = counted_again 3 b y short_b in
    let one : List ℕ × List ℕ = (a, x) in
    let two : List ℕ × List ℕ = (b, y) in
    let both : one ≡ two = cc in
    (ap (λ (p : List ℕ × List ℕ). p.0) both, ap (λ (p : List ℕ × List ℕ). p.1) both)

short : (f : Frame) → IsSpellable f → length (canonical f) < 2 ^ 24
short f h = rw (length-canonical f) h.short

-- canonical bytes are those of one frame
one_canonical : (f g : Frame) → IsSpellable f → IsSpellable g → canonical f ≡ canonical g → f ≡ g
one_canonical f g h k e =
    one_frame f g (canonical f) (canonical_spells f h.fields) (subst (Spells g) (sym e) (canonical_spells g k.fields))

after_first : (f : Frame) (fs : List Frame) (x : List ℕ) → framed_all (f ∷ fs) ++ x ≡ framed (canonical f) ++ (framed_all fs ++ x)
after_first f fs x = ap (λ l. l ++ x) (flat_map-cons framed_frame f fs) ∙ append_assoc (framed (canonical f)) (framed_all fs) x

-- no stream that begins with a frame is empty
not_empty : (b x : List ℕ) → framed b ++ x ≡ [] → ⊥
not_empty b x e = grind (arith, common_steps)

-- frames whose bytes are a prefix of a stream are a prefix of its frames
frames_prefix : (xs ys : List Frame) → AreSpellable xs → AreSpellable ys → IsPrefix (framed_all xs) (framed_all ys) → IsPrefix xs ys
frames_prefix [] ys hx hy p = prefix_nil ys
frames_prefix (x ∷ xs) [] hx hy p = absurd (not_empty (canonical x) (framed_all xs ++ p.0) (sym (after_first x xs p.0) ∙ p.1))
frames_prefix (x ∷ xs) (y ∷ ys) hx hy p =
    let streams = sym (after_first x xs p.0) ∙ (p.1 ∙ flat_map-cons framed_frame y ys) in
    let s = same_first (canonical x) (canonical y) (framed_all xs ++ p.0) (framed_all ys) (short x hx.0) (short y hy.0) streams in
    let same : x ≡ y = one_canonical x y hx.0 hy.0 s.0 in
    let i = frames_prefix xs ys hx.1 hy.1 (p.0, s.1) in
    let all : xs ++ i.0 ≡ ys = i.1 in
    (i.0, cc)

-- the same of the first n bytes of the stream
pub frames_given : (n : ℕ) (xs ys : List Frame) → AreSpellable xs → AreSpellable ys → IsPrefix (framed_all xs) (take n (framed_all ys)) → IsPrefix xs ys
frames_given n xs ys hx hy p =
    let all = prefix_trans (framed_all xs) (take n (framed_all ys)) (framed_all ys) p (prefix_take n (framed_all ys)) in
    frames_prefix xs ys hx hy all
