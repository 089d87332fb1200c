-- The fragments of a frame: one cut after another, until the rest fits.
use Rattle.std.proofs.Common.{◌≡◌, ◌<◌, ◌≤◌, inl, inr, ℕ, zero, suc, true, false, List, [], ◌∷◌, refl, sym, subst, ◌∙◌, arith, All}
use Rattle.std.proofs.lemmas.Grind.{common_steps}
use Rattle.std.proofs.lemmas.Bool.{cases_lt}
use Rattle.std.proofs.lemmas.Bool.Decides.{nat_tests}
use Rattle.std.proofs.lemmas.List.Elements.{All-cons, All-nil}
use Rattle.rs_frame.specs.declared.frame.Frame.{Frame}
use Rattle.rs_frame.specs.Spelling.{length_of, stream_of, IsSpellable}
use Rattle.fragment.specs.Splitting.{IsSplittable, IsMtu, first_fragment, rest_after, fragments, split_of, EachButLast, follows_of, complete_of}
use Rattle.fragment.proofs.Cuts.{IsLong, first_length, rest_length, rest_whole, first_spellable, rest_spellable}

fragments_fit : (n mtu : ℕ) (f : Frame) → length_of f ≤ mtu → fragments n mtu f ≡ f ∷ []
unfolding fragments
fragments_fit n mtu f fits = grind (arith, common_steps, nat_tests)

fragments_cut : (n mtu : ℕ) (f : Frame) → mtu < length_of f → fragments (suc n) mtu f ≡ first_fragment mtu f ∷ fragments n mtu (rest_after mtu f)
unfolding fragments
fragments_cut n mtu f longer = grind (arith, common_steps, nat_tests)

-- as many cuts as the frame has bytes are enough, and more change nothing
fragments_enough : (n m mtu : ℕ) (f : Frame) → IsSplittable f → 64 ≤ mtu → length_of f ≤ n → length_of f ≤ m → fragments n mtu f ≡ fragments m mtu f
fragments_enough zero m mtu f whole least n_enough m_enough =
    cc (fragments_fit zero mtu f (omega arith), fragments_fit m mtu f (omega arith))
fragments_enough (suc n) zero mtu f whole least n_enough m_enough =
    cc (fragments_fit (suc n) mtu f (omega arith), fragments_fit zero mtu f (omega arith))
fragments_enough (suc n) (suc m) mtu f whole least n_enough m_enough = elim (cases_lt mtu (length_of f)) [
  | inl longer ↦
      let shorter = rest_length mtu f (record { whole = whole; least = least; longer = longer }) in
      let left = fragments_enough n m mtu (rest_after mtu f) (rest_whole mtu f whole) least (omega arith) (omega arith) in
      cc (fragments_cut n mtu f longer, fragments_cut m mtu f longer)
  | inr fits ↦ fragments_fit (suc n) mtu f fits ∙ sym (fragments_fit (suc m) mtu f fits)
]

pub split_fits : (f : Frame) (mtu : ℕ) → length_of f ≤ mtu → split_of f mtu ≡ f ∷ []
split_fits f mtu fits = grind (arith, common_steps, nat_tests, fragments_fit (length_of f) mtu f fits)

pub split_cut : (f : Frame) (mtu : ℕ) → IsLong mtu f → split_of f mtu ≡ first_fragment mtu f ∷ split_of (rest_after mtu f) mtu
split_cut f mtu long =
    let rest = rest_after mtu f in
    let shorter = rest_length mtu f long in
    let enough = fragments_enough (length_of f) (suc (length_of f)) mtu f long.whole long.least (omega arith) (omega arith) in
    let left = fragments_enough (length_of f) (length_of rest) mtu rest (rest_whole mtu f long.whole) long.least (omega arith) (omega arith) in
    grind (arith, common_steps, nat_tests, long.least, enough, left, fragments_cut (length_of f) mtu f long.longer)

-- what holds of a frame that fits, and of a longer one where it holds of the rest, holds of every split
pub by_cuts : (P : Frame → List Frame → Type 0) (mtu : ℕ) → (0 < mtu → 64 ≤ mtu)
    → ((f : Frame) → IsSplittable f → (0 < mtu → length_of f ≤ mtu) → P f (f ∷ []))
    → ((f : Frame) (fs : List Frame) → IsLong mtu f → P (rest_after mtu f) fs → P f (first_fragment mtu f ∷ fs))
    → (n : ℕ) (f : Frame) → length_of f ≤ n → IsSplittable f → P f (split_of f mtu)
by_cuts P zero limit base step n f enough whole = base f whole (λ some. omega arith)
by_cuts P (suc m) limit base step zero f enough whole =
    subst (P f) (sym (split_fits f (suc m) (omega arith))) (base f whole (λ some. omega arith))
by_cuts P (suc m) limit base step (suc n) f enough whole = elim (cases_lt (suc m) (length_of f)) [
  | inl longer ↦
      let long : IsLong (suc m) f = record { whole = whole; least = limit (omega arith); longer = longer } in
      let shorter = rest_length (suc m) f long in
      let left = by_cuts P (suc m) limit base step n (rest_after (suc m) f) (omega arith) (rest_whole (suc m) f whole) in
      subst (P f) (sym (split_cut f (suc m) long)) (step f _ long left)
  | inr fits ↦ subst (P f) (sym (split_fits f (suc m) fits)) (base f whole (λ some. fits))
]

pub all_spellable : (f : Frame) (mtu : ℕ) → IsSpellable f → IsSplittable f → IsMtu mtu → All IsSpellable (split_of f mtu)
all_spellable f mtu spellable whole limit =
    by_cuts (λ g gs. IsSpellable g → All IsSpellable gs) mtu limit.1
    (λ g g_whole fits g_spellable. All-cons IsSpellable g [] g_spellable (All-nil IsSpellable))
    (λ g gs long rest g_spellable. All-cons IsSpellable (first_fragment mtu g) gs (first_spellable mtu g long g_spellable) (rest (rest_spellable mtu g long g_spellable)))
    (length_of f) f (omega arith) whole spellable

pub all_short : (f : Frame) (mtu : ℕ) → IsSplittable f → 64 ≤ mtu → All (λ g. length_of g ≤ mtu) (split_of f mtu)
all_short f mtu whole least =
    let IsShort : Frame → Type 0 = λ g. length_of g ≤ mtu in
    by_cuts (λ g gs. All IsShort gs) mtu (λ some. least)
    (λ g g_whole fits. All-cons IsShort g [] (fits (omega arith)) (All-nil IsShort))
    (λ g gs long rest. All-cons IsShort (first_fragment mtu g) gs (omega (arith, first_length mtu g long)) rest)
    (length_of f) f (omega arith) whole

streams : (mtu : ℕ) (f : Frame) → (stream_of (first_fragment mtu f) ≡ stream_of f) × (stream_of (rest_after mtu f) ≡ stream_of f)
streams mtu f = grind (arith, common_steps)

pub all_on_stream : (f : Frame) (mtu : ℕ) → IsSplittable f → IsMtu mtu → All (λ g. stream_of g ≡ stream_of f) (split_of f mtu)
all_on_stream f mtu whole limit =
    let IsOn : ℕ → Frame → Type 0 = λ stream g. stream_of g ≡ stream in
    by_cuts (λ g gs. All (IsOn (stream_of g)) gs) mtu limit.1
    (λ g g_whole fits. All-cons (IsOn (stream_of g)) g [] refl (All-nil (IsOn (stream_of g))))
    (λ g gs long rest. All-cons (IsOn (stream_of g)) (first_fragment mtu g) gs (streams mtu g).0 (subst (λ id. All (IsOn id) gs) (streams mtu g).1 rest))
    (length_of f) f (omega arith) whole

EachButLast-cons : (P : Frame → Type 0) (f : Frame) (fs : List Frame) → P f → EachButLast P fs → EachButLast P (f ∷ fs)
EachButLast-cons P f fs here there = grind (arith, common_steps)

pub first_flags : (mtu : ℕ) (f : Frame) → IsSplittable f → (follows_of (first_fragment mtu f) ≡ true) × (complete_of (first_fragment mtu f) ≡ false)
first_flags mtu f whole = grind (arith, common_steps)

pub each_full : (f : Frame) (mtu : ℕ) → IsSplittable f → 64 ≤ mtu → EachButLast (λ g. (length_of g ≡ mtu) × (follows_of g ≡ true) × (complete_of g ≡ false)) (split_of f mtu)
each_full f mtu whole least =
    let IsFull : Frame → Type 0 = λ g. (length_of g ≡ mtu) × (follows_of g ≡ true) × (complete_of g ≡ false) in
    by_cuts (λ g gs. EachButLast IsFull gs) mtu (λ some. least)
    (λ g g_whole fits. tt)
    (λ g gs long rest.
    let flags = first_flags mtu g long.whole in
    EachButLast-cons IsFull (first_fragment mtu g) gs (first_length mtu g long, flags.0, flags.1) rest)
    (length_of f) f (omega arith) whole
