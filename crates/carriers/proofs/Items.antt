-- The items of a ring, as more follow.
use Rattle.std.proofs.Common.{◌≡◌, ◌<◌, ◌+◌, ◌∙◌, ℕ, zero, suc, List, [], ◌∷◌, ◌++◌, refl, ap, sym, subst, arith, append-nil, append_assoc}
use Rattle.ring.specs.declared.item.Mark.{Mark}
use Rattle.ring.specs.declared.item.Mark.TheVariants as mark
use Rattle.ring.specs.declared.item.Item.{Item}
use Rattle.ring.specs.declared.item.Item.TheVariants as item
use Rattle.ring.specs.Parts.{bytes_of, cuts, ends, part}
use Rattle.ring.proofs.Parting.{part_pushed}

pub cuts_both : (xs ys : List Item) → cuts (xs ++ ys) ≡ cuts xs + cuts ys
unfolding cuts
cuts_both [] ys = omega arith
cuts_both (item.Byte b ∷ xs) ys = cuts_both xs ys
cuts_both (item.Mark mark.Cut ∷ xs) ys = let r = cuts_both xs ys in omega (arith, r)
cuts_both (item.Mark mark.Line ∷ xs) ys = cuts_both xs ys
cuts_both (item.Mark mark.More ∷ xs) ys = cuts_both xs ys
cuts_both (item.Mark mark.End ∷ xs) ys = cuts_both xs ys

pub ends_both : (xs ys : List Item) → ends (xs ++ ys) ≡ ends xs + ends ys
unfolding ends
ends_both [] ys = omega arith
ends_both (item.Byte b ∷ xs) ys = ends_both xs ys
ends_both (item.Mark mark.Cut ∷ xs) ys = ends_both xs ys
ends_both (item.Mark mark.Line ∷ xs) ys = ends_both xs ys
ends_both (item.Mark mark.More ∷ xs) ys = ends_both xs ys
ends_both (item.Mark mark.End ∷ xs) ys = let r = ends_both xs ys in omega (arith, r)

pub no_cuts : (bytes : List ℕ) → cuts (bytes_of bytes) ≡ 0
unfolding cuts
no_cuts [] = refl
no_cuts (b ∷ bytes) = no_cuts bytes

pub no_ends : (bytes : List ℕ) → ends (bytes_of bytes) ≡ 0
unfolding ends
no_ends [] = refl
no_ends (b ∷ bytes) = no_ends bytes

-- the parts before the last stay
pub part_former : (k : ℕ) (xs ys : List Item) → k < cuts xs → part k (xs ++ ys) ≡ part k xs
unfolding cuts part
part_former k [] ys h = absurd (omega (arith, h))
part_former zero (item.Byte b ∷ xs) ys h = ap (λ l. b ∷ l) (part_former 0 xs ys h)
part_former (suc k) (item.Byte b ∷ xs) ys h = part_former (suc k) xs ys h
part_former zero (item.Mark mark.Cut ∷ xs) ys h = refl
part_former (suc k) (item.Mark mark.Cut ∷ xs) ys h = part_former k xs ys (omega (arith, h))
part_former zero (item.Mark mark.Line ∷ xs) ys h = part_former 0 xs ys h
part_former (suc k) (item.Mark mark.Line ∷ xs) ys h = part_former (suc k) xs ys h
part_former zero (item.Mark mark.More ∷ xs) ys h = part_former 0 xs ys h
part_former (suc k) (item.Mark mark.More ∷ xs) ys h = part_former (suc k) xs ys h
part_former zero (item.Mark mark.End ∷ xs) ys h = part_former 0 xs ys h
part_former (suc k) (item.Mark mark.End ∷ xs) ys h = part_former (suc k) xs ys h

-- no bytes stand after more cuts than there are
pub part_later : (k : ℕ) (xs : List Item) → cuts xs < k → part k xs ≡ []
unfolding cuts part
part_later k [] h = refl
part_later zero (x ∷ xs) h = absurd (omega (arith, h))
part_later (suc k) (item.Byte b ∷ xs) h = part_later (suc k) xs h
part_later (suc k) (item.Mark mark.Cut ∷ xs) h = part_later k xs (omega (arith, h))
part_later (suc k) (item.Mark mark.Line ∷ xs) h = part_later (suc k) xs h
part_later (suc k) (item.Mark mark.More ∷ xs) h = part_later (suc k) xs h
part_later (suc k) (item.Mark mark.End ∷ xs) h = part_later (suc k) xs h

-- a mark changes no part; a cut begins an empty one
pub part_marked : (k : ℕ) (xs : List Item) (m : Mark) → part k (xs ++ item.Mark m ∷ []) ≡ part k xs
unfolding part
part_marked zero [] mark.Line = refl
part_marked zero [] mark.More = refl
part_marked zero [] mark.Cut = refl
part_marked zero [] mark.End = refl
part_marked (suc k) [] mark.Line = refl
part_marked (suc k) [] mark.More = refl
part_marked (suc k) [] mark.Cut = refl
part_marked (suc k) [] mark.End = refl
part_marked zero (item.Byte b ∷ xs) m = ap (λ l. b ∷ l) (part_marked 0 xs m)
part_marked (suc k) (item.Byte b ∷ xs) m = part_marked (suc k) xs m
part_marked zero (item.Mark mark.Cut ∷ xs) m = refl
part_marked (suc k) (item.Mark mark.Cut ∷ xs) m = part_marked k xs m
part_marked zero (item.Mark mark.Line ∷ xs) m = part_marked 0 xs m
part_marked (suc k) (item.Mark mark.Line ∷ xs) m = part_marked (suc k) xs m
part_marked zero (item.Mark mark.More ∷ xs) m = part_marked 0 xs m
part_marked (suc k) (item.Mark mark.More ∷ xs) m = part_marked (suc k) xs m
part_marked zero (item.Mark mark.End ∷ xs) m = part_marked 0 xs m
part_marked (suc k) (item.Mark mark.End ∷ xs) m = part_marked (suc k) xs m

-- bytes and a mark go on with the last part
pub part_read : (xs : List Item) (bytes : List ℕ) (m : Mark) → part (cuts xs) ((xs ++ bytes_of bytes) ++ item.Mark m ∷ []) ≡ part (cuts xs) xs ++ bytes
part_read xs bytes m = part_marked (cuts xs) (xs ++ bytes_of bytes) m ∙ part_pushed xs bytes

-- ---- items that go on with the last part

-- more items follow, which are these bytes and marks that cut and end nothing
pub record Grows (piece : List ℕ) (old new : List Item) : Type 0 where
  pub same_cuts : cuts new ≡ cuts old
  pub same_ends : ends new ≡ ends old
  pub before : (k : ℕ) → k < cuts old → part k new ≡ part k old
  pub last : part (cuts old) new ≡ part (cuts old) old ++ piece

pub grows_none : (xs : List Item) → Grows [] xs xs
grows_none xs = record {
  same_cuts = refl;
  same_ends = refl;
  before = λ k h. refl;
  last = sym (append-nil (part (cuts xs) xs));
}

pub grows_bytes : (xs : List Item) (bytes : List ℕ) → Grows bytes xs (xs ++ bytes_of bytes)
grows_bytes xs bytes = record {
  same_cuts = let a = cuts_both xs (bytes_of bytes) in let b = no_cuts bytes in omega (arith, a, b);
  same_ends = let a = ends_both xs (bytes_of bytes) in let b = no_ends bytes in omega (arith, a, b);
  before = λ k h. part_former k xs (bytes_of bytes) h;
  last = part_pushed xs bytes;
}

-- the mark cuts and ends nothing
abbrev pub IsPlain : Mark → Type 0
IsPlain m = (cuts (item.Mark m ∷ []) ≡ 0) × (ends (item.Mark m ∷ []) ≡ 0)

pub grows_mark : (xs : List Item) (m : Mark) → IsPlain m → Grows [] xs (xs ++ item.Mark m ∷ [])
grows_mark xs m plain = record {
  same_cuts = let a = cuts_both xs (item.Mark m ∷ []) in omega (arith, a, plain.0);
  same_ends = let a = ends_both xs (item.Mark m ∷ []) in omega (arith, a, plain.1);
  before = λ k h. part_former k xs (item.Mark m ∷ []) h;
  last = part_marked (cuts xs) xs m ∙ sym (append-nil (part (cuts xs) xs));
}

pub grows_both : (a b : List ℕ) (xs ys zs : List Item) → Grows a xs ys → Grows b ys zs → Grows (a ++ b) xs zs
grows_both a b xs ys zs h k = record {
  same_cuts = k.same_cuts ∙ h.same_cuts;
  same_ends = k.same_ends ∙ h.same_ends;
  before = λ j lt. k.before j (omega (arith, lt, h.same_cuts)) ∙ h.before j lt;
  last = ap (λ n. part n zs) (sym h.same_cuts) ∙ (k.last ∙ (ap (λ n. part n ys ++ b) h.same_cuts ∙ (ap (λ l. l ++ b) h.last ∙ append_assoc (part (cuts xs) xs) a b)));
}

pub grows_read : (xs : List Item) (bytes : List ℕ) (m : Mark) → IsPlain m → Grows bytes xs ((xs ++ bytes_of bytes) ++ item.Mark m ∷ [])
grows_read xs bytes m plain = subst (λ l. Grows l xs ((xs ++ bytes_of bytes) ++ item.Mark m ∷ [])) (append-nil bytes)
    (grows_both bytes [] xs (xs ++ bytes_of bytes) ((xs ++ bytes_of bytes) ++ item.Mark m ∷ []) (grows_bytes xs bytes) (grows_mark (xs ++ bytes_of bytes) m plain))

-- ---- a cut

-- bytes, and then a cut
pub record Cuts (piece : List ℕ) (old new : List Item) : Type 0 where
  pub one_more : cuts new ≡ cuts old + 1
  pub same_ends : ends new ≡ ends old
  pub before : (k : ℕ) → k < cuts old → part k new ≡ part k old
  pub last : part (cuts old) new ≡ part (cuts old) old ++ piece
  pub empty : part (cuts old + 1) new ≡ []

one_cut : cuts (item.Mark mark.Cut ∷ []) ≡ 1
unfolding cuts
one_cut = refl

no_end : ends (item.Mark mark.Cut ∷ []) ≡ 0
unfolding ends
no_end = refl

pub cuts_now : (xs : List Item) (bytes : List ℕ) → Cuts bytes xs ((xs ++ bytes_of bytes) ++ item.Mark mark.Cut ∷ [])
cuts_now xs bytes =
    let ys = xs ++ bytes_of bytes in
    let h = grows_bytes xs bytes in
    let more : cuts (ys ++ item.Mark mark.Cut ∷ []) ≡ cuts ys + cuts (item.Mark mark.Cut ∷ []) = cuts_both ys (item.Mark mark.Cut ∷ []) in
    let none : ends (ys ++ item.Mark mark.Cut ∷ []) ≡ ends ys + ends (item.Mark mark.Cut ∷ []) = ends_both ys (item.Mark mark.Cut ∷ []) in
    record {
      one_more = omega (arith, more, one_cut, h.same_cuts);
      same_ends = omega (arith, none, no_end, h.same_ends);
      before = λ k lt. part_former k ys (item.Mark mark.Cut ∷ []) (omega (arith, lt, h.same_cuts)) ∙ h.before k lt;
      last = part_read xs bytes mark.Cut;
      empty = part_marked (cuts xs + 1) ys mark.Cut ∙ part_later (cuts xs + 1) ys (omega (arith, h.same_cuts));
    }

pub cuts_at_once : (xs : List Item) → Cuts [] xs (xs ++ item.Mark mark.Cut ∷ [])
cuts_at_once xs = subst (λ l. Cuts [] xs (l ++ item.Mark mark.Cut ∷ [])) (append-nil xs) (cuts_now xs [])
