-- Places that are served one after another.
use Rattle.std.proofs.Common.{◌≡◌, ◌+◌, inl, inr, ℕ, List, [], ◌∷◌, length, refl, ap, subst, arith}
use Rattle.crew.specs.Places.{AreServed}

pub none_left : {N P : Type 0} (accepted : ℕ → N → N → Type 0) (served : P → P → Type 0) (missed : N → N → P → P → Type 0) → ((n : N) → accepted 0 n n) → (net : N) (xs : List P) → length xs ≡ 0 → AreServed accepted served missed net net xs xs
none_left accepted served missed none net [] is = inl (record { each = tt; accepts = none net })
none_left accepted served missed none net (x ∷ xs) is = absurd (omega (arith, is))

pub none_came : {N P : Type 0} (accepted : ℕ → N → N → Type 0) (served : P → P → Type 0) (missed : N → N → P → P → Type 0) → ((n : N) → accepted 0 n n) → (net net' : N) (p q : P) (rest : List P) → missed net net' p q → AreServed accepted served missed net net' (p ∷ rest) (q ∷ rest)
none_came accepted served missed none net net' p q rest vain = inr (record { before = []; before' = []; place = p; place' = q; rest = rest; mid = net; were = refl; are = refl; each = tt; accepts = none net; misses = vain })

pub one_more : {N P : Type 0} (accepted : ℕ → N → N → Type 0) (served : P → P → Type 0) (missed : N → N → P → P → Type 0)
    → ((j k : ℕ) (a b c : N) → accepted j a b → accepted k b c → accepted (j + k) a c)
    → (net mid net' : N) (p q : P) (ps qs : List P) → accepted 1 net mid → served p q → AreServed accepted served missed mid net' ps qs → AreServed accepted served missed net net' (p ∷ ps) (q ∷ qs)
one_more accepted served missed more net mid net' p q ps qs one is (inl all) = inl (record {
  each = (is, all.each);
  accepts = let n : 1 + length ps ≡ length (p ∷ ps) = omega arith in subst (λ k. accepted k net net') n (more 1 (length ps) net mid net' one all.accepts);
})
one_more accepted served missed more net mid net' p q ps qs one is (inr u) = inr (record {
  before = p ∷ u.before;
  before' = q ∷ u.before';
  place = u.place;
  place' = u.place';
  rest = u.rest;
  mid = u.mid;
  were = ap (λ xs. p ∷ xs) u.were;
  are = ap (λ xs. q ∷ xs) u.are;
  each = (is, u.each);
  accepts = let n : 1 + length u.before ≡ length (p ∷ u.before) = omega arith in subst (λ k. accepted k net u.mid) n (more 1 (length u.before) net mid u.mid one u.accepts);
  misses = u.misses;
})
