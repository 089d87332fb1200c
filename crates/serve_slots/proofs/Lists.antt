-- Callers at their places.
use Rattle.std.specs.List.{AllByRecursion}
use Rattle.std.proofs.Common.{◌≡◌, ◌<◌, ◌+◌, ◌∙◌, ℕ, zero, suc, List, [], ◌∷◌, ◌++◌, length, set, get_or, Some, slice_get, refl, sym, ap, subst, arith, append_assoc, length-append}
use Rattle.conn_shared.specs.Members.{Knowledge, SharedId}
use Rattle.rs_wire.specs.declared.settings.Settings.{Settings}
use Rattle.crew.specs.Places.{Pairwise}
use Rattle.serve_slots.specs.Callers.{AreCallersOf, AreFirst, AreSplit, HaveSettings, IsAtSlot, IsUnsplit, Placed, TookIn, placed}

-- ---- two lists

pub pair_long : {A B : Type 0} (R : A → B → Type 0) (xs : List A) (ys : List B) → Pairwise R xs ys → length xs ≡ length ys
pair_long R [] [] p = refl
pair_long R [] (y ∷ ys) p = absurd p
pair_long R (x ∷ xs) [] p = absurd p
pair_long R (x ∷ xs) (y ∷ ys) p = ap suc (pair_long R xs ys p.1)

pub pair_snoc : {A B : Type 0} (R : A → B → Type 0) (xs : List A) (ys : List B) (x : A) (y : B) → Pairwise R xs ys → R x y → Pairwise R (xs ++ x ∷ []) (ys ++ y ∷ [])
pair_snoc R [] [] x y p r = (r, tt)
pair_snoc R [] (b ∷ ys) x y p r = absurd p
pair_snoc R (a ∷ xs) [] x y p r = absurd p
pair_snoc R (a ∷ xs) (b ∷ ys) x y p r = (p.0, pair_snoc R xs ys x y p.1 r)

pub all_snoc : {A : Type 0} (P : A → Type 0) (xs : List A) (x : A) → AllByRecursion P xs → P x → AllByRecursion P (xs ++ x ∷ [])
all_snoc P [] x all p = (p, tt)
all_snoc P (a ∷ xs) x all p = (all.0, all_snoc P xs x all.1 p)

pub all_append : {A : Type 0} (P : A → Type 0) (xs ys : List A) → AllByRecursion P xs → AllByRecursion P ys → AllByRecursion P (xs ++ ys)
all_append P [] ys a b = b
all_append P (x ∷ xs) ys a b = (a.0, all_append P xs ys a.1 b)

pub all_first : {A : Type 0} (P : A → Type 0) (xs ys : List A) → AllByRecursion P (xs ++ ys) → AllByRecursion P xs
all_first P [] ys all = tt
all_first P (x ∷ xs) ys all = (all.0, all_first P xs ys all.1)

pub all_second : {A : Type 0} (P : A → Type 0) (xs ys : List A) → AllByRecursion P (xs ++ ys) → AllByRecursion P ys
all_second P [] ys all = all
all_second P (x ∷ xs) ys all = all_second P xs ys all.1

-- ---- places

pub got_at : {A : Type 0} (xs : List A) (i : ℕ) (d : A) → i < length xs → slice_get xs i ≡ Some (get_or xs i d)
got_at [] i d lt = absurd (omega (arith, lt))
got_at (x ∷ xs) zero d lt = refl
got_at (x ∷ xs) (suc i) d lt = got_at xs i d (omega (arith, lt))

pub got_within : {A : Type 0} (xs : List A) (i : ℕ) (x : A) → slice_get xs i ≡ Some x → i < length xs
got_within [] i x is = absurd (cc)
got_within (y ∷ xs) zero x is = omega arith
got_within (y ∷ xs) (suc i) x is = let h = got_within xs i x is in omega arith

pub got_or : {A : Type 0} (xs : List A) (i : ℕ) (d x : A) → slice_get xs i ≡ Some x → get_or xs i d ≡ x
got_or [] i d x is = absurd (cc)
got_or (y ∷ xs) zero d x is = cc
got_or (y ∷ xs) (suc i) d x is = got_or xs i d x is

pub long_set : {A : Type 0} (xs : List A) (i : ℕ) (x : A) → length (set xs i x) ≡ length xs
long_set [] i x = refl
long_set (y ∷ xs) zero x = refl
long_set (y ∷ xs) (suc i) x = ap suc (long_set xs i x)

-- the caller at a place is of the connection there
pub of_at : (ids : List SharedId) (ks : List Knowledge) (i : ℕ) (k : Knowledge) → AreCallersOf ids ks → slice_get ks i ≡ Some k → slice_get ids i ≡ Some k.of
of_at [] [] i k of is = absurd (cc)
of_at [] (m ∷ ks) i k of is = absurd of
of_at (id ∷ ids) [] i k of is = absurd of
of_at (id ∷ ids) (m ∷ ks) zero k of is = ap Some (sym of.0 ∙ ap (λ (x : Knowledge). x.of) (let e : m ≡ k = cc in e))
of_at (id ∷ ids) (m ∷ ks) (suc i) k of is = of_at ids ks i k of.1 is

pub of_set : (ids : List SharedId) (ks : List Knowledge) (i : ℕ) (k : Knowledge) → AreCallersOf ids ks → slice_get ids i ≡ Some k.of → AreCallersOf ids (set ks i k)
of_set [] [] i k of is = absurd (cc)
of_set [] (m ∷ ks) i k of is = absurd of
of_set (id ∷ ids) [] i k of is = absurd of
of_set (id ∷ ids) (m ∷ ks) zero k of is = (sym (let e : id ≡ k.of = cc in e), of.1)
of_set (id ∷ ids) (m ∷ ks) (suc i) k of is = (of.0, of_set ids ks i k of.1 is)

-- ---- rows

-- the last one of a row is the first that is placed
pub placed_snoc : (i : ℕ) (row : List Knowledge) (k : Knowledge) → placed i (row ++ k ∷ []) ≡ (i + length row, k) ∷ placed i row
placed_snoc i [] k = ap (λ (n : ℕ). (n, k) ∷ []) (let e : i ≡ i + 0 = omega arith in e)
placed_snoc i (x ∷ row) k =
    let e : i + 1 + length row ≡ i + length (x ∷ row) = omega arith in
    ap (λ (xs : List Placed). xs ++ (i, x) ∷ []) (placed_snoc (i + 1) row k)
    ∙ ap (λ (n : ℕ). (n, k) ∷ (placed (i + 1) row ++ (i, x) ∷ [])) e

-- a row of callers of the connections is at their slots
pub row_placed : (before ids : List SharedId) (row : List Knowledge) → AreCallersOf ids row → AllByRecursion (IsAtSlot (before ++ ids)) (placed (length before) row)
row_placed before [] [] of = tt
row_placed before [] (k ∷ row) of = absurd of
row_placed before (id ∷ ids) [] of = absurd of
row_placed before (id ∷ ids) (k ∷ row) of =
    let more : AllByRecursion (IsAtSlot ((before ++ id ∷ []) ++ ids)) (placed (length (before ++ id ∷ [])) row) = row_placed (before ++ id ∷ []) ids row of.1 in
    let same : (before ++ id ∷ []) ++ ids ≡ before ++ id ∷ ids = append_assoc before (id ∷ []) ids in
    let long : length (before ++ id ∷ []) ≡ length before + 1 = length-append before (id ∷ []) in
    all_snoc (IsAtSlot (before ++ id ∷ ids)) (placed (length before + 1) row) (length before, k)
    (subst (λ (n : ℕ). AllByRecursion (IsAtSlot (before ++ id ∷ ids)) (placed n row)) long (subst (λ (xs : List SharedId). AllByRecursion (IsAtSlot xs) (placed (length (before ++ id ∷ [])) row)) same more))
    (here before id ids k of.0)
  where
    here : (before : List SharedId) (id : SharedId) (ids : List SharedId) (k : Knowledge) → k.of ≡ id → slice_get (before ++ id ∷ ids) (length before) ≡ Some k.of
    here [] id ids k is = ap Some (sym is)
    here (b ∷ before) id ids k is = here before id ids k is

-- ---- several are taken in

pub took_more : (a b : List Knowledge) (c : List Knowledge) (first more : List Placed) → TookIn a first b → TookIn b more c → TookIn a (first ++ more) c
took_more a b c [] more h k = subst (λ (x : List Knowledge). TookIn x more c) h k
took_more a b c (p ∷ first) more h k = (h.0, h.1, took_more h.0 b c first more h.2 k)

pub took_long : (a b : List Knowledge) (others : List Placed) → TookIn a others b → length b ≡ length a
took_long a b [] h = ap length h
took_long a b (p ∷ others) h = took_long h.0 b others h.2 ∙ (ap length h.1.is ∙ long_set a p.0 h.1.new)

-- ---- splitting

pub split_of : (ids : List SharedId) (olds row news : List Knowledge) → AreSplit olds row news → AreCallersOf ids olds → AreCallersOf ids news
split_of [] [] [] [] s of = tt
split_of [] [] [] (n ∷ news) s of = absurd s
split_of [] [] (k ∷ row) news s of = absurd s
split_of [] (m ∷ olds) row news s of = absurd of
split_of (id ∷ ids) [] row news s of = absurd of
split_of (id ∷ ids) (m ∷ olds) [] [] s of = absurd s
split_of (id ∷ ids) (m ∷ olds) (k ∷ row) [] s of = absurd s
split_of (id ∷ ids) (m ∷ olds) [] (n ∷ news) s of = (ap (λ (x : Knowledge). x.of) s.0 ∙ of.0, split_of ids olds [] news s.1 of.1)
split_of (id ∷ ids) (m ∷ olds) (k ∷ row) (n ∷ news) s of = (ap (λ (x : Knowledge). x.of) s.0.same ∙ of.0, split_of ids olds row news s.1 of.1)

-- a whole row has a caller of each connection
pub split_row_of : (ids : List SharedId) (olds row news : List Knowledge) → AreSplit olds row news → AreCallersOf ids olds → length row ≡ length ids → AreCallersOf ids row
split_row_of [] [] [] [] s of long = tt
split_row_of [] [] [] (n ∷ news) s of long = absurd s
split_row_of [] [] (k ∷ row) news s of long = absurd s
split_row_of [] (m ∷ olds) row news s of long = absurd of
split_row_of (id ∷ ids) [] row news s of long = absurd of
split_row_of (id ∷ ids) (m ∷ olds) [] news s of long = absurd (omega (arith, long))
split_row_of (id ∷ ids) (m ∷ olds) (k ∷ row) [] s of long = absurd s
split_row_of (id ∷ ids) (m ∷ olds) (k ∷ row) (n ∷ news) s of long = (ap (λ (x : Knowledge). x.of) s.0.other_is ∙ of.0, split_row_of ids olds row news s.1 of.1 (omega (arith, long)))

-- also where it is not whole
pub split_placed : (before ids : List SharedId) (olds row news : List Knowledge) → AreSplit olds row news → AreCallersOf ids olds → AllByRecursion (IsAtSlot (before ++ ids)) (placed (length before) row)
split_placed before [] [] [] [] s of = tt
split_placed before [] [] [] (n ∷ news) s of = absurd s
split_placed before [] [] (k ∷ row) news s of = absurd s
split_placed before [] (m ∷ olds) row news s of = absurd of
split_placed before (id ∷ ids) [] row news s of = absurd of
split_placed before (id ∷ ids) (m ∷ olds) [] news s of = tt
split_placed before (id ∷ ids) (m ∷ olds) (k ∷ row) [] s of = absurd s
split_placed before (id ∷ ids) (m ∷ olds) (k ∷ row) (n ∷ news) s of =
    let more : AllByRecursion (IsAtSlot ((before ++ id ∷ []) ++ ids)) (placed (length (before ++ id ∷ [])) row) = split_placed (before ++ id ∷ []) ids olds row news s.1 of.1 in
    let same : (before ++ id ∷ []) ++ ids ≡ before ++ id ∷ ids = append_assoc before (id ∷ []) ids in
    let long : length (before ++ id ∷ []) ≡ length before + 1 = length-append before (id ∷ []) in
    all_snoc (IsAtSlot (before ++ id ∷ ids)) (placed (length before + 1) row) (length before, k)
    (subst (λ (n : ℕ). AllByRecursion (IsAtSlot (before ++ id ∷ ids)) (placed n row)) long (subst (λ (xs : List SharedId). AllByRecursion (IsAtSlot xs) (placed (length (before ++ id ∷ [])) row)) same more))
    (here before id ids k (ap (λ (x : Knowledge). x.of) s.0.other_is ∙ of.0))
  where
    here : (before : List SharedId) (id : SharedId) (ids : List SharedId) (k : Knowledge) → k.of ≡ id → slice_get (before ++ id ∷ ids) (length before) ≡ Some k.of
    here [] id ids k is = ap Some (sym is)
    here (b ∷ before) id ids k is = here before id ids k is

pub split_long : (olds row news : List Knowledge) → AreSplit olds row news → length news ≡ length olds
split_long [] [] [] s = refl
split_long [] [] (n ∷ news) s = absurd s
split_long [] (k ∷ row) news s = absurd s
split_long (m ∷ olds) [] [] s = absurd s
split_long (m ∷ olds) (k ∷ row) [] s = absurd s
split_long (m ∷ olds) [] (n ∷ news) s = ap suc (split_long olds [] news s.1)
split_long (m ∷ olds) (k ∷ row) (n ∷ news) s = ap suc (split_long olds row news s.1)

pub unsplit_by : (m n : Knowledge) → n ≡ record m { parts = n.parts; found = n.found } → n.parts ≡ m.parts → IsUnsplit m n
unsplit_by m n same kept = same ∙ ap (λ (p : ℕ). record m { parts = p; found = n.found }) kept

-- none was split off
pub unsplit : (ms : List Knowledge) → AreSplit ms [] ms
unsplit [] = tt
unsplit (m ∷ ms) = (refl, unsplit ms)

-- ---- the first callers

pub first_of : (ids : List SharedId) (ms : List Knowledge) → AreFirst ids ms → AreCallersOf ids ms
first_of [] [] f = tt
first_of [] (m ∷ ms) f = absurd f
first_of (id ∷ ids) [] f = absurd f
first_of (id ∷ ids) (m ∷ ms) f = (ap (λ (x : Knowledge). x.of) f.0, first_of ids ms f.1)

pub settings_snoc : (g : Settings) (ids : List SharedId) (id : SharedId) → HaveSettings g ids → id.settings ≡ g → HaveSettings g (ids ++ id ∷ [])
settings_snoc g [] id all is = (is, tt)
settings_snoc g (x ∷ ids) id all is = (all.0, settings_snoc g ids id all.1 is)
