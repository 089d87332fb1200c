-- No part of a connection is lost.
use Rattle.std.specs.List.{AllByRecursion}
use Rattle.std.proofs.Common.{◌≡◌, ◌<◌, ◌+◌, ◌∙◌, ℕ, zero, suc, List, [], ◌∷◌, ◌++◌, length, set, Some, slice_get, refl, ap, subst, arith}
use Rattle.conn_lock.specs.Callers.{all_parts}
use Rattle.conn_shared.specs.Members.{Knowledge, SharedId}
use Rattle.serve_slots.specs.Callers.{AreFirst, AreSplit, HaveAll, Placed, TookIn, held, parts_at, parts_if, placed}
use Rattle.serve_slots.specs.Tapes.{HasAll}
use Rattle.serve_slots.proofs.Lists.{split_long, took_long}

pub parts_same : (i p : ℕ) → parts_if i i p ≡ p
parts_same zero p = refl
parts_same (suc i) p = parts_same i p

pub parts_after : (i j p : ℕ) → i < j → parts_if j i p ≡ 0
parts_after zero zero p lt = absurd (omega (arith, lt))
parts_after zero (suc j) p lt = refl
parts_after (suc i) zero p lt = absurd (omega (arith, lt))
parts_after (suc i) (suc j) p lt = parts_after i j p (omega (arith, lt))

pub parts_before : (i j p : ℕ) → i < j → parts_if i j p ≡ 0
parts_before zero zero p lt = absurd (omega (arith, lt))
parts_before zero (suc j) p lt = refl
parts_before (suc i) zero p lt = absurd (omega (arith, lt))
parts_before (suc i) (suc j) p lt = parts_before i j p (omega (arith, lt))

parts_add : (i j p q : ℕ) → parts_if i j (p + q) ≡ parts_if i j p + parts_if i j q
parts_add zero zero p q = refl
parts_add zero (suc j) p q = refl
parts_add (suc i) zero p q = refl
parts_add (suc i) (suc j) p q = parts_add i j p q

pub held_append : (i : ℕ) (xs ys : List Placed) → held i (xs ++ ys) ≡ held i xs + held i ys
held_append i [] ys = omega arith
held_append i ((at, k) ∷ xs) ys = let h = held_append i xs ys in omega arith

-- a row has no caller of a slot before its first
pub held_before : (i j : ℕ) (row : List Knowledge) → i < j → held i (placed j row) ≡ 0
held_before i j [] lt = refl
held_before i j (k ∷ row) lt =
    let a = held_append i (placed (j + 1) row) ((j, k) ∷ []) in
    let b = held_before i (j + 1) row (omega (arith, lt)) in
    let c = parts_after i j k.parts lt in
    omega arith

pub held_placed : (i j at : ℕ) (row : List Knowledge) → at ≡ j + i → held at (placed j row) ≡ parts_at i row
held_placed i j at [] is = refl
held_placed zero j at (k ∷ row) is =
    let a = held_append at (placed (j + 1) row) ((j, k) ∷ []) in
    let b = held_before at (j + 1) row (omega (arith, is)) in
    let e : at ≡ j = omega (arith, is) in
    let c : parts_if j at k.parts ≡ k.parts = ap (λ (n : ℕ). parts_if j n k.parts) e ∙ parts_same j k.parts in
    omega arith
held_placed (suc i) j at (k ∷ row) is =
    let a = held_append at (placed (j + 1) row) ((j, k) ∷ []) in
    let b = held_placed i (j + 1) at row (omega (arith, is)) in
    let c = parts_before j at k.parts (omega (arith, is)) in
    omega arith

pub held_row : (i : ℕ) (row : List Knowledge) → held i (placed 0 row) ≡ parts_at i row
held_row i row = held_placed i 0 i row (omega arith)

-- ---- splitting

pub split_parts : (i : ℕ) (olds row news : List Knowledge) → AreSplit olds row news → parts_at i news + parts_at i row ≡ parts_at i olds
split_parts i [] [] [] s = refl
split_parts i [] [] (n ∷ news) s = absurd s
split_parts i [] (k ∷ row) news s = absurd s
split_parts i (m ∷ olds) [] [] s = absurd s
split_parts i (m ∷ olds) (k ∷ row) [] s = absurd s
split_parts zero (m ∷ olds) [] (n ∷ news) s = let a : n.parts ≡ m.parts = ap (λ (x : Knowledge). x.parts) s.0 in omega arith
split_parts zero (m ∷ olds) (k ∷ row) (n ∷ news) s = s.0.parts
split_parts (suc i) (m ∷ olds) [] (n ∷ news) s = split_parts_none i olds news s.1
  where
    split_parts_none : (i : ℕ) (olds news : List Knowledge) → AreSplit olds [] news → parts_at i news + 0 ≡ parts_at i olds
    split_parts_none i [] [] s = refl
    split_parts_none i [] (n ∷ news) s = absurd s
    split_parts_none i (m ∷ olds) [] s = absurd s
    split_parts_none zero (m ∷ olds) (n ∷ news) s = let a : n.parts ≡ m.parts = ap (λ (x : Knowledge). x.parts) s.0 in omega arith
    split_parts_none (suc i) (m ∷ olds) (n ∷ news) s = split_parts_none i olds news s.1
split_parts (suc i) (m ∷ olds) (k ∷ row) (n ∷ news) s = split_parts i olds row news s.1

pub split_all : (olds row news : List Knowledge) (others : List Placed) → HaveAll olds others → AreSplit olds row news → HaveAll news (placed 0 row ++ others)
unfolding HaveAll
split_all olds row news others all s i lt =
    let a = split_parts i olds row news s in
    let b = held_append i (placed 0 row) others in
    let c = held_row i row in
    let d = all i (subst (λ n. i < n) (split_long olds row news s) lt) in
    omega arith

-- ---- taking in

pub parts_set : (i at : ℕ) (olds : List Knowledge) (old new : Knowledge) → slice_get olds at ≡ Some old → parts_at i (set olds at new) + parts_if at i old.parts ≡ parts_at i olds + parts_if at i new.parts
parts_set i at [] old new was = absurd (cc)
parts_set zero zero (m ∷ olds) old new was = let e : m ≡ old = cc in let a : m.parts ≡ old.parts = ap (λ (x : Knowledge). x.parts) e in omega arith
parts_set zero (suc at) (m ∷ olds) old new was = refl
parts_set (suc i) zero (m ∷ olds) old new was = refl
parts_set (suc i) (suc at) (m ∷ olds) old new was = parts_set i at olds old new was

pub took_parts : (i : ℕ) (olds news : List Knowledge) (others : List Placed) → TookIn olds others news → parts_at i news ≡ parts_at i olds + held i others
took_parts i olds news [] t = ap (parts_at i) t ∙ (let e : parts_at i olds ≡ parts_at i olds + 0 = omega arith in e)
took_parts i olds news ((at, k) ∷ others) t =
    let j = t.1 in
    let a = took_parts i t.0 news others t.2 in
    let b = parts_set i at olds j.old j.new j.was in
    let c : parts_at i t.0 ≡ parts_at i (set olds at j.new) = ap (parts_at i) j.is in
    let d : parts_if at i j.new.parts ≡ parts_if at i (j.old.parts + k.parts) = ap (λ (p : ℕ). parts_if at i p) j.joined.parts in
    let e = parts_add at i j.old.parts k.parts in
    omega arith

pub took_all : (olds news : List Knowledge) (first others : List Placed) → HaveAll olds (first ++ others) → TookIn olds first news → HaveAll news others
unfolding HaveAll
took_all olds news first others all t i lt =
    let a = took_parts i olds news first t in
    let b = held_append i first others in
    let c = all i (subst (λ n. i < n) (took_long olds news first t) lt) in
    omega arith

-- where no others are left, each has all
pub none_left : (mains : List Knowledge) → HaveAll mains [] → AllByRecursion HasAll mains
unfolding HaveAll
none_left mains all = each mains (λ i lt. let a = all i lt in omega arith)
  where
    each : (ks : List Knowledge) → ((i : ℕ) → i < length ks → parts_at i ks ≡ all_parts) → AllByRecursion HasAll ks
    each [] f = tt
    each (k ∷ ks) f = (f zero (omega arith), each ks (λ i lt. f (suc i) (omega (arith, lt))))

-- the first callers have all
pub first_all : (ids : List SharedId) (ms : List Knowledge) → AreFirst ids ms → HaveAll ms []
unfolding HaveAll
first_all ids ms f i lt = let a = by ids ms f i lt in omega arith
  where
    by : (ids : List SharedId) (ms : List Knowledge) → AreFirst ids ms → (i : ℕ) → i < length ms → parts_at i ms ≡ all_parts
    by [] [] f i lt = absurd (omega (arith, lt))
    by [] (m ∷ ms) f i lt = absurd f
    by (id ∷ ids) [] f i lt = absurd f
    by (id ∷ ids) (m ∷ ms) f zero lt = ap (λ (x : Knowledge). x.parts) f.0
    by (id ∷ ids) (m ∷ ms) f (suc i) lt = by ids ms f.1 i (omega (arith, lt))
