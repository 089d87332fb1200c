-- A caller that took in others, one after another.
use Rattle.std.specs.List.{AllByRecursion}
use Rattle.std.proofs.lemmas.Bool.Decides.{nat_tests}
use Rattle.std.proofs.Common.{◌≡◌, ◌≢◌, ◌<◌, ◌+◌, ◌==◌, ◌∙◌, ℕ, zero, suc, true, false, if◌then◌else◌, List, [], ◌∷◌, ◌++◌, set, slice_get, Option, Some, refl, sym, ap, subst, arith, append-nil, append_assoc}
use Rattle.rs_wire.specs.declared.call.Call.{Call}
use Rattle.tape.specs.declared.entry.Entry.{Entry}
use Rattle.conn_lock.specs.Callers.{calls, times}
use Rattle.conn_shared.specs.Lines.{who_of}
use Rattle.conn_shared.specs.Members.{Follows, Knowledge}
use Rattle.handlers.specs.Listed.{Listed}
use Rattle.workers.specs.declared.job.OpenJob.{OpenJob}
use Rattle.workers.specs.Courses.{IsNoWork}
use Rattle.workers.specs.Serving.{Serving}
use Rattle.workers.proofs.Waiting.{serving_joined}
use Rattle.serve_model.specs.Names.{Under}
use Rattle.serve_model.proofs.Names.{times_append}
use Rattle.serve_slots.specs.Callers.{IsJoined, JoinedAll, Placed, TookIn, at_slot}
use Rattle.serve_laws.specs.Knowing.{KnowsOwn, KnowsWork}
use Rattle.serve_fold.specs.Slots.{names_in}
use Rattle.serve_laws.proofs.Taking.{own_joined, work_joined, work_none}

-- ---- lists that go on

pub follows_same : (names : List ℕ) (front : List Entry) → Follows names front front
follows_same names front = ([], refl, λ x some. refl)

calls_append : (n : ℕ) (xs ys : List Entry) → calls who_of n (xs ++ ys) ≡ calls who_of n xs + calls who_of n ys
calls_append n [] ys = omega arith
calls_append n (x ∷ xs) ys = let h = calls_append n xs ys in omega (arith, h)

pub follows_both : (names : List ℕ) (a b c : List Entry) → Follows names a b → Follows names b c → Follows names a c
follows_both names a b c first second = (
  second.0 ++ first.0,
  second.1 ∙ (ap (λ (l : List Entry). second.0 ++ l) first.1 ∙ sym (append_assoc second.0 first.0 a)),
  λ n some. calls_append n second.0 first.0 ∙ (let h = second.2 n some in let k = first.2 n some in omega (arith, h, k)),
)

pub follows_fewer : (names fewer : List ℕ) (a b : List Entry) → ((n : ℕ) → 0 < times n fewer → 0 < times n names) → Follows names a b → Follows fewer a b
follows_fewer names fewer a b all follows = (follows.0, follows.1, λ n some. follows.2 n (all n some))

-- ---- names

pub joined_names : (m : Knowledge) (ks : List Knowledge) (n : Knowledge) → JoinedAll m ks n → n.names ≡ m.names ++ names_in ks
joined_names m [] n same = ap (λ (x : Knowledge). x.names) same ∙ sym (append-nil m.names)
joined_names m (k ∷ ks) n (mid, one, rest) = joined_names mid ks n rest ∙ (ap (λ (l : List ℕ). l ++ names_in ks) one.names ∙ append_assoc m.names k.names (names_in ks))

pub joined_number : (m : Knowledge) (ks : List Knowledge) (n : Knowledge) → JoinedAll m ks n → (n.number ≡ m.number) × (n.of ≡ m.of)
joined_number m [] n same = (ap (λ (x : Knowledge). x.number) same, ap (λ (x : Knowledge). x.of) same)
joined_number m (k ∷ ks) n (mid, one, rest) = let h = joined_number mid ks n rest in (h.0 ∙ one.number, h.1 ∙ one.of)

pub in_first : (n : ℕ) (xs ys : List ℕ) → 0 < times n xs → 0 < times n (xs ++ ys)
in_first n xs ys some = let t = times_append n xs ys in omega (arith, t, some)

pub in_second : (n : ℕ) (xs ys : List ℕ) → 0 < times n ys → 0 < times n (xs ++ ys)
in_second n xs ys some = let t = times_append n xs ys in omega (arith, t, some)

-- ---- fronts

-- the list goes on from the first caller's by entries of others than it ..
pub joined_first : (m : Knowledge) (ks : List Knowledge) (n : Knowledge) → JoinedAll m ks n → Follows m.names m.front n.front
joined_first m [] n same = subst (λ (x : Knowledge). Follows m.names m.front x.front) (sym same) (follows_same m.names m.front)
joined_first m (k ∷ ks) n (mid, one, rest) =
    follows_both m.names m.front mid.front n.front one.first
    (follows_fewer mid.names m.names mid.front n.front (λ x some. subst (λ (l : List ℕ). 0 < times x l) (sym one.names) (in_first x m.names k.names some)) (joined_first mid ks n rest))

-- .. and so from each of the others
pub joined_each : (m : Knowledge) (ks : List Knowledge) (n : Knowledge) (i : ℕ) (k : Knowledge) → JoinedAll m ks n → slice_get ks i ≡ Some k → Follows k.names k.front n.front
joined_each m [] n i k joined is = absurd (cc)
joined_each m (j ∷ ks) n zero k (mid, one, rest) is = by (cc)
  where
    by : j ≡ k → Follows k.names k.front n.front
    by same = subst (λ (x : Knowledge). Follows x.names x.front n.front) same
        (follows_both j.names j.front mid.front n.front one.second
        (follows_fewer mid.names j.names mid.front n.front (λ x some. subst (λ (l : List ℕ). 0 < times x l) (sym one.names) (in_second x m.names j.names some)) (joined_first mid ks n rest)))
joined_each m (j ∷ ks) n (suc i) k (mid, one, rest) is = joined_each mid ks n i k rest is

pub each_named : (ks : List Knowledge) (i : ℕ) (k : Knowledge) (x : ℕ) → slice_get ks i ≡ Some k → 0 < times x k.names → 0 < times x (names_in ks)
each_named [] i k x is some = absurd (cc)
each_named (j ∷ ks) zero k x is some = in_first x j.names (names_in ks) (subst (λ (y : Knowledge). 0 < times x y.names) (let same : k ≡ j = cc in same) some)
each_named (j ∷ ks) (suc i) k x is some = in_second x j.names (names_in ks) (each_named ks i k x is some)

-- ---- what they know

pub own_all_joined : (moments : Option (List ℕ)) (lease : Option Call) (rows : List (List ℕ)) (slot : ℕ) (m : Knowledge) (ks : List Knowledge) (n : Knowledge) → JoinedAll m ks n → KnowsOwn moments lease rows slot m.names m.front
    → AllByRecursion (λ (k : Knowledge). KnowsOwn moments lease rows slot k.names k.front) ks → KnowsOwn moments lease rows slot n.names n.front
own_all_joined moments lease rows slot m [] n same own all = subst (λ (x : Knowledge). KnowsOwn moments lease rows slot x.names x.front) (sym same) own
own_all_joined moments lease rows slot m (k ∷ ks) n (mid, one, rest) own all =
    own_all_joined moments lease rows slot mid ks n rest
    (subst (λ ns. KnowsOwn moments lease rows slot ns mid.front) (sym one.names) (own_joined moments lease rows slot m.names k.names m.front k.front mid.front one.first one.second own all.0)) all.1

-- the statement of the first caller's work, where the others made no call of a worker
pub serving_all_joined : (routes : List Listed) (work : List OpenJob) (m : Knowledge) (ks : List Knowledge) (n : Knowledge) → JoinedAll m ks n → Serving m.names m.front routes work
    → AllByRecursion (λ (k : Knowledge). Under k.names (λ x. IsNoWork x.event) k.front) ks → Serving n.names n.front routes work
serving_all_joined routes work m [] n same serving all = subst (λ (x : Knowledge). Serving x.names x.front routes work) (sym same) serving
serving_all_joined routes work m (k ∷ ks) n (mid, one, rest) serving all =
    serving_all_joined routes work mid ks n rest
    (subst (λ ns. Serving ns mid.front routes work) (sym one.names) (serving_joined m.names k.names m.front k.front mid.front routes work one.first one.second all.0 serving)) all.1

-- workers that were taken in
work_from : (routes : List Listed) (before : List ℕ) (m : Knowledge) (ks : List Knowledge) (n : Knowledge) → JoinedAll m ks n → ((x : ℕ) → 0 < times x before → 0 < times x m.names) → KnowsWork routes before m.front
    → AllByRecursion (λ (k : Knowledge). KnowsWork routes k.names k.front) ks → KnowsWork routes (before ++ names_in ks) n.front
work_from routes before m [] n same among work all = subst (λ ns. KnowsWork routes ns n.front) (sym (append-nil before)) (subst (λ (x : Knowledge). KnowsWork routes before x.front) (sym same) work)
work_from routes before m (k ∷ ks) n (mid, one, rest) among work all =
    subst (λ ns. KnowsWork routes ns n.front) (append_assoc before k.names (names_in ks))
    (work_from routes (before ++ k.names) mid ks n rest (λ x some. subst (λ (l : List ℕ). 0 < times x l) (sym one.names) (both x some))
    (work_joined routes before k.names m.front k.front mid.front (follows_fewer m.names before m.front mid.front among one.first) one.second work all.0) all.1)
  where
    both : (x : ℕ) → 0 < times x (before ++ k.names) → 0 < times x (m.names ++ k.names)
    both x some = by (times x before) refl
      where
        by : (a : ℕ) → times x before ≡ a → 0 < times x (m.names ++ k.names)
        by zero none = in_second x m.names k.names (let t = times_append x before k.names in omega (arith, t, none, some))
        by (suc a) there = in_first x m.names k.names (among x (omega (arith, there)))

pub work_all_joined : (routes : List Listed) (m : Knowledge) (ks : List Knowledge) (n : Knowledge) → JoinedAll m ks n → AllByRecursion (λ (k : Knowledge). KnowsWork routes k.names k.front) ks → KnowsWork routes (names_in ks) n.front
work_all_joined routes m ks n joined all = work_from routes [] m ks n joined (λ x some. absurd (omega (arith, some))) (work_none routes m.front) all

-- ---- no name twice

-- a name of the one and of another, or of two others, there is none
pub joined_apart : (m : Knowledge) (ks : List Knowledge) (n : Knowledge) (i : ℕ) (k : Knowledge) (x : ℕ) → JoinedAll m ks n → slice_get ks i ≡ Some k → 0 < times x m.names → 0 < times x k.names → ⊥
joined_apart m [] n i k x joined is one two = absurd (cc)
joined_apart m (j ∷ ks) n zero k x (mid, first, rest) is one two = absurd (
    let none = first.apart x one in
    let same : k ≡ j = cc in
    let h : 0 < times x j.names = subst (λ (y : Knowledge). 0 < times x y.names) same two in
    omega (arith, none, h)
    )
joined_apart m (j ∷ ks) n (suc i) k x (mid, first, rest) is one two = joined_apart mid ks n i k x rest is (subst (λ (l : List ℕ). 0 < times x l) (sym first.names) (in_first x m.names j.names one)) two

pub others_apart : (m : Knowledge) (ks : List Knowledge) (n : Knowledge) (i j : ℕ) (k l : Knowledge) (x : ℕ) → JoinedAll m ks n → i < j → slice_get ks i ≡ Some k → slice_get ks j ≡ Some l → 0 < times x k.names → 0 < times x l.names → ⊥
others_apart m [] n i j k l x joined lt is also one two = absurd (cc)
others_apart m (h ∷ ks) n zero zero k l x joined lt is also one two = absurd (omega (arith, lt))
others_apart m (h ∷ ks) n zero (suc j) k l x (mid, first, rest) lt is also one two =
    joined_apart mid ks n j l x rest also (subst (λ (ns : List ℕ). 0 < times x ns) (sym first.names) (in_second x m.names h.names (subst (λ (y : Knowledge). 0 < times x y.names) (let same : k ≡ h = cc in same) one))) two
others_apart m (h ∷ ks) n (suc i) zero k l x joined lt is also one two = absurd (omega (arith, lt))
others_apart m (h ∷ ks) n (suc i) (suc j) k l x (mid, first, rest) lt is also one two = others_apart mid ks n i j k l x rest (omega (arith, lt)) is also one two

-- ---- the callers of one slot

set_here : {A : Type 0} (xs : List A) (i : ℕ) (x y : A) → slice_get xs i ≡ Some x → slice_get (set xs i y) i ≡ Some y
set_here [] i x y is = absurd (cc)
set_here (z ∷ xs) zero x y is = refl
set_here (z ∷ xs) (suc i) x y is = set_here xs i x y is

set_there : {A : Type 0} (xs : List A) (i j : ℕ) (y : A) → i ≢ j → slice_get (set xs i y) j ≡ slice_get xs j
set_there [] i j y apart = refl
set_there (z ∷ xs) zero zero y apart = absurd (apart refl)
set_there (z ∷ xs) zero (suc j) y apart = refl
set_there (z ∷ xs) (suc i) zero y apart = refl
set_there (z ∷ xs) (suc i) (suc j) y apart = set_there xs i j y (λ same. apart (ap suc same))

same_got : (a b : Knowledge) (o : Option Knowledge) → o ≡ Some a → o ≡ Some b → a ≡ b
same_got a b o is also = (let both : Some a ≡ Some b = sym is ∙ also in cc)

pub took_slot : (olds : List Knowledge) (others : List Placed) (news : List Knowledge) (slot : ℕ) (m : Knowledge) → TookIn olds others news → slice_get olds slot ≡ Some m → (n : Knowledge) × (slice_get news slot ≡ Some n) × JoinedAll m (at_slot slot others) n
took_slot olds [] news slot m same is = (m, subst (λ (l : List Knowledge). slice_get l slot ≡ Some m) (sym same) is, refl)
took_slot olds ((at, k) ∷ others) news slot m (mid, one, rest) is = elim (at == slot) as (λ v. (at == slot) ≡ v → (n : Knowledge) × (slice_get news slot ≡ Some n) × JoinedAll m (if v then k ∷ at_slot slot others else at_slot slot others) n) [
  | true ↦ λ here.
      let same : at ≡ slot = grind (arith, nat_tests) in
      let old : one.old ≡ m = same_got one.old m (slice_get olds slot) (subst (λ i. slice_get olds i ≡ Some one.old) same one.was) is in
      let now : slice_get mid slot ≡ Some one.new = subst (λ (l : List Knowledge). slice_get l slot ≡ Some one.new) (sym one.is) (subst (λ i. slice_get (set olds i one.new) slot ≡ Some one.new) (sym same) (set_here olds slot m one.new is)) in
      let h = took_slot mid others news slot one.new rest now in
      (h.0, h.1, (one.new, subst (λ (x : Knowledge). IsJoined x k one.new) old one.joined, h.2))
  | false ↦ λ apart.
      let now : slice_get mid slot ≡ Some m = ap (λ (l : List Knowledge). slice_get l slot) one.is ∙ (set_there olds at slot one.new (grind (arith, nat_tests)) ∙ is) in
      took_slot mid others news slot m rest now
] refl
