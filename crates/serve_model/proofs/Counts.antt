-- What the caller of one number did, over lists that go on.
use Rattle.std.proofs.lemmas.Bool.Decides.{nat_tests}
use Rattle.std.proofs.Common.{◌≡◌, ◌≢◌, ◌<◌, ◌≤◌, ◌+◌, ◌==◌, ◌&&◌, inl, inr, ℕ, Bool, true, false, if◌then◌else◌, List, [], ◌∷◌, ◌++◌, Option, Some, None, refl, sym, ap, subst, arith, length-append}
use Rattle.rs_wire.specs.declared.call.Call.{Call}
use Rattle.tape.specs.declared.answer.Answer.{Answer}
use Rattle.tape.specs.declared.entry.Entry.{Entry}
use Rattle.tape.specs.declared.event.Event.{Event}
use Rattle.tape.specs.declared.event.Event.TheVariants as event
use Rattle.stream_model.specs.Streams.{one_if}
use Rattle.session_model.specs.Joined.{opens_as}
use Rattle.session_model.specs.Life.{openings_in}
use Rattle.session_laws.specs.Openings.{times_opened}
use Rattle.conn_lock.specs.Callers.{times}
use Rattle.serve_model.specs.Names.{Under}
use Rattle.serve_model.specs.Counts.{accepted_by, accepts, first_by, accepts_as, opened_by, opens_by, opens_here, or_else, since_open}
use Rattle.serve_model.specs.Links.{AsksFor, LeasesNext}
use Rattle.serve_model.specs.Order.{is_opening}

-- ---- the number of a caller

pub named_once : (n : ℕ) → 0 < times n (n ∷ [])
named_once n = grind (arith, nat_tests)

-- ---- more entries take no opening away

pub opened_more : (n c : ℕ) (more past : List Entry) → opened_by n c past ≤ opened_by n c (more ++ past)
unfolding opened_by
opened_more n c [] past = omega arith
opened_more n c (x ∷ more) past = let h = opened_more n c more past in omega (arith, h)

-- ---- a caller that opens nothing

opens_none : (n : ℕ) (x : Entry) → (0 < times x.who (n ∷ []) → is_opening x.event ≡ false) → (if x.who == n then openings_in x.event else 0) ≡ 0
opens_none n x none = elim (x.who == n) as (λ v. (x.who == n) ≡ v → (if v then openings_in x.event else 0) ≡ 0) [
  | true ↦ λ is. let h = none (grind (arith, nat_tests)) in grind (arith, nat_tests)
  | false ↦ λ is. refl
] refl

pub opens_on : (n : ℕ) (more past : List Entry) → Under (n ∷ []) (λ x. is_opening x.event ≡ false) more → opens_by n (more ++ past) ≡ opens_by n past
unfolding opens_by
opens_on n [] past none = refl
opens_on n (x ∷ more) past none =
    let before = opens_on n more past none.1 in
    let here = opens_none n x none.0 in
    omega (arith, before, here)

opens_not : (n : ℕ) (x : Entry) → (0 < times x.who (n ∷ []) → is_opening x.event ≡ false) → opens_here n x ≡ false
opens_not n x none = elim (x.who == n) as (λ v. (x.who == n) ≡ v → (v && is_opening x.event) ≡ false) [
  | true ↦ λ is. none (grind (arith, nat_tests))
  | false ↦ λ is. refl
] refl

pub since_on : (n : ℕ) (more past : List Entry) → Under (n ∷ []) (λ x. is_opening x.event ≡ false) more → since_open n (more ++ past) ≡ more ++ since_open n past
unfolding since_open
since_on n [] past none = refl
since_on n (x ∷ more) past none = rw (opens_not n x none.0) (ap (λ (l : List Entry). x ∷ l) (since_on n more past none.1))

accepted_zero : (e : Event) (a : Answer) → is_opening e ≡ false → accepts e a ≡ 0
accepted_zero (event.Open first taken) a none = absurd (cc)
accepted_zero e a none = refl

opened_zero : (c : ℕ) (e : Event) (a : Answer) → is_opening e ≡ false → accepts_as c e a ≡ 0
opened_zero c (event.Open first taken) a none = absurd (cc)
opened_zero c e a none = refl

pub if_zero : (b : Bool) (n : ℕ) → (b ≡ true → n ≡ 0) → (if b then n else 0) ≡ 0
if_zero true n none = none refl
if_zero false n none = refl

pub is_named : (n m : ℕ) → (m == n) ≡ true → 0 < times m (n ∷ [])
is_named n m is = grind (arith, nat_tests)

pub accepted_on : (n : ℕ) (more past : List Entry) → Under (n ∷ []) (λ x. is_opening x.event ≡ false) more → accepted_by n (more ++ past) ≡ accepted_by n past
unfolding accepted_by
accepted_on n [] past none = refl
accepted_on n (x ∷ more) past none =
    let before = accepted_on n more past none.1 in
    let here = if_zero (x.who == n) (accepts x.event x.answer) (λ is. accepted_zero x.event x.answer (none.0 (is_named n x.who is))) in
    omega (arith, before, here)

pub opened_on : (n c : ℕ) (more past : List Entry) → Under (n ∷ []) (λ x. is_opening x.event ≡ false) more → opened_by n c (more ++ past) ≡ opened_by n c past
unfolding opened_by
opened_on n c [] past none = refl
opened_on n c (x ∷ more) past none =
    let before = opened_on n c more past none.1 in
    let here = if_zero (x.who == n) (accepts_as c x.event x.answer) (λ is. opened_zero c x.event x.answer (none.0 (is_named n x.who is))) in
    omega (arith, before, here)

-- ---- a connection has one opener

opened_le : (c : ℕ) (e : Event) (a : Answer) → accepts_as c e a ≤ one_if (opens_as c a)
opened_le c (event.Open first taken) a = omega arith
opened_le c e a = omega arith

only_one : (a b : Bool) (k : ℕ) → (a ≡ true → b ≡ true → ⊥) → (if a then k else 0) + (if b then k else 0) ≤ k
only_one true true k apart = absurd (apart refl refl)
only_one true false k apart = omega arith
only_one false true k apart = omega arith
only_one false false k apart = omega arith

two_openers : (n m c : ℕ) (past : List Entry) → n ≢ m → opened_by n c past + opened_by m c past ≤ times_opened past c
unfolding opened_by times_opened
two_openers n m c [] apart = omega arith
two_openers n m c (x ∷ past) apart =
    let h = two_openers n m c past apart in
    let here = opened_le c x.event x.answer in
    let one = only_one (x.who == n) (x.who == m) (accepts_as c x.event x.answer) (λ a b. apart (grind (arith, nat_tests))) in
    omega (arith, h, here, one)

pub one_opener : (n m c : ℕ) (past : List Entry) → times_opened past c ≤ 1 → 0 < opened_by n c past → 0 < opened_by m c past → n ≡ m
one_opener n m c past once a b = elim (n == m) as (λ v. (n == m) ≡ v → n ≡ m) [
  | true ↦ λ is. grind (arith, nat_tests)
  | false ↦ λ is. absurd (let t = two_openers n m c past (grind (arith, nat_tests)) in omega (arith, t, once, a, b))
] refl

-- ---- the first entry of a caller stays

first_on : (n : ℕ) (more past : List Entry) (x : Entry) → first_by n past ≡ Some x → first_by n (more ++ past) ≡ Some x
unfolding first_by
first_on n [] past x is = is
first_on n (y ∷ more) past x is = ap (λ (o : Option Entry). or_else o n y) (first_on n more past x is)

asks_on : (lease : Call) (n : ℕ) (more past : List Entry) → AsksFor lease (first_by n past) → AsksFor lease (first_by n (more ++ past))
asks_on lease n more past asks = by (first_by n past) refl asks
  where
    by : (o : Option Entry) → first_by n past ≡ o → AsksFor lease o → AsksFor lease (first_by n (more ++ past))
    by (Some x) is h = subst (AsksFor lease) (sym (first_on n more past x is)) h
    by None is h = absurd h

pub leases_on : (lease : Option Call) (n : ℕ) (more past : List Entry) → Under (n ∷ []) (λ x. is_opening x.event ≡ false) more → LeasesNext lease n past → LeasesNext lease n (more ++ past)
leases_on None n more past none leased = tt
leases_on (Some lease) n more past none (inl full) = inl (omega (arith, full, length-append more past))
leases_on (Some lease) n more past none (inr asks) = inr (subst (λ (l : List Entry). AsksFor lease (first_by n l)) (sym (since_on n more past none)) (asks_on lease n more (since_open n past) asks))
