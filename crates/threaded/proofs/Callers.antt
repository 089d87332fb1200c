-- Whose the entries of an end are, where one caller carried and one asked. Entries stand newest first.
use Rattle.std.proofs.lemmas.Bool.Decides.{nat_tests}
use Rattle.std.proofs.lemmas.Bool.{eq-eqb}
use Rattle.std.proofs.Common.{◌≡◌, ◌≢◌, ◌<◌, ◌+◌, ◌==◌, ◌⊎◌, inl, inr, ◌∙◌, ℕ, Bool, true, false, if◌then◌else◌, List, [], ◌∷◌, ◌++◌, refl, ap, sym, subst, arith}
use Rattle.std.specs.List.{AllByRecursion}
use Rattle.rs_wire.specs.declared.call.Call.{Call}
use Rattle.tape.specs.declared.entry.Entry.{Entry}
use Rattle.tape.specs.declared.event.Event.{Event}
use Rattle.tape.specs.declared.event.Event.TheVariants as event
use Rattle.conn_lock.specs.Callers.{calls, once, times}
use Rattle.conn_shared.specs.Lines.{who_of}
use Rattle.threaded_model.specs.Threaded.{AreCalls, ButTakes, asked, asked_in, is_asked}
use Rattle.carriers.specs.Alone.{NeverAsks}
use Rattle.threaded_asker.specs.Asking.{OnlyAsks, asked_at, asked_by}
use Rattle.threaded_asker.proofs.Asked.{asked_others, only_others}
use Rattle.pump.proofs.Adding.{all_split}

-- each entry carries one of these names
abbrev pub AreNamed : List ℕ → List Entry → Type 0
AreNamed names past = AllByRecursion (λ (x : Entry). 0 < times x.who names) past

same_once : (n : ℕ) → once n n ≡ 1
same_once n = grind (arith, nat_tests)

some_or_none : (n : ℕ) → (n ≡ 0) ⊎ (0 < n)
some_or_none n = elim (n == 0) as (λ v. (n == 0) ≡ v → (n ≡ 0) ⊎ (0 < n)) [
  | true ↦ λ is. inl (grind (arith, nat_tests))
  | false ↦ λ is. inr (grind (arith, nat_tests))
] refl

pub are_named : (names : List ℕ) (past : List Entry) → ((x : ℕ) → times x names ≡ 0 → calls who_of x past ≡ 0) → AreNamed names past
are_named names [] h = tt
are_named names (x ∷ past) h = (
  elim (some_or_none (times x.who names)) [
    | inl none ↦ absurd (let sum : once x.who x.who + calls who_of x.who past ≡ 0 = h x.who none in let one = same_once x.who in omega (arith, sum, one))
    | inr some ↦ some
  ],
  are_named names past (λ y none. (let sum : once x.who y + calls who_of y past ≡ 0 = h y none in omega (arith, sum))),
)

-- one of two
one_of : (x c a : ℕ) → 0 < times x (c ∷ a ∷ []) → (x ≡ c) ⊎ (x ≡ a)
one_of x c a named = elim (c == x) as (λ v. (c == x) ≡ v → (x ≡ c) ⊎ (x ≡ a)) [
  | true ↦ λ is. inl (grind (arith, nat_tests))
  | false ↦ λ is. elim (a == x) as (λ v. (a == x) ≡ v → (x ≡ c) ⊎ (x ≡ a)) [
    | true ↦ λ also. inr (grind (arith, nat_tests))
    | false ↦ λ also. absurd (let none : once c x ≡ 0 = rw is refl in let nil : once a x ≡ 0 = rw also refl in omega (arith, none, nil, named))
  ] refl
] refl

-- what the carrier added later carries its number
later_own : (P : Event → Type 0) (c : ℕ) (names : List ℕ) (more : List Entry) → AreNamed names more → AllByRecursion (λ (x : Entry). 0 < times x.who names → (x.who ≡ c) × P x.event) more → AllByRecursion (λ (x : Entry). x.who ≡ c) more
later_own P c names [] named own = tt
later_own P c names (x ∷ more) named own = ((own.0 named.0).0, later_own P c names more named.1 own.1)

no_calls : (c a : ℕ) (more : List Entry) → c ≢ a → AllByRecursion (λ (x : Entry). x.who ≡ c) more → calls who_of a more ≡ 0
no_calls c a [] apart all = refl
no_calls c a (x ∷ more) apart all =
    let same : x.who ≡ c = all.0 in
    let off : (x.who == a) ≡ false = grind (arith, nat_tests) in
    let none : once x.who a ≡ 0 = rw off refl in
    let rest = no_calls c a more apart all.1 in
    omega (arith, none, rest)

-- Of the entries of an end, those of the asker, who has number a, are as it saw them, and the carrier, who has number c, made all others.
pub record AreWhose (c a : ℕ) (seen past : List Entry) : Type 0 where
  pub named : AreNamed (c ∷ a ∷ []) past
  pub only : OnlyAsks a past
  pub same : asked_by a past ≡ asked_by a seen

pub whose : (P : Event → Type 0) (c a : ℕ) (seen others more past joined : List Entry) → c ≢ a → joined ≡ others ++ seen → calls who_of a others ≡ 0 → past ≡ more ++ joined → AllByRecursion (λ (x : Entry). 0 < times x.who (c ∷ a ∷ []) → (x.who ≡ c) × P x.event) more
    → AreNamed (c ∷ a ∷ []) past → OnlyAsks a seen → AreWhose c a seen past
whose P c a seen others more past joined apart is none on own named only =
    let parts = all_split (λ (x : Entry). 0 < times x.who (c ∷ a ∷ [])) more joined (subst (AreNamed (c ∷ a ∷ [])) on named) in
    let free = no_calls c a more apart (later_own P c (c ∷ a ∷ []) more parts.0 own) in
    record {
      named = named;
      only = subst (OnlyAsks a) (sym on) (only_others a more joined free (subst (OnlyAsks a) (sym is) (only_others a others seen none only)));
      same = ap (asked_by a) on ∙ (asked_others a more joined free ∙ (ap (asked_by a) is ∙ asked_others a others seen none));
    }

true_false : (b : Bool) → b ≡ true → b ≡ false → ⊥
true_false b h k = absurd (cc (h, k))

-- the carrier made all that asks nothing
pub carries_rest : (c a : ℕ) (past : List Entry) → AreNamed (c ∷ a ∷ []) past → OnlyAsks a past → AllByRecursion (λ (x : Entry). is_asked x.event ≡ false → x.who ≡ c) past
carries_rest c a [] named only = tt
carries_rest c a (x ∷ past) named only = (
  λ quiet. elim (one_of x.who c a named.0) [
    | inl own ↦ own
    | inr other ↦ absurd (true_false (is_asked x.event) (only.0 other) quiet)
  ],
  carries_rest c a past named.1 only.1,
)

nothing_asked : (e : Event) → is_asked e ≡ false → asked_in e ≡ []
nothing_asked (event.Asked call) h = absurd (cc h)
nothing_asked e h = refl

asked_if : (b : Bool) (calls : List Call) → b ≡ true → calls ≡ (if b then calls else [])
asked_if b calls is = sym (rw is refl)

none_if : (b : Bool) (calls : List Call) → calls ≡ [] → calls ≡ (if b then calls else [])
none_if true calls none = refl
none_if false calls none = none

-- so all calls are the asker's
asked_all : (c a : ℕ) (past : List Entry) → AreNamed (c ∷ a ∷ []) past → NeverAsks c past → asked past ≡ asked_by a past
unfolding asked asked_by
asked_all c a [] named never = refl
asked_all c a (x ∷ past) named never =
    let here : asked_in x.event ≡ asked_at a x = elim (one_of x.who c a named.0) [
      | inl own ↦ none_if (x.who == a) (asked_in x.event) (nothing_asked x.event (never.0 own))
      | inr other ↦ asked_if (x.who == a) (asked_in x.event) (eq-eqb x.who a other)
    ] in
    ap (λ l. l ++ asked_in x.event) (asked_all c a past named.1 never.1) ∙ ap (λ l. asked_by a past ++ l) here

asked_alone : (c a : ℕ) (past : List Entry) → AreNamed (c ∷ a ∷ []) past → NeverAsks c past → AllByRecursion (λ (x : Entry). is_asked x.event ≡ true → x.who ≡ a) past
asked_alone c a [] named never = tt
asked_alone c a (x ∷ past) named never = (
  λ asks. elim (one_of x.who c a named.0) [
    | inl own ↦ absurd (true_false (is_asked x.event) asks (never.0 own))
    | inr other ↦ other
  ],
  asked_alone c a past named.1 never.1,
)

pub are_calls : (c a : ℕ) (seen past : List Entry) (calls : List Call) → AreWhose c a seen past → NeverAsks c past → ButTakes calls (asked_by a seen) → AreCalls calls past
are_calls c a seen past calls w never made = record {
  noted = subst (ButTakes calls) (sym (asked_all c a past w.named never ∙ w.same)) made;
  number = a;
  alone = asked_alone c a past w.named never;
}
