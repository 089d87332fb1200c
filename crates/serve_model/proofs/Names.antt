-- What holds of the entries under some names goes on, and is put together.
use Rattle.std.specs.List.{AllByRecursion}
use Rattle.std.proofs.Common.{◌≡◌, ◌<◌, ◌+◌, ◌∙◌, ℕ, zero, suc, List, [], ◌∷◌, ◌++◌, refl, sym, ap, subst, arith, append_assoc}
use Rattle.tape.specs.declared.entry.Entry.{Entry}
use Rattle.conn_lock.specs.Callers.{times}
use Rattle.serve_model.specs.Names.{AreNamed, GoesOnBy, Under}

-- ---- lists

pub all_both : {A : Type 0} (P : A → Type 0) (xs ys : List A) → AllByRecursion P xs → AllByRecursion P ys → AllByRecursion P (xs ++ ys)
all_both P [] ys h k = k
all_both P (x ∷ xs) ys h k = (h.0, all_both P xs ys h.1 k)

pub all_split : {A : Type 0} (P : A → Type 0) (xs ys : List A) → AllByRecursion P (xs ++ ys) → AllByRecursion P xs × AllByRecursion P ys
all_split P [] ys h = (tt, h)
all_split P (x ∷ xs) ys h = let k = all_split P xs ys h.1 in ((h.0, k.0), k.1)

pub all_as : {A : Type 0} (P Q : A → Type 0) → ((x : A) → P x → Q x) → (xs : List A) → AllByRecursion P xs → AllByRecursion Q xs
all_as P Q f [] h = tt
all_as P Q f (x ∷ xs) h = (f x h.0, all_as P Q f xs h.1)

pub all_two : {A : Type 0} (P Q R : A → Type 0) → ((x : A) → P x → Q x → R x) → (xs : List A) → AllByRecursion P xs → AllByRecursion Q xs → AllByRecursion R xs
all_two P Q R f [] h k = tt
all_two P Q R f (x ∷ xs) h k = (f x h.0 k.0, all_two P Q R f xs h.1 k.1)

pub times_append : (x : ℕ) (xs ys : List ℕ) → times x (xs ++ ys) ≡ times x xs + times x ys
times_append x [] ys = omega arith
times_append x (a ∷ xs) ys = let h = times_append x xs ys in omega arith

-- ---- entries under names

pub under_as : (names : List ℕ) (P Q : Entry → Type 0) → ((x : Entry) → P x → Q x) → (past : List Entry) → Under names P past → Under names Q past
under_as names P Q f past h = all_as (λ x. 0 < times x.who names → P x) (λ x. 0 < times x.who names → Q x) (λ x k some. f x (k some)) past h

-- it holds under fewer names
pub under_fewer : (names fewer : List ℕ) (P : Entry → Type 0) (past : List Entry) → ((x : ℕ) → 0 < times x fewer → 0 < times x names) → Under names P past → Under fewer P past
under_fewer names fewer P past all h = all_as (λ x. 0 < times x.who names → P x) (λ x. 0 < times x.who fewer → P x) (λ x k some. k (all x.who some)) past h

-- what holds of two lists of names holds of both
pub under_joined : (a b : List ℕ) (P : Entry → Type 0) (past : List Entry) → Under a P past → Under b P past → Under (a ++ b) P past
under_joined a b P [] h k = tt
under_joined a b P (x ∷ past) h k = (
  λ some. by (times x.who a) refl some,
  under_joined a b P past h.1 k.1,
)
  where
    by : (n : ℕ) → times x.who a ≡ n → 0 < times x.who (a ++ b) → P x
    by zero none some = k.0 (let t = times_append x.who a b in omega arith)
    by (suc n) some first = h.0 (omega arith)

-- where every entry carries one of the names it holds of all
pub under_all : (names : List ℕ) (P : Entry → Type 0) (past : List Entry) → AreNamed names past → Under names P past → AllByRecursion P past
under_all names P past named h = all_two (λ x. 0 < times x.who names) (λ x. 0 < times x.who names → P x) P (λ x some k. k some) past named h

pub all_under : (names : List ℕ) (P : Entry → Type 0) (past : List Entry) → AllByRecursion P past → Under names P past
all_under names P past h = all_as P (λ x. 0 < times x.who names → P x) (λ x k some. k) past h

-- ---- lists that go on

-- it goes on with the list
pub under_on : (names : List ℕ) (P : Entry → Type 0) (old new : List Entry) → GoesOnBy names P old new → Under names P old → Under names P new
under_on names P old new goes h = subst (Under names P) (sym goes.on) (all_both (λ x. 0 < times x.who names → P x) goes.more old goes.own h)

pub under_earlier : (names : List ℕ) (P : Entry → Type 0) (old more new : List Entry) → new ≡ more ++ old → Under names P new → Under names P old
under_earlier names P old more new on h = (all_split (λ x. 0 < times x.who names → P x) more old (subst (Under names P) on h)).1

pub all_earlier : (P : Entry → Type 0) (old more new : List Entry) → new ≡ more ++ old → AllByRecursion P new → AllByRecursion P old
all_earlier P old more new on h = (all_split P more old (subst (AllByRecursion P) on h)).1

pub goes_as : (names : List ℕ) (P Q : Entry → Type 0) (old new : List Entry) → ((x : Entry) → P x → Q x) → GoesOnBy names P old new → GoesOnBy names Q old new
goes_as names P Q old new f goes = record { more = goes.more; on = goes.on; own = under_as names P Q f goes.more goes.own }

pub goes_fewer : (names fewer : List ℕ) (P : Entry → Type 0) (old new : List Entry) → ((x : ℕ) → 0 < times x fewer → 0 < times x names) → GoesOnBy names P old new → GoesOnBy fewer P old new
goes_fewer names fewer P old new all goes = record { more = goes.more; on = goes.on; own = under_fewer names fewer P goes.more all goes.own }

pub goes_both : (names : List ℕ) (P : Entry → Type 0) (a b c : List Entry) → GoesOnBy names P a b → GoesOnBy names P b c → GoesOnBy names P a c
goes_both names P a b c first second = record {
  more = second.more ++ first.more;
  on = second.on ∙ (ap (λ (l : List Entry). second.more ++ l) first.on ∙ sym (append_assoc second.more first.more a));
  own = all_both (λ x. 0 < times x.who names → P x) second.more first.more second.own first.own;
}

pub goes_none : (names : List ℕ) (P : Entry → Type 0) (past : List Entry) → GoesOnBy names P past past
goes_none names P past = record { more = []; on = refl; own = tt }
