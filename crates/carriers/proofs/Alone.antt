-- The entries of a carrier and of those who ask, by what a caller knows. Entries stand newest first.
use Rattle.std.proofs.lemmas.Bool.Decides.{nat_tests}
use Rattle.std.proofs.Common.{◌≡◌, ◌≢◌, ◌<◌, ◌+◌, inl, inr, ℕ, true, false, nat_lt, List, [], ◌∷◌, ◌++◌, refl, ap, sym, subst, arith}
use Rattle.std.specs.List.{AllByRecursion}
use Rattle.tape.specs.declared.entry.Entry.{Entry}
use Rattle.tape.specs.declared.event.Event.{Event}
use Rattle.conn_lock.specs.Callers.{IsOthers, calls, once, times}
use Rattle.conn_shared.specs.Lines.{who_of}
use Rattle.conn_shared.specs.Members.{Follows, Knowledge}
use Rattle.link_model.specs.Carrying.{is_of}
use Rattle.threaded_model.specs.Threaded.{is_asked}
use Rattle.pump.specs.Turns.{GoesOn, MovesAlone}
use Rattle.pump.proofs.Adding.{IsOn, all_split}
use Rattle.carriers.specs.Alone.{IsOurs, OthersAsk}
use Rattle.carriers.proofs.Blocks.{all_as, moves_asked}

-- the others only ask, and did so before
pub asks_back : (me me' : Knowledge) → IsOn me me' → (more : List Entry) → me'.front ≡ more ++ me.front → OthersAsk me' → OthersAsk me
asks_back me me' on more is o =
    let number : me'.number ≡ me.number = ap (λ (x : Knowledge). x.number) on in
    let names : me'.names ≡ me.names = ap (λ (x : Knowledge). x.names) on in
    let all : AllByRecursion (λ (x : Entry). is_asked x.event ≡ false → x.who ≡ me.number) (more ++ me.front) =
    subst (λ (es : List Entry). AllByRecursion (λ (x : Entry). is_asked x.event ≡ false → x.who ≡ me.number) es) is (subst (λ (n : ℕ). AllByRecursion (λ (x : Entry). is_asked x.event ≡ false → x.who ≡ n) me'.front) number o.ask) in
    record {
      named = subst (λ (n : ℕ). 0 < times n me.names) number (subst (λ (ns : List ℕ). 0 < times me'.number ns) names o.named);
      ask = (all_split (λ (x : Entry). is_asked x.event ≡ false → x.who ≡ me.number) more me.front all).1;
    }

-- so this caller alone moves bytes
pub moves_alone : (me : Knowledge) (c : ℕ) → OthersAsk me → MovesAlone me c
moves_alone me c o = record {
  named = o.named;
  alone = all_as (λ (x : Entry). is_asked x.event ≡ false → x.who ≡ me.number) (λ (x : Entry). is_of c x.event ≡ true → x.who ≡ me.number) (λ x h is. h (moves_asked c x.event is)) me.front o.ask;
}

one_ours : (P : Event → Type 0) (n : ℕ) (names : List ℕ) (x : Entry) → 0 < times n names → (0 < times x.who names → (x.who ≡ n) × P x.event) → (is_asked x.event ≡ false → x.who ≡ n) → IsOurs P n x
one_ours P n names x named own ask = elim (nat_lt 0 (times x.who names)) as (λ v. (nat_lt 0 (times x.who names)) ≡ v → IsOurs P n x) [
  | true ↦ λ is. inl (own (grind (arith, nat_tests)))
  | false ↦ λ is.
      let none : times x.who names ≡ 0 = grind (arith, nat_tests) in
      let other : x.who ≢ n = λ same. (let some : 0 < times x.who names = subst (λ (i : ℕ). 0 < times i names) (sym same) named in absurd (omega (arith, none, some))) in
      inr (other, elim (is_asked x.event) as (λ v. (is_asked x.event) ≡ v → is_asked x.event ≡ true) [ true ↦ λ asked. asked | false ↦ λ not. absurd (other (ask not)) ] refl)
] refl

all_ours : (P : Event → Type 0) (n : ℕ) (names : List ℕ) (more : List Entry) → 0 < times n names → AllByRecursion (λ (x : Entry). 0 < times x.who names → (x.who ≡ n) × P x.event) more → AllByRecursion (λ (x : Entry). is_asked x.event ≡ false → x.who ≡ n) more → AllByRecursion (IsOurs P n) more
all_ours P n names [] named own ask = tt
all_ours P n names (x ∷ more) named own ask = (one_ours P n names x named own.0 ask.0, all_ours P n names more named own.1 ask.1)

-- what was added are this caller's entries, and those of others, who ask
pub gained : (P : Event → Type 0) (me me' : Knowledge) → IsOn me me' → (h : GoesOn P me me'.front) → OthersAsk me' → AllByRecursion (IsOurs P me.number) h.more
gained P me me' on h o =
    let number : me'.number ≡ me.number = ap (λ (x : Knowledge). x.number) on in
    let back : OthersAsk me = asks_back me me' on h.more h.on o in
    let all : AllByRecursion (λ (x : Entry). is_asked x.event ≡ false → x.who ≡ me.number) (h.more ++ me.front) =
    subst (λ (es : List Entry). AllByRecursion (λ (x : Entry). is_asked x.event ≡ false → x.who ≡ me.number) es) h.on (subst (λ (n : ℕ). AllByRecursion (λ (x : Entry). is_asked x.event ≡ false → x.who ≡ n) me'.front) number o.ask) in
    all_ours P me.number me.names h.more back.named h.own (all_split (λ (x : Entry). is_asked x.event ≡ false → x.who ≡ me.number) h.more me.front all).0

-- no event
abbrev pub IsNone : Event → Type 0
IsNone e = ⊥

-- what others added is none of these names
same_once : (n : ℕ) → once n n ≡ 1
same_once n = grind (arith, nat_tests)

of_others : (names : List ℕ) (n : ℕ) (others : List Entry) → IsOthers who_of names others → AllByRecursion (λ (x : Entry). 0 < times x.who names → (x.who ≡ n) × IsNone x.event) others
of_others names n [] o = tt
of_others names n (e ∷ others) o = (
  λ named. absurd (let sum : once e.who e.who + calls who_of e.who others ≡ 0 = o e.who named in let one = same_once e.who in omega (arith, sum, one)),
  of_others names n others (λ x named. (let sum : once e.who x + calls who_of x others ≡ 0 = o x named in omega (arith, sum))),
)

-- where other callers were joined into this one, whose entries follow
pub joined_others : (me me' : Knowledge) → me'.number ≡ me.number → 0 < times me.number me.names → (f : Follows me.names me.front me'.front) → OthersAsk me' → OthersAsk me × AllByRecursion (IsOurs IsNone me.number) f.0
joined_others me me' number named f o =
    let all : AllByRecursion (λ (x : Entry). is_asked x.event ≡ false → x.who ≡ me.number) (f.0 ++ me.front) =
    subst (λ (es : List Entry). AllByRecursion (λ (x : Entry). is_asked x.event ≡ false → x.who ≡ me.number) es) f.1 (subst (λ (n : ℕ). AllByRecursion (λ (x : Entry). is_asked x.event ≡ false → x.who ≡ n) me'.front) number o.ask) in
    let parts = all_split (λ (x : Entry). is_asked x.event ≡ false → x.who ≡ me.number) f.0 me.front all in (
      record { named = named; ask = parts.1 },
      all_ours IsNone me.number me.names f.0 named (of_others me.names me.number f.0 f.2) parts.0,
    )

-- where nothing of this caller was added
pub gained_others : (me me' : Knowledge) → IsOn me me' → (f : Follows me.names me.front me'.front) → OthersAsk me' → AllByRecursion (IsOurs IsNone me.number) f.0
gained_others me me' on f o =
    let back : OthersAsk me = asks_back me me' on f.0 f.1 o in
    (joined_others me me' (ap (λ (x : Knowledge). x.number) on) back.named f o).1
