-- How fronts go on.
use Rattle.std.proofs.lemmas.Bool.Decides.{nat_tests}
use Rattle.std.specs.List.{AllByRecursion}
use Rattle.std.proofs.Common.{◌≡◌, ◌<◌, ◌+◌, ◌∙◌, ℕ, Bool, true, false, if◌then◌else◌, List, [], ◌∷◌, ◌++◌, refl, sym, ap, subst, arith, append_assoc}
use Rattle.rs_wire.specs.declared.settings.Settings.{Settings}
use Rattle.tape.specs.Answers.{leaves}
use Rattle.tape.specs.Told.{entry_of}
use Rattle.tape.specs.declared.answer.Answer.{Answer}
use Rattle.tape.specs.declared.entry.Entry.{Entry}
use Rattle.tape.specs.declared.event.Event.{Event}
use Rattle.session_core.specs.Seen.{entries_after}
use Rattle.conn_lock.specs.Callers.{IsOthers, calls, once, times}
use Rattle.conn_shared.specs.Calls.{IsCalled}
use Rattle.conn_shared.specs.Lines.{who_of}
use Rattle.conn_shared.specs.Members.{Continues, Follows, Knowledge}
use Rattle.pump.specs.Turns.{GoesOn}

-- ---- a front after another

pub continues_same : (xs : List Entry) → Continues xs xs
continues_same xs = ([], refl)

pub continues_both : (a b c : List Entry) → Continues a b → Continues b c → Continues a c
continues_both a b c h k = (k.0 ++ h.0, k.1 ∙ (ap (λ t. k.0 ++ t) h.1 ∙ sym (append_assoc k.0 h.0 a)))

pub follows_continues : (names : List ℕ) (a b : List Entry) → Follows names a b → Continues a b
follows_continues names a b f = (f.0, f.1)

pub step_continues : (n : ℕ) (e : Event) (a : Answer) (past : List Entry) → Continues past (entries_after n e a past)
step_continues n e a past = one (leaves a)
  where
    one : (b : Bool) → Continues past (if b then entry_of n e a ∷ past else past)
    one true = (entry_of n e a ∷ [], refl)
    one false = ([], refl)

pub called_continues : (g : Settings) (me : Knowledge) (e : Event) (a : Answer) (new : List Entry) → (c : IsCalled g me e a new) → Continues c.before new
called_continues g me e a new c = subst (Continues c.before) (sym c.step.after) (step_continues me.number e a c.before)

-- ---- a caller of whom only the front and the note have changed

abbrev pub IsOn : Knowledge → Knowledge → Type 0
IsOn was now = now ≡ record was { front = now.front; note = now.note }

pub on_both : (was mid now : Knowledge) → IsOn was mid → IsOn mid now → IsOn was now
on_both was mid now h k = k ∙ ap (λ (x : Knowledge). record x { front = now.front; note = now.note }) h

pub on_by : (was now : Knowledge) → now ≡ record was { front = now.front; note = now.note } → IsOn was now
on_by was now h = h

-- ---- what is added

pub all_both : {A : Type 0} (P : A → Type 0) (xs ys : List A) → AllByRecursion P xs → AllByRecursion P ys → AllByRecursion P (xs ++ ys)
all_both P [] ys h k = k
all_both P (x ∷ xs) ys h k = (h.0, all_both P xs ys h.1 k)

pub all_split : {A : Type 0} (P : A → Type 0) (xs ys : List A) → AllByRecursion P (xs ++ ys) → AllByRecursion P xs × AllByRecursion P ys
all_split P [] ys h = (tt, h)
all_split P (x ∷ xs) ys h = let more = all_split P xs ys h.1 in ((h.0, more.0), more.1)

pub all_as : {A : Type 0} (P Q : A → Type 0) → ((x : A) → P x → Q x) → (xs : List A) → AllByRecursion P xs → AllByRecursion Q xs
all_as P Q f [] h = tt
all_as P Q f (x ∷ xs) h = (f x h.0, all_as P Q f xs h.1)

-- an entry added is of another caller, or of this number with such an event
abbrev pub IsOwn : (Event → Type 0) → List ℕ → ℕ → Entry → Type 0
IsOwn P names n x = 0 < times x.who names → (x.who ≡ n) × P x.event

same_once : (n : ℕ) → once n n ≡ 1
same_once n = grind (arith, nat_tests)

of_others : (P : Event → Type 0) (names : List ℕ) (n : ℕ) (others : List Entry) → IsOthers who_of names others → AllByRecursion (IsOwn P names n) others
of_others P names n [] o = tt
of_others P names n (e ∷ others) o = (
  λ named. absurd (let sum : once e.who e.who + calls who_of e.who others ≡ 0 = o e.who named in let one = same_once e.who in omega arith),
  of_others P names n others (λ x named. (let sum : once e.who x + calls who_of x others ≡ 0 = o x named in omega arith)),
)

pub goes_none : (P : Event → Type 0) (me : Knowledge) → GoesOn P me me.front
goes_none P me = record { more = []; on = refl; own = tt }

pub goes_follows : (P : Event → Type 0) (me : Knowledge) (new : List Entry) → Follows me.names me.front new → GoesOn P me new
goes_follows P me new f = record { more = f.0; on = f.1; own = of_others P me.names me.number f.0 f.2 }

pub goes_called : (P : Event → Type 0) (g : Settings) (me : Knowledge) (e : Event) (a : Answer) (new : List Entry) → P e → IsCalled g me e a new → GoesOn P me new
goes_called P g me e a new p c = subst (GoesOn P me) (sym c.step.after) (one (leaves a))
  where
    one : (b : Bool) → GoesOn P me (if b then entry_of me.number e a ∷ c.before else c.before)
    one true = record {
      more = entry_of me.number e a ∷ c.follows.0;
      on = ap (λ t. entry_of me.number e a ∷ t) c.follows.1;
      own = (λ named. (refl, p), of_others P me.names me.number c.follows.0 c.follows.2);
    }
    one false = goes_follows P me c.before c.follows

pub goes_both : (P : Event → Type 0) (me mid : Knowledge) (new : List Entry) → IsOn me mid → GoesOn P me mid.front → GoesOn P mid new → GoesOn P me new
goes_both P me mid new on h k =
    let number : mid.number ≡ me.number = ap (λ (x : Knowledge). x.number) on in
    let names : mid.names ≡ me.names = ap (λ (x : Knowledge). x.names) on in
    record {
      more = k.more ++ h.more;
      on = k.on ∙ (ap (λ t. k.more ++ t) h.on ∙ sym (append_assoc k.more h.more me.front));
      own = all_both (IsOwn P me.names me.number) k.more h.more
          (subst (λ n. AllByRecursion (IsOwn P me.names n) k.more) number (subst (λ ns. AllByRecursion (IsOwn P ns mid.number) k.more) names k.own)) h.own;
    }

pub goes_as : (P Q : Event → Type 0) (me : Knowledge) (new : List Entry) → ((e : Event) → P e → Q e) → GoesOn P me new → GoesOn Q me new
goes_as P Q me new f h = record {
  more = h.more;
  on = h.on;
  own = all_as (IsOwn P me.names me.number) (IsOwn Q me.names me.number) (λ x own named. (let o = own named in (o.0, f x.event o.1))) h.more h.own;
}

pub goes_continues : (P : Event → Type 0) (me : Knowledge) (new : List Entry) → GoesOn P me new → Continues me.front new
goes_continues P me new h = (h.more, h.on)
