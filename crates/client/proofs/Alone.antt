-- A caller that is alone.
use Rattle.std.proofs.lemmas.Bool.{cases_lt}
use Rattle.std.proofs.lemmas.Bool.Decides.{nat_tests}
use Rattle.std.specs.List.{AllByRecursion}
use Rattle.std.proofs.Common.{◌≡◌, ◌<◌, ◌≤◌, ◌^◌, ◌⊎◌, inl, inr, ◌∙◌, ℕ, Bool, true, false, true≢false, List, [], ◌∷◌, ◌++◌, length, if◌then◌else◌, refl, sym, ap, subst, arith}
use Rattle.rs_wire.specs.declared.settings.Settings.{Settings}
use Rattle.tape.specs.Answers.{leaves}
use Rattle.tape.specs.Told.{entry_of}
use Rattle.tape.specs.declared.event.Event.{Event}
use Rattle.tape.specs.declared.answer.Answer.{Answer}
use Rattle.tape.specs.declared.answer.Answer.TheVariants as answer
use Rattle.tape.specs.declared.entry.Entry.{Entry}
use Rattle.session_core.specs.Seen.{entries_after}
use Rattle.session_model.specs.Legal.{Fair, Legal}
use Rattle.session_laws.specs.Streams.{IsLawful}
use Rattle.conn_lock.specs.Callers.{IsOthers, calls, times}
use Rattle.conn_shared.specs.Calls.{IsCalled, IsStep}
use Rattle.conn_shared.specs.Lines.{who_of}
use Rattle.conn_shared.specs.Members.{Continues, Follows, Knowledge}
use Rattle.link_model.specs.Carrying.{IsAlone, is_of}
use Rattle.call_model.specs.Ran.{HasPlace}
use Rattle.client.specs.Alone.{AreNamed, IsOwn}

pub all_rest : {A : Type 0} (P : A → Type 0) (xs ys : List A) → AllByRecursion P (xs ++ ys) → AllByRecursion P xs × AllByRecursion P ys
all_rest P [] ys h = (tt, h)
all_rest P (x ∷ xs) ys h = let rest = all_rest P xs ys h.1 in ((h.0, rest.0), rest.1)

-- an entry counts among those of its own number
pub counted : (x : Entry) (more : List Entry) → 0 < calls who_of x.who (x ∷ more)
counted x more = grind (arith, nat_tests)

none_else : (names : List ℕ) (others : List Entry) → IsOthers who_of names others → AreNamed names others → others ≡ []
none_else names [] o all = refl
none_else names (x ∷ others) o all = let some = counted x others in let none = o x.who all.0 in absurd (omega arith)

pub follows_alone : (names : List ℕ) (old new : List Entry) → Follows names old new → AreNamed names new → new ≡ old
follows_alone names old new f all =
    let both = all_rest (λ (x : Entry). 0 < times x.who names) f.0 old (subst (AreNamed names) f.1 all) in
    f.1 ∙ ap (λ (o : List Entry). o ++ old) (none_else names f.0 f.2 both.0)

pub before_named : (names : List ℕ) (n : ℕ) (e : Event) (a : Answer) (past : List Entry) → AreNamed names (entries_after n e a past) → AreNamed names past
before_named names n e a past = one (leaves a)
  where
    one : (b : Bool) → AreNamed names (if b then entry_of n e a ∷ past else past) → AreNamed names past
    one true h = h.1
    one false h = h

pub called_alone : (g : Settings) (me : Knowledge) (e : Event) (a : Answer) (new : List Entry) → IsCalled g me e a new → AreNamed me.names new → new ≡ entries_after me.number e a me.front
called_alone g me e a new c all =
    let before : c.before ≡ me.front = follows_alone me.names me.front c.before c.follows (before_named me.names me.number e a c.before (subst (AreNamed me.names) c.step.after all)) in
    c.step.after ∙ ap (entries_after me.number e a) before

-- ---- one call of it

-- its own entry was added, or none
pub record Adds (me : Knowledge) (e : Event) (a : Answer) (new : List Entry) : Type 0 where
  pub step : IsStep me.of.settings me.number me.front e a new
  pub came : ((leaves a ≡ false) × (new ≡ me.front)) ⊎ ((leaves a ≡ true) × (new ≡ entry_of me.number e a ∷ me.front) × HasPlace me.front)

pub called_step : (g : Settings) (me : Knowledge) (e : Event) (a : Answer) (new : List Entry) → (c : IsCalled g me e a new) → AreNamed me.names new → IsStep g me.number me.front e a new
called_step g me e a new c all =
    let before : c.before ≡ me.front = follows_alone me.names me.front c.before c.follows (before_named me.names me.number e a c.before (subst (AreNamed me.names) c.step.after all)) in
    subst (λ (l : List Entry). IsStep g me.number l e a new) before c.step

-- an answer other than that of a full tape has a place before it
full_leaves : (a : Answer) → a ≡ answer.TapeFull → leaves a ≡ false
full_leaves a is = ap leaves is

has_place : (g : Settings) (n : ℕ) (past : List Entry) (e : Event) (a : Answer) (new : List Entry) → IsStep g n past e a new → leaves a ≡ true → HasPlace past
has_place g n past e a new s some = by (cases_lt (length past) (2 ^ 63))
  where
    by : (length past < 2 ^ 63) ⊎ (2 ^ 63 ≤ length past) → HasPlace past
    by (inl lt) = lt
    by (inr ge) = absurd (true≢false (sym some ∙ full_leaves a (s.full.1 ge)))

pub step_adds : (me : Knowledge) (e : Event) (a : Answer) (new : List Entry) → IsStep me.of.settings me.number me.front e a new → Adds me e a new
step_adds me e a new s = record { step = s; came = by (leaves a) refl }
  where
    by : (b : Bool) → leaves a ≡ b → ((leaves a ≡ false) × (new ≡ me.front)) ⊎ ((leaves a ≡ true) × (new ≡ entry_of me.number e a ∷ me.front) × HasPlace me.front)
    by false none = inl (none, s.after ∙ ap (λ b. if b then entry_of me.number e a ∷ me.front else me.front) none)
    by true some = inr (some, s.after ∙ ap (λ b. if b then entry_of me.number e a ∷ me.front else me.front) some, has_place me.of.settings me.number me.front e a new s some)

-- ---- what is its own was its own before

pub rest_lawful : (g : Settings) (more past : List Entry) → IsLawful g (more ++ past) → IsLawful g past
unfolding Legal Fair
rest_lawful g [] past h = h
rest_lawful g (x ∷ more) past h = rest_lawful g more past (record { legal = h.legal.0; fair = h.fair.0 })

-- the same caller but for what it has seen
abbrev pub IsSame : Knowledge → Knowledge → Type 0
IsSame was now = now ≡ record was { front = now.front; note = now.note }

pub own_before : (was now : Knowledge) → IsSame was now → Continues was.front now.front → IsOwn now → IsOwn was
own_before was now same later h = record {
  sole = record {
    named = subst (λ (k : Knowledge). 0 < times k.number k.names) same h.sole.named;
    all = (all_rest (λ (x : Entry). 0 < times x.who was.names) later.0 was.front (subst (AreNamed was.names) later.1 (subst (λ (k : Knowledge). AreNamed k.names now.front) same h.sole.all))).1;
    alone = λ c. (all_rest (λ (x : Entry). is_of c x.event ≡ true → x.who ≡ was.number) later.0 was.front (subst (IsAlone c was.number) later.1 (subst (λ (k : Knowledge). IsAlone c k.number now.front) same (h.sole.alone c)))).1;
  };
  lawful = rest_lawful was.of.settings later.0 was.front (subst (IsLawful was.of.settings) later.1 (subst (λ (k : Knowledge). IsLawful k.of.settings now.front) same h.lawful));
}

-- by its names alone
pub own_named : (was now : Knowledge) → IsSame was now → IsOwn now → AreNamed was.names now.front
own_named was now same h = subst (λ (k : Knowledge). AreNamed k.names now.front) same h.sole.all

pub own_lawful : (was now : Knowledge) → IsSame was now → IsOwn now → IsLawful was.of.settings now.front
own_lawful was now same h = subst (λ (k : Knowledge). IsLawful k.of.settings now.front) same h.lawful

step_continues : (n : ℕ) (e : Event) (a : Answer) (past : List Entry) → Continues past (entries_after n e a past)
step_continues n e a past = one (leaves a)
  where
    one : (b : Bool) → Continues past (if b then entry_of n e a ∷ past else past)
    one true = (entry_of n e a ∷ [], refl)
    one false = ([], refl)

-- a call of a sole caller
pub own_call : (g : Settings) (was now : Knowledge) (e : Event) (a : Answer) → was.of.settings ≡ g → IsSame was now → IsCalled g was e a now.front → IsOwn now → IsOwn was × Adds was e a now.front
own_call g was now e a is same c h =
    let s = called_step g was e a now.front c (own_named was now same h) in (
      own_before was now same (subst (Continues was.front) (sym s.after) (step_continues was.number e a was.front)) h,
      step_adds was e a now.front (subst (λ (t : Settings). IsStep t was.number was.front e a now.front) (sym is) s),
    )

-- a look of it
pub own_follows : (was now : Knowledge) → IsSame was now → Follows was.names was.front now.front → IsOwn now → IsOwn was × (now.front ≡ was.front)
own_follows was now same f h =
    let one = follows_alone was.names was.front now.front f (own_named was now same h) in
    (own_before was now same ([], one) h, one)
