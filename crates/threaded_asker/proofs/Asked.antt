-- What calls add.
use Rattle.std.specs.List.{AllByRecursion}
use Rattle.std.proofs.lemmas.Bool.{eq-eqb}
use Rattle.std.proofs.Common.{◌≡◌, ◌<◌, ◌≤◌, ◌+◌, ◌==◌, ◌⊎◌, inl, inr, ℕ, suc, Bool, true, false, if◌then◌else◌, cond, Option, Some, None, List, [], ◌∷◌, ◌++◌, length, drop, get_or, replicate, refl, ap, subst, sym, ◌∙◌, arith, append_assoc, append-nil, drop-cons, add-one}
use Rattle.std.proofs.lemmas.List.{drop_all, replicate-append-replicate}
use Rattle.rs_wire.specs.declared.call.Call.{Call}
use Rattle.rs_wire.specs.declared.call.Call.TheVariants as call
use Rattle.rs_wire.specs.declared.fault.Refusal.{Refusal}
use Rattle.rs_wire.specs.declared.words.Side.{Side}
use Rattle.rs_wire.specs.declared.settings.Settings.{Settings}
use Rattle.tape.specs.Answers.{is_out_of_memory, leaves}
use Rattle.tape.specs.Told.{entry_of}
use Rattle.tape.specs.declared.answer.Answer.{Answer}
use Rattle.tape.specs.declared.answer.Answer.TheVariants as answer
use Rattle.tape.specs.declared.entry.Entry.{Entry}
use Rattle.tape.specs.declared.event.Event.{Event}
use Rattle.tape.specs.declared.event.Event.TheVariants as event
use Rattle.session_model.specs.Answers.{Facts, accepted, answer_to, facts, refused_call, refused_or, to_call}
use Rattle.session_core.specs.Seen.{IsOrOutOfMemory, entries_after}
use Rattle.conn_lock.specs.Callers.{calls, once, times}
use Rattle.conn_shared.specs.Calls.{IsCalled}
use Rattle.conn_shared.specs.Lines.{who_of}
use Rattle.conn_shared.specs.Members.{Follows, Knowledge}
use Rattle.cable_script.specs.declared.line.Line.{Line}
use Rattle.cable_script.specs.declared.line.Line.TheVariants as line
use Rattle.threaded_model.specs.Threaded.{ButTakes, asked_in, calls_in, calls_of, is_asked, is_taking}
use Rattle.threaded_asker.specs.Asking.{Adds, HasAsked, HasOnlyAsked, OnlyAsks, asked_at, asked_by}

-- ---- calls that left entries

pub takes_both : (xs ys a b : List Call) → ButTakes xs a → ButTakes ys b → ButTakes (xs ++ ys) (a ++ b)
unfolding ButTakes
takes_both [] ys a b h k = subst (λ (n : List Call). ButTakes ys (n ++ b)) (sym h) k
takes_both (x ∷ xs) ys a b (inl h) k = inl (h.0 ++ b, ap (λ n. n ++ b) h.1, takes_both xs ys h.0 b h.2 k)
takes_both (x ∷ xs) ys a b (inr h) k = inr (h.0, takes_both xs ys a b h.1 k)

takes_none : ButTakes [] []
unfolding ButTakes
takes_none = refl

takes_one : (c : Call) → ButTakes (c ∷ []) (c ∷ [])
unfolding ButTakes
takes_one c = inl ([], refl, refl)

takes_skip : (c : Call) → is_taking c ≡ true → ButTakes (c ∷ []) []
unfolding ButTakes
takes_skip c t = inr (t, refl)

pub adds_none : (n : ℕ) (past : List Entry) → Adds n [] past past
adds_none n past = record { own = []; noted = sym (append-nil (asked_by n past)); each = takes_none; only = λ h. h }

pub adds_both : (n : ℕ) (xs ys : List Call) (a b c : List Entry) → Adds n xs a b → Adds n ys b c → Adds n (xs ++ ys) a c
adds_both n xs ys a b c h k = record {
  own = h.own ++ k.own;
  noted = k.noted ∙ (ap (λ l. l ++ k.own) h.noted ∙ append_assoc (asked_by n a) h.own k.own);
  each = takes_both xs ys h.own k.own h.each k.each;
  only = λ o. k.only (h.only o);
}

-- ---- entries of others

other_test : (b : Bool) (k : ℕ) → cond {A = ℕ} b 1 0 + k ≡ 0 → b ≡ false
other_test true k h = absurd (omega arith)
other_test false k h = refl

other_rest : (b : Bool) (k : ℕ) → cond {A = ℕ} b 1 0 + k ≡ 0 → k ≡ 0
other_rest true k h = absurd (omega arith)
other_rest false k h = omega arith

none_at : (b : Bool) (cs : List Call) → b ≡ false → (if b then cs else []) ≡ []
none_at true cs h = absurd (cc)
none_at false cs h = refl

pub asked_others : (n : ℕ) (others past : List Entry) → calls who_of n others ≡ 0 → asked_by n (others ++ past) ≡ asked_by n past
unfolding asked_by
asked_others n [] past h = refl
asked_others n (x ∷ others) past h =
    let rest = other_rest (x.who == n) (calls who_of n others) h in
    let none = none_at (x.who == n) (asked_in x.event) (other_test (x.who == n) (calls who_of n others) h) in
    ap (λ l. l ++ asked_at n x) (asked_others n others past rest) ∙ (ap (λ c. asked_by n past ++ c) none ∙ append-nil (asked_by n past))

pub only_others : (n : ℕ) (others past : List Entry) → calls who_of n others ≡ 0 → OnlyAsks n past → OnlyAsks n (others ++ past)
only_others n [] past h o = o
only_others n (x ∷ others) past h o = (
  λ same. absurd (let f = other_test (x.who == n) (calls who_of n others) h in let t = eq-eqb x.who n same in cc),
  only_others n others past (other_rest (x.who == n) (calls who_of n others) h) o,
)

pub others_add : (n : ℕ) (others past : List Entry) → calls who_of n others ≡ 0 → Adds n [] past (others ++ past)
others_add n others past h = record {
  own = [];
  noted = asked_others n others past h ∙ sym (append-nil (asked_by n past));
  each = takes_none;
  only = only_others n others past h;
}

pub follows_adds : (n : ℕ) (names : List ℕ) (old new : List Entry) → 0 < times n names → Follows names old new → Adds n [] old new
follows_adds n names old new named f = subst (Adds n [] old) (sym f.1) (others_add n f.0 old (f.2 n named))

-- ---- a call

adds_own : (n : ℕ) (c : Call) (a : Answer) (past : List Entry) → Adds n (c ∷ []) past (entry_of n (event.Asked c) a ∷ past)
unfolding asked_by
adds_own n c a past = record {
  own = c ∷ [];
  noted = ap (λ (b : Bool). asked_by n past ++ (if b then c ∷ [] else [])) (eq-eqb n n refl);
  each = takes_one c;
  only = λ o. (λ same. refl, o);
}

adds_skip : (n : ℕ) (c : Call) (past : List Entry) → is_taking c ≡ true → Adds n (c ∷ []) past past
adds_skip n c past t = record { own = []; noted = sym (append-nil (asked_by n past)); each = takes_skip c t; only = λ o. o }

leaves_refused : (r : Option Refusal) (next : Answer) → leaves next ≡ true → leaves (refused_or r next) ≡ true
leaves_refused None next h = h
leaves_refused (Some why) next h = refl

-- a call that leaves no entry takes
left_takes : (g : Settings) (t : Facts) (c : Call) → leaves (to_call g t c) ≡ false → is_taking c ≡ true
left_takes g t (call.Take s) no_entry = refl
left_takes g t call.TakeJob no_entry = refl
left_takes g t c no_entry = absurd (let l = leaves_refused (refused_call g t c) (accepted g t c) refl in cc)

answered_is : (a right : Answer) → is_out_of_memory a ≡ false → IsOrOutOfMemory a right → a ≡ right
answered_is answer.TapeFull right n h = absurd (cc)
answered_is answer.OutOfMemory right n h = absurd (cc)
answered_is a right n h = h

step_adds : (g : Settings) (n : ℕ) (c : Call) (a : Answer) (past : List Entry) → is_out_of_memory a ≡ false → IsOrOutOfMemory a (answer_to g past (event.Asked c)) → Adds n (c ∷ []) past (entries_after n (event.Asked c) a past)
step_adds g n c a past no_want right = one (leaves a) refl
  where
    one : (b : Bool) → leaves a ≡ b → Adds n (c ∷ []) past (if b then entry_of n (event.Asked c) a ∷ past else past)
    one true is = adds_own n c a past
    one false is = adds_skip n c past (left_takes g (facts g past) c (ap leaves (sym (answered_is a (answer_to g past (event.Asked c)) no_want right)) ∙ is))

pub called_adds : (g : Settings) (me : Knowledge) (c : Call) (a : Answer) (new : List Entry) → is_out_of_memory a ≡ false → IsCalled g me (event.Asked c) a new → HasAsked me (c ∷ []) new
called_adds g me c a new no_want h = λ named.
    adds_both me.number [] (c ∷ []) me.front h.before new (follows_adds me.number me.names me.front h.before named h.follows)
    (subst (Adds me.number (c ∷ []) h.before) (sym h.step.after) (step_adds g me.number c a h.before no_want h.step.answered))

pub called_only : (g : Settings) (me : Knowledge) (c : Call) (a : Answer) (new : List Entry) → IsCalled g me (event.Asked c) a new → HasOnlyAsked me new
called_only g me c a new h = λ named o.
    let before = (follows_adds me.number me.names me.front h.before named h.follows).only o in
    subst (OnlyAsks me.number) (sym h.step.after) (one (leaves a) before)
  where
    one : (b : Bool) → OnlyAsks me.number h.before → OnlyAsks me.number (if b then entry_of me.number (event.Asked c) a ∷ h.before else h.before)
    one true o = (λ same. refl, o)
    one false o = o

-- ---- calls one after the other

abbrev pub IsOn : Knowledge → Knowledge → Type 0
IsOn was now = now ≡ record was { front = now.front; note = now.note }

pub on_none : (me : Knowledge) → IsOn me me
on_none me = refl

pub on_both : (was mid now : Knowledge) → IsOn was mid → IsOn mid now → IsOn was now
on_both was mid now h k = k ∙ ap (λ (x : Knowledge). record x { front = now.front; note = now.note }) h

pub on_called : (was now : Knowledge) → now ≡ record was { front = now.front; note = None } → IsOn was now
on_called was now h = h ∙ ap (λ (n : Option ℕ). record was { front = now.front; note = n }) (sym (ap (λ (k : Knowledge). k.note) h))

pub asked_none : (me : Knowledge) → HasAsked me [] me.front
asked_none me = λ named. adds_none me.number me.front

pub asked_nothing : (me : Knowledge) (cs : List Call) → cs ≡ [] → HasAsked me cs me.front
asked_nothing me cs none = subst (λ (l : List Call). HasAsked me l me.front) (sym none) (asked_none me)

pub asked_both : (me mid : Knowledge) (xs ys : List Call) (new : List Entry) → IsOn me mid → HasAsked me xs mid.front → HasAsked mid ys new → HasAsked me (xs ++ ys) new
asked_both me mid xs ys new on h k =
    let later : HasAsked (record me { front = mid.front; note = mid.note }) ys new = subst (λ (m : Knowledge). HasAsked m ys new) on k in
    λ named. adds_both me.number xs ys me.front mid.front new (h named) (later named)

pub only_both : (me mid : Knowledge) (new : List Entry) → IsOn me mid → HasOnlyAsked me mid.front → HasOnlyAsked mid new → HasOnlyAsked me new
only_both me mid new on h k =
    let later : HasOnlyAsked (record me { front = mid.front; note = mid.note }) new = subst (λ (m : Knowledge). HasOnlyAsked m new) on k in
    λ named o. later named (h named o)

-- once more the same
pub asked_again : (me mid : Knowledge) (c : Call) (i : ℕ) (new : List Entry) → IsOn me mid → HasAsked me (replicate i c) mid.front → HasAsked mid (c ∷ []) new → HasAsked me (replicate (i + 1) c) new
asked_again me mid c i new on h k = subst (λ (cs : List Call). HasAsked me cs new) (replicate-append-replicate i 1 c) (asked_both me mid (replicate i c) (c ∷ []) new on h k)

-- the line makes no call
abbrev pub IsSilent : Line → Type 0
IsSilent l = ((n : ℕ) × (l ≡ line.Up n)) ⊎ (((n : ℕ) × (l ≡ line.Down n)) ⊎ ((l ≡ line.Drain) ⊎ ((l ≡ line.Cut) ⊎ ((l ≡ line.Open) ⊎ ((l ≡ line.Drop) ⊎ (((n : ℕ) × (l ≡ line.Late n)) ⊎ ((n : ℕ) × (l ≡ line.Tick n))))))))

no_calls : (end : Side) (l : Line) → IsSilent l → calls_in end l ≡ []
no_calls end l (inl h) = ap (calls_in end) h.1
no_calls end l (inr (inl h)) = ap (calls_in end) h.1
no_calls end l (inr (inr (inl h))) = ap (calls_in end) h
no_calls end l (inr (inr (inr (inl h)))) = ap (calls_in end) h
no_calls end l (inr (inr (inr (inr (inl h))))) = ap (calls_in end) h
no_calls end l (inr (inr (inr (inr (inr (inl h)))))) = ap (calls_in end) h
no_calls end l (inr (inr (inr (inr (inr (inr (inl h))))))) = ap (calls_in end) h.1
no_calls end l (inr (inr (inr (inr (inr (inr (inr h))))))) = ap (calls_in end) h.1

pub asked_silent : (me : Knowledge) (end : Side) (l : Line) → IsSilent l → HasAsked me (calls_in end l) me.front
asked_silent me end l h = asked_nothing me (calls_in end l) (no_calls end l h)

-- ---- the lines that are left

-- the calls of the lines that are left make, with those before, the calls of all lines
abbrev pub IsLeft : Side → List Line → ℕ → Knowledge → Knowledge → Type 0
IsLeft side lines i was now = (new : List Entry) → HasAsked now (calls_of side (drop i lines)) new → HasAsked was (calls_of side lines) new

calls_cons : (side : Side) (l : Line) (lines : List Line) → calls_of side (l ∷ lines) ≡ calls_in side l ++ calls_of side lines
unfolding calls_of
calls_cons side l lines = refl

calls_none : (side : Side) → calls_of side [] ≡ []
unfolding calls_of
calls_none side = refl

pub left_on : (side : Side) (lines : List Line) (i : ℕ) (l : Line) (was mid now : Knowledge) → i < length lines → l ≡ get_or lines i l → IsOn mid now → IsLeft side lines i was mid → HasAsked mid (calls_in side l) now.front → IsLeft side lines (i + 1) was now
left_on side lines i l was mid now below at on left h = λ new later.
    let front : drop i lines ≡ l ∷ drop (i + 1) lines = rw (add-one) (drop-cons lines i l below ∙ ap (λ x. x ∷ drop (suc i) lines) (sym at)) in
    left new (subst (λ (cs : List Call). HasAsked mid cs new) (sym (ap (calls_of side) front ∙ calls_cons side l (drop (i + 1) lines)))
    (asked_both mid now (calls_in side l) (calls_of side (drop (i + 1) lines)) new on h later))

pub left_none : (side : Side) (lines : List Line) (i : ℕ) (was now : Knowledge) → length lines ≤ i → IsLeft side lines i was now → HasAsked was (calls_of side lines) now.front
left_none side lines i was now past left =
    left now.front (subst (λ (cs : List Call). HasAsked now cs now.front) (sym (ap (calls_of side) (drop_all i lines past) ∙ calls_none side)) (asked_none now))
