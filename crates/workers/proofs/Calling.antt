-- A call of a worker, in the courses of the streams.
use Rattle.std.specs.List.{AllByRecursion}
use Rattle.std.proofs.lemmas.Bool.Decides.{nat_tests}
use Rattle.std.proofs.Common.{◌≡◌, ◌<◌, ◌≤◌, ◌^◌, ◌∙◌, ℕ, zero, suc, Bool, true, false, if◌then◌else◌, nat_lt, List, [], ◌∷◌, ◌++◌, length, Option, Some, None, inl, inr, ◌⊎◌, refl, sym, ap, subst, arith, append-nil}
use Rattle.rs_wire.specs.declared.settings.Settings.{Settings}
use Rattle.rs_wire.specs.declared.delivery.Delivery.{Delivery}
use Rattle.rs_wire.specs.declared.delivery.Job.{Job}
use Rattle.rs_wire.specs.declared.fault.Refusal.{Refusal}
use Rattle.rs_wire.specs.declared.call.Call.{Call}
use Rattle.rs_wire.specs.declared.call.Call.TheVariants as call
use Rattle.tape.specs.Answers.{leaves}
use Rattle.tape.specs.Told.{entry_of}
use Rattle.tape.specs.declared.event.Event.TheVariants as event
use Rattle.tape.specs.declared.answer.Answer.{Answer}
use Rattle.tape.specs.declared.answer.Answer.TheVariants as answer
use Rattle.tape.specs.declared.entry.Entry.{Entry}
use Rattle.session_model.specs.Answers.{Facts, accepted as accepted_call, answer_to, facts, got, got_job, refused_call, refused_or}
use Rattle.session_core.specs.Seen.{IsOrOutOfMemory, entries_after}
use Rattle.handlers.specs.Listed.{Listed}
use Rattle.conn_lock.specs.Callers.{IsOthers, once, times}
use Rattle.conn_shared.specs.Lines.{who_of}
use Rattle.conn_shared.specs.Members.{Knowledge}
use Rattle.conn_shared.specs.Calls.{IsCalled}
use Rattle.workers.specs.Causes.{IsRight, WasAnswered}
use Rattle.workers.specs.Courses.{GoesOn, HasReplied, IsWorkersCall, accepted, accepted_of, after_call, course, is_done, is_named}
use Rattle.workers.specs.Serving.{IsServed, Serving}
use Rattle.workers.proofs.Fronts.{IsOwn}
use Rattle.workers.specs.Going.{MayAnswer, told}

-- ---- entries of others

once_same : (n : ℕ) → once n n ≡ 1
once_same n = grind (arith, nat_tests)

not_above : (n : ℕ) → (0 < n → ⊥) → nat_lt 0 n ≡ false
not_above zero none = refl
not_above (suc n) none = absurd (none (omega arith))

pub not_mine : (names : List ℕ) (x : Entry) (others : List Entry) → IsOthers who_of names (x ∷ others) → 0 < times x.who names → ⊥
not_mine names x others none named = let o = once_same x.who in let n = none x.who named in omega arith

unnamed : (names : List ℕ) (x : Entry) (others : List Entry) → IsOthers who_of names (x ∷ others) → is_named names x.who ≡ false
unnamed names x others none = not_above (times x.who names) (not_mine names x others none)

fewer : (names : List ℕ) (x : Entry) (others : List Entry) → IsOthers who_of names (x ∷ others) → IsOthers who_of names others
fewer names x others none = λ y named. let n = none y named in omega arith

pub course_others : (names : List ℕ) (s : ℕ) (others old : List Entry) → IsOthers who_of names others → course names s (others ++ old) ≡ course names s old
unfolding course
course_others names s [] old none = refl
course_others names s (x ∷ others) old none = rw (unnamed names x others none) (course_others names s others old (fewer names x others none))

-- where no entry carries one of the names, no job was got
pub serving_begins : (names : List ℕ) (past : List Entry) (routes : List Listed) → IsOthers who_of names past → Serving names past routes []
unfolding course
serving_begins names past routes none s =
    subst (λ c. IsServed routes (length past) s c [])
    (sym (ap (course names s) (sym (append-nil past)) ∙ course_others names s past [] none)) refl

-- ---- the caller's own entry

course_own : (names : List ℕ) (n s : ℕ) (asked : Call) (a : Answer) (before : List Entry) (b : Bool) → 0 < times n names
    → course names s (if b then entry_of n (event.Asked asked) a ∷ before else before) ≡ (if b then after_call s asked a (course names s before) else course names s before)
unfolding course
course_own names n s asked a before false named = refl
course_own names n s asked a before true named = let is : is_named names n ≡ true = grind (arith, nat_tests) in rw is refl

pub course_told : (g : Settings) (me : Knowledge) (asked : Call) (a : Answer) (new : List Entry) → 0 < times me.number me.names → IsCalled g me (event.Asked asked) a new
    → (s : ℕ) → course me.names s new ≡ told s asked a (course me.names s me.front)
course_told g me asked a new named c s =
    ap (course me.names s) c.step.after ∙ (course_own me.names me.number s asked a c.before (leaves a) named
    ∙ ap (told s asked a) (ap (course me.names s) c.follows.1 ∙ course_others me.names s c.follows.0 me.front c.follows.2))

-- ---- which entries a call adds

module _ (P : Call → Type 0) (names : List ℕ) (number : ℕ) where
  others_own : (others : List Entry) → IsOthers who_of names others → AllByRecursion (IsOwn P names number) others
  others_own [] none = tt
  others_own (x ∷ others) none = ((λ named. absurd (not_mine names x others none named)), others_own others (fewer names x others none))

accepted_others : (names : List ℕ) (others : List Entry) → IsOthers who_of names others → accepted names others ≡ []
accepted_others names [] none = refl
accepted_others names (x ∷ others) none = rw (unnamed names x others none) (accepted_others names others (fewer names x others none))

accepted_own : (names : List ℕ) (n : ℕ) (asked : Call) (a : Answer) (more : List Entry) → 0 < times n names
    → accepted names (entry_of n (event.Asked asked) a ∷ more) ≡ accepted_of asked a ++ accepted names more
accepted_own names n asked a more named = let is : is_named names n ≡ true = grind (arith, nat_tests) in rw is refl

not_done : (a : Answer) → leaves a ≡ false → is_done a ≡ false
not_done answer.Done h = absurd (cc)
not_done _ h = refl

unaccepted : (asked : Call) (a : Answer) → leaves a ≡ false → accepted_of asked a ≡ []
unaccepted (call.Next s message complete) a h = rw (not_done a h) refl
unaccepted (call.Done s) a h = rw (not_done a h) refl
unaccepted (call.Fail s code content) a h = rw (not_done a h) refl
unaccepted (call.Take s) a h = refl
unaccepted call.TakeJob a h = refl
unaccepted (call.Request kind initial message complete) a h = refl
unaccepted (call.Grant s n) a h = refl
unaccepted (call.Cancel s) a h = refl
unaccepted (call.Push metadata) a h = refl
unaccepted (call.Lease ttl count metadata) a h = refl
unaccepted call.Close a h = refl

pub goes_call : (g : Settings) (me : Knowledge) (asked : Call) (a : Answer) (new : List Entry) → 0 < times me.number me.names → IsCalled g me (event.Asked asked) a new
    → GoesOn (λ c. c ≡ asked) me.names me.number me.front new (length (accepted_of asked a))
goes_call g me asked a new named c = by (leaves a) refl c.step.after
  where
    none : accepted me.names c.follows.0 ≡ []
    none = accepted_others me.names c.follows.0 c.follows.2

    by : (b : Bool) → leaves a ≡ b → new ≡ (if b then entry_of me.number (event.Asked asked) a ∷ c.before else c.before) → GoesOn (λ v. v ≡ asked) me.names me.number me.front new (length (accepted_of asked a))
    by true is after = record {
      more = entry_of me.number (event.Asked asked) a ∷ c.follows.0;
      on = after ∙ ap (λ es. entry_of me.number (event.Asked asked) a ∷ es) c.follows.1;
      own = ((λ mine. (refl, refl)), others_own (λ v. v ≡ asked) me.names me.number c.follows.0 c.follows.2);
      count = ap length (accepted_own me.names me.number asked a c.follows.0 named ∙ (ap (λ cs. accepted_of asked a ++ cs) none ∙ append-nil (accepted_of asked a)));
    }
    by false is after = record {
      more = c.follows.0;
      on = after ∙ c.follows.1;
      own = others_own (λ v. v ≡ asked) me.names me.number c.follows.0 c.follows.2;
      count = ap length (none ∙ sym (unaccepted asked a is));
    }

-- the replies that a call adds are those that were accepted
pub replied_call : (g : Settings) (me : Knowledge) (asked : Call) (a : Answer) (new : List Entry) → 0 < times me.number me.names → IsCalled g me (event.Asked asked) a new
    → HasReplied me.names me.front new (accepted_of asked a)
replied_call g me asked a new named c = by (leaves a) refl c.step.after
  where
    none : accepted me.names c.follows.0 ≡ []
    none = accepted_others me.names c.follows.0 c.follows.2

    by : (b : Bool) → leaves a ≡ b → new ≡ (if b then entry_of me.number (event.Asked asked) a ∷ c.before else c.before) → HasReplied me.names me.front new (accepted_of asked a)
    by true is after = record {
      more = entry_of me.number (event.Asked asked) a ∷ c.follows.0;
      on = after ∙ ap (λ es. entry_of me.number (event.Asked asked) a ∷ es) c.follows.1;
      replied = accepted_own me.names me.number asked a c.follows.0 named ∙ (ap (λ cs. accepted_of asked a ++ cs) none ∙ append-nil (accepted_of asked a));
    }
    by false is after = record { more = c.follows.0; on = after ∙ c.follows.1; replied = none ∙ sym (unaccepted asked a is) }

-- ---- what was answered

pub was_answered : (g : Settings) (me : Knowledge) (asked : Call) (a : Answer) (new : List Entry) → IsCalled g me (event.Asked asked) a new → WasAnswered g me.number me.front new asked a
unfolding IsRight
was_answered g me asked a new c = record {
  before = c.before;
  since = (c.follows.0, c.follows.1);
  up_to = ([], c.step.after);
  answered = c.step.answered;
  full = c.step.full;
}

-- ---- the answers of a worker's calls

pub right_or : (a right : Answer) → IsOrOutOfMemory a right → (a ≡ right) ⊎ (a ≡ answer.TapeFull) ⊎ (a ≡ answer.OutOfMemory)
right_or answer.TapeFull right h = inr (inl refl)
right_or answer.OutOfMemory right h = inr (inr refl)
right_or _ right h = inl h

got_may : (s : ℕ) (d : Option Delivery) → MayAnswer (call.Take s) (got d)
got_may s None = tt
got_may s (Some d) = tt

job_may : (j : Option Job) → MayAnswer call.TakeJob (got_job j)
job_may None = tt
job_may (Some j) = tt

accepted_may : (g : Settings) (t : Facts) (asked : Call) (o : Option Refusal) → IsWorkersCall asked → MayAnswer asked (refused_or o (accepted_call g t asked))
accepted_may g t (call.Take s) None h = got_may s _
accepted_may g t call.TakeJob None h = job_may _
accepted_may g t (call.Next s message complete) None h = tt
accepted_may g t (call.Done s) None h = tt
accepted_may g t (call.Fail s code content) None h = tt
accepted_may g t (call.Take s) (Some why) h = tt
accepted_may g t call.TakeJob (Some why) h = tt
accepted_may g t (call.Next s message complete) (Some why) h = tt
accepted_may g t (call.Done s) (Some why) h = tt
accepted_may g t (call.Fail s code content) (Some why) h = tt
accepted_may g t (call.Request kind initial message complete) o h = absurd h
accepted_may g t (call.Grant s n) o h = absurd h
accepted_may g t (call.Cancel s) o h = absurd h
accepted_may g t (call.Push metadata) o h = absurd h
accepted_may g t (call.Lease ttl count metadata) o h = absurd h
accepted_may g t call.Close o h = absurd h

full_may : (asked : Call) → IsWorkersCall asked → MayAnswer asked answer.TapeFull × MayAnswer asked answer.OutOfMemory
full_may (call.Take s) h = (tt, tt)
full_may call.TakeJob h = (tt, tt)
full_may (call.Next s message complete) h = (tt, tt)
full_may (call.Done s) h = (tt, tt)
full_may (call.Fail s code content) h = (tt, tt)
full_may (call.Request kind initial message complete) h = absurd h
full_may (call.Grant s n) h = absurd h
full_may (call.Cancel s) h = absurd h
full_may (call.Push metadata) h = absurd h
full_may (call.Lease ttl count metadata) h = absurd h
full_may call.Close h = absurd h

pub may_answer : (g : Settings) (me : Knowledge) (asked : Call) (a : Answer) (new : List Entry) → IsWorkersCall asked → IsCalled g me (event.Asked asked) a new → MayAnswer asked a
may_answer g me asked a new workers c = elim (right_or a (answer_to g c.before (event.Asked asked)) c.step.answered) [
  | inl is ↦ subst (MayAnswer asked) (sym is) (accepted_may g (facts g c.before) asked (refused_call g (facts g c.before) asked) workers)
  | inr (inl is) ↦ subst (MayAnswer asked) (sym is) (full_may asked workers).0
  | inr (inr is) ↦ subst (MayAnswer asked) (sym is) (full_may asked workers).1
]

-- a tape is full exactly at its 2 ^ 63rd entry
pub full_at : (g : Settings) (me : Knowledge) (asked : Call) (a : Answer) (new : List Entry) → IsCalled g me (event.Asked asked) a new → a ≡ answer.TapeFull → 2 ^ 63 ≤ length new
full_at g me asked a new c is = subst (λ es. 2 ^ 63 ≤ length es) (sym (c.step.after ∙ ap (λ b. entries_after me.number (event.Asked asked) b c.before) is)) (c.step.full.0 is)
