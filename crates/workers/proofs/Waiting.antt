-- What a worker keeps, over entries that are no calls of a worker, and over names that were joined.
use Rattle.std.proofs.lemmas.Bool.Decides.{nat_tests}
use Rattle.std.proofs.Common.{◌≡◌, ◌<◌, ◌≤◌, ◌+◌, ◌==◌, ◌∙◌, ◌⊎◌, inl, inr, ℕ, Bool, true, false, if◌then◌else◌, List, [], ◌∷◌, ◌++◌, length, refl, sym, ap, subst, arith, append-nil}
use Rattle.rs_wire.specs.declared.call.Call.{Call}
use Rattle.rs_wire.specs.declared.call.Call.TheVariants as call
use Rattle.tape.specs.declared.event.Event.{Event}
use Rattle.tape.specs.declared.event.Event.TheVariants as event
use Rattle.tape.specs.declared.answer.Answer.{Answer}
use Rattle.tape.specs.declared.entry.Entry.{Entry}
use Rattle.conn_lock.specs.Callers.{IsOthers, times}
use Rattle.conn_shared.specs.Lines.{who_of}
use Rattle.conn_shared.specs.Members.{Follows}
use Rattle.handlers.specs.Listed.{Listed}
use Rattle.workers.specs.declared.job.OpenJob.{OpenJob}
use Rattle.workers.specs.Courses.{Course, IsNoWork, IsWorkersCall, Under, after_event, course, is_named, no_course}
use Rattle.workers.specs.Serving.{IsServed, Serving, jobs_on}
use Rattle.workers.proofs.Calling.{course_others, not_mine}
use Rattle.workers.proofs.Fronts.{all_append, named_above}
use Rattle.workers.proofs.Jobs.{served_longer}

-- ---- entries that are no calls of a worker

same_call : (s : ℕ) (asked : Call) (a : Answer) (c : Course) → (IsWorkersCall asked → ⊥) → after_event s (event.Asked asked) a c ≡ c
same_call s (call.Take q) a c none = absurd (none tt)
same_call s call.TakeJob a c none = absurd (none tt)
same_call s (call.Next q message complete) a c none = absurd (none tt)
same_call s (call.Done q) a c none = absurd (none tt)
same_call s (call.Fail q code content) a c none = absurd (none tt)
same_call s _ a c none = refl

same_event : (s : ℕ) (e : Event) (a : Answer) (c : Course) → IsNoWork e → after_event s e a c ≡ c
same_event s (event.Asked asked) a c none = same_call s asked a c none
same_event s _ a c none = refl

course_by : (names : List ℕ) (s : ℕ) (x : Entry) (past : List Entry) → (0 < times x.who names → IsNoWork x.event) → course names s (x ∷ past) ≡ course names s past
unfolding course
course_by names s x past none = by (is_named names x.who) refl
  where
    by : (b : Bool) → is_named names x.who ≡ b → (if b then after_event s x.event x.answer (course names s past) else course names s past) ≡ course names s past
    by true is = same_event s x.event x.answer (course names s past) (none (named_above names x.who is))
    by false is = refl

course_since : (names : List ℕ) (s : ℕ) (more past : List Entry) → Under names (λ x. IsNoWork x.event) more → course names s (more ++ past) ≡ course names s past
course_since names s [] past none = refl
course_since names s (x ∷ more) past none = course_by names s x (more ++ past) none.0 ∙ course_since names s more past none.1

longer : (more past : List Entry) → length past ≤ length (more ++ past)
longer [] past = omega arith
longer (x ∷ more) past = omega (arith, longer more past)

pub serving_waits : (names : List ℕ) (past more : List Entry) (routes : List Listed) (work : List OpenJob) → Under names (λ x. IsNoWork x.event) more → Serving names past routes work → Serving names (more ++ past) routes work
serving_waits names past more routes work none h s =
    subst (λ c. IsServed routes (length (more ++ past)) s c (jobs_on s work)) (sym (course_since names s more past none))
    (served_longer routes (length past) (length (more ++ past)) s (course names s past) (jobs_on s work) (longer more past) (h s))

-- ---- names that were joined

times-append : (n : ℕ) (xs ys : List ℕ) → times n (xs ++ ys) ≡ times n xs + times n ys
times-append n [] ys = omega arith
times-append n (x ∷ xs) ys = let rest = times-append n xs ys in omega arith

named_none : (names : List ℕ) (n : ℕ) → is_named names n ≡ false → times n names ≡ 0
named_none names n is = grind (arith, nat_tests)

course_joined : (a b : List ℕ) (s : ℕ) (past : List Entry) → Under b (λ x. IsNoWork x.event) past → course (a ++ b) s past ≡ course a s past
unfolding course
course_joined a b s [] none = refl
course_joined a b s (x ∷ past) none = by (course_joined a b s past none.1) (is_named (a ++ b) x.who) (is_named a x.who) refl refl
  where
    all : times x.who (a ++ b) ≡ times x.who a + times x.who b
    all = times-append x.who a b

    by : course (a ++ b) s past ≡ course a s past → (p q : Bool) → is_named (a ++ b) x.who ≡ p → is_named a x.who ≡ q
        → (if p then after_event s x.event x.answer (course (a ++ b) s past) else course (a ++ b) s past) ≡ (if q then after_event s x.event x.answer (course a s past) else course a s past)
    by rest true true p q = ap (after_event s x.event x.answer) rest
    by rest true false p q =
        let some : 0 < times x.who (a ++ b) = named_above (a ++ b) x.who p in
        let not_first : times x.who a ≡ 0 = named_none a x.who q in
        let second : 0 < times x.who b = omega (arith, all, some, not_first) in
        same_event s x.event x.answer (course (a ++ b) s past) (none.0 second) ∙ rest
    by rest false true p q =
        let not_all : times x.who (a ++ b) ≡ 0 = named_none (a ++ b) x.who p in
        let first : 0 < times x.who a = named_above a x.who q in
        absurd (omega (arith, all, not_all, first))
    by rest false false p q = rest

others_under : (P : Entry → Type 0) (names : List ℕ) (others : List Entry) → IsOthers who_of names others → Under names P others
others_under P names [] none = tt
others_under P names (x ∷ others) none = ((λ named. absurd (not_mine names x others none named)), others_under P names others (λ y named. let n = none y named in omega arith))

pub serving_joined : (a b : List ℕ) (x y list : List Entry) (routes : List Listed) (work : List OpenJob) → Follows a x list → Follows b y list → Under b (λ e. IsNoWork e.event) y → Serving a x routes work
    → Serving (a ++ b) list routes work
serving_joined a b x y list routes work after_a after_b none h s =
    let idle : Under b (λ e. IsNoWork e.event) list =
    subst (Under b (λ e. IsNoWork e.event)) (sym after_b.1)
    (all_append (λ (e : Entry). 0 < times e.who b → IsNoWork e.event) after_b.0 y (others_under (λ e. IsNoWork e.event) b after_b.0 after_b.2) none) in
    let went : course (a ++ b) s list ≡ course a s x = course_joined a b s list idle ∙ (ap (course a s) after_a.1 ∙ course_others a s after_a.0 x after_a.2) in
    let more : length x ≤ length list = subst (λ es. length x ≤ length es) (sym after_a.1) (longer after_a.0 x) in
    subst (λ c. IsServed routes (length list) s c (jobs_on s work)) (sym went)
    (served_longer routes (length x) (length list) s (course a s x) (jobs_on s work) more (h s))

-- ---- one name among others

one_name : (n m : ℕ) → is_named (n ∷ []) m ≡ true → m ≡ n
one_name n m is = by (n == m) refl (named_above (n ∷ []) m is)
  where
    by : (b : Bool) → (n == m) ≡ b → 0 < (if b then 1 else 0) + 0 → m ≡ n
    by true same h = grind (arith, nat_tests)
    by false differs h = absurd (omega arith)

name_here : (n m : ℕ) → m ≡ n → is_named (n ∷ []) m ≡ true
name_here n m is = grind (arith, nat_tests)

pub course_of_one : (names : List ℕ) (n s : ℕ) (past : List Entry) → Under names (λ x. IsNoWork x.event ⊎ (x.who ≡ n)) past → 0 < times n names → course names s past ≡ course (n ∷ []) s past
unfolding course
course_of_one names n s [] own named = refl
course_of_one names n s (x ∷ past) own named = by (course_of_one names n s past own.1 named) (is_named names x.who) (is_named (n ∷ []) x.who) refl refl
  where
    idle : (is_named (n ∷ []) x.who ≡ false) → IsNoWork x.event ⊎ (x.who ≡ n) → IsNoWork x.event
    idle q (inl none) = none
    idle q (inr is) = absurd (let t : is_named (n ∷ []) x.who ≡ true = name_here n x.who is in cc)

    by : course names s past ≡ course (n ∷ []) s past → (p q : Bool) → is_named names x.who ≡ p → is_named (n ∷ []) x.who ≡ q
        → (if p then after_event s x.event x.answer (course names s past) else course names s past) ≡ (if q then after_event s x.event x.answer (course (n ∷ []) s past) else course (n ∷ []) s past)
    by rest true true p q = ap (after_event s x.event x.answer) rest
    by rest true false p q = same_event s x.event x.answer (course names s past) (idle q (own.0 (named_above names x.who p))) ∙ rest
    by rest false true p q =
        let none : times x.who names ≡ 0 = named_none names x.who p in
        let there : 0 < times x.who names = subst (λ m. 0 < times m names) (sym (one_name n x.who q)) named in
        absurd (omega arith)
    by rest false false p q = rest

pub course_of_none : (names : List ℕ) (s : ℕ) (past : List Entry) → Under names (λ x. IsNoWork x.event) past → course names s past ≡ no_course
unfolding course
course_of_none names s past none = ap (course names s) (sym (append-nil past)) ∙ course_since names s past [] none
