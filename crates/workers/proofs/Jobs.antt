-- The jobs of a work, stream by stream.
use Rattle.std.proofs.Common.{◌≡◌, ◌≤◌, ◌==◌, ◌∙◌, ℕ, Bool, true, false, if◌then◌else◌, List, [], ◌∷◌, ◌++◌, length, inl, inr, ◌⊎◌, refl, sym, ap, subst, arith, append-nil}
use Rattle.std.specs.Prelude.{Option, Some, None}
use Rattle.rs_wire.specs.declared.delivery.Job.{Job}
use Rattle.rs_wire.specs.declared.delivery.Job.TheVariants as job
use Rattle.tape.specs.declared.entry.Entry.{Entry}
use Rattle.handlers.specs.Listed.{Listed}
use Rattle.workers.specs.declared.job.OpenJob.{OpenJob}
use Rattle.workers.specs.Courses.{Course, course}
use Rattle.workers.specs.Serving.{AreRouted, IsFull, IsGone, IsServed, Serving, Stands, jobs_on}
use Rattle.workers.specs.Going.{HasGone}
use Rattle.workers.proofs.Plans.{other_test, same_test, test_other, test_same}

-- ---- the jobs of one stream

pub jobs_here : (s : ℕ) (j : OpenJob) (jobs : List OpenJob) → j.stream ≡ s → jobs_on s (j ∷ jobs) ≡ j ∷ jobs_on s jobs
jobs_here s j jobs is = rw (same_test j.stream s is) refl

pub jobs_there : (s : ℕ) (j : OpenJob) (jobs : List OpenJob) → (j.stream ≡ s → ⊥) → jobs_on s (j ∷ jobs) ≡ jobs_on s jobs
jobs_there s j jobs differs = rw (other_test j.stream s differs) refl

pub jobs-append : (s : ℕ) (xs ys : List OpenJob) → jobs_on s (xs ++ ys) ≡ jobs_on s xs ++ jobs_on s ys
jobs-append s [] ys = refl
jobs-append s (x ∷ xs) ys = by (x.stream == s) (jobs-append s xs ys)
  where
    by : (b : Bool) → jobs_on s (xs ++ ys) ≡ jobs_on s xs ++ jobs_on s ys → (if b then x ∷ jobs_on s (xs ++ ys) else jobs_on s (xs ++ ys)) ≡ (if b then x ∷ jobs_on s xs else jobs_on s xs) ++ jobs_on s ys
    by true rest = ap (λ js. x ∷ js) rest
    by false rest = rest

-- ---- one stream

-- a job among those of a stream that is served is the only one
pub alone : (routes : List Listed) (n s : ℕ) (c : Course) (xs ys : List OpenJob) (j : OpenJob) → IsServed routes n s c (xs ++ j ∷ ys) → (xs ≡ []) × (ys ≡ []) × Stands routes c j
alone routes n s c [] [] j h = (refl, refl, h)
alone routes n s c [] (b ∷ ys) j h = absurd h
alone routes n s c (a ∷ []) ys j h = absurd h
alone routes n s c (a ∷ b ∷ xs) ys j h = absurd h

done_longer : (routes : List Listed) (n m s : ℕ) (c : Course) (o : Option Job) → n ≤ m → IsGone routes n s c o → IsGone routes m s c o
done_longer routes n m s c None le h = h
done_longer routes n m s c (Some (job.Asked q kind initial message complete)) le h = record { replies = h.replies; why = by h.why }
  where
    by : {A B : Type 0} → A ⊎ B ⊎ IsFull n → A ⊎ B ⊎ IsFull m
    by (inl a) = inl a
    by (inr (inl b)) = inr (inl b)
    by (inr (inr full)) = inr (inr (omega arith))
done_longer routes n m s c (Some (job.Pushed metadata)) le h = h

pub served_longer : (routes : List Listed) (n m s : ℕ) (c : Course) (jobs : List OpenJob) → n ≤ m → IsServed routes n s c jobs → IsServed routes m s c jobs
served_longer routes n m s c [] le h = done_longer routes n m s c c.job le h
served_longer routes n m s c (j ∷ []) le h = h
served_longer routes n m s c (j ∷ i ∷ more) le h = h

-- a job of a stream that is served leaves none
pub left_job : (names : List ℕ) (routes : List Listed) (old : List Entry) (before after : List OpenJob) (j : OpenJob) → Serving names old routes (before ++ j ∷ after)
    → (jobs_on j.stream (before ++ after) ≡ []) × Stands routes (course names j.stream old) j
left_job names routes old before after j serving =
    let s = j.stream in
    let all : jobs_on s (before ++ j ∷ after) ≡ jobs_on s before ++ j ∷ jobs_on s after = jobs-append s before (j ∷ after) ∙ ap (λ js. jobs_on s before ++ js) (jobs_here s j after refl) in
    let only = alone routes (length old) s (course names s old) (jobs_on s before) (jobs_on s after) j (subst (IsServed routes (length old) s (course names s old)) all (serving s)) in
    (jobs-append s before after ∙ (ap (λ js. js ++ jobs_on s after) only.0 ∙ only.1), only.2)

-- ---- all streams

-- where no stream's job went on, the statement is as before
pub serving_same : (names : List ℕ) (routes : List Listed) (old new : List Entry) (work : List OpenJob) → ((s : ℕ) → course names s new ≡ course names s old) → length old ≤ length new
    → Serving names old routes work → Serving names new routes work
serving_same names routes old new work same le h s =
    subst (λ c. IsServed routes (length new) s c (jobs_on s work)) (sym (same s)) (served_longer routes (length old) (length new) s (course names s old) (jobs_on s work) le (h s))

-- what is left of a job: itself on its stream, or nothing
pub record IsLeft (s : ℕ) (left : List OpenJob) : Type 0 where
  pub here : jobs_on s left ≡ left
  pub apart : (q : ℕ) → (q ≡ s → ⊥) → jobs_on q left ≡ []

pub none_left : (s : ℕ) → IsLeft s []
none_left s = record { here = refl; apart = λ q differs. refl }

pub one_left : (s : ℕ) (j : OpenJob) → j.stream ≡ s → IsLeft s (j ∷ [])
one_left s j is = record { here = jobs_here s j [] is; apart = λ q differs. jobs_there q j [] (λ e. differs (sym e ∙ is)) }

-- one job of the work went on
pub serving_job : (names : List ℕ) (routes : List Listed) (old new : List Entry) (xs ys : List OpenJob) (j : OpenJob) (left : List OpenJob) → IsLeft j.stream left → HasGone names routes old new j left
    → Serving names old routes (xs ++ j ∷ ys) → Serving names new routes (xs ++ (left ++ ys))
serving_job names routes old new xs ys j left is gone h s = by (s == j.stream) refl
  where
    before : jobs_on s (xs ++ j ∷ ys) ≡ jobs_on s xs ++ jobs_on s (j ∷ ys)
    before = jobs-append s xs (j ∷ ys)

    after : jobs_on s (xs ++ (left ++ ys)) ≡ jobs_on s xs ++ (jobs_on s left ++ jobs_on s ys)
    after = jobs-append s xs (left ++ ys) ∙ ap (λ js. jobs_on s xs ++ js) (jobs-append s left ys)

    here : s ≡ j.stream → IsServed routes (length new) s (course names s new) (jobs_on s (xs ++ (left ++ ys)))
    here e =
        let stands = alone routes (length old) s (course names s old) (jobs_on s xs) (jobs_on s ys) j (subst (IsServed routes (length old) s (course names s old)) (before ∙ ap (λ js. jobs_on s xs ++ js) (jobs_here s j ys (sym e))) (h s)) in
        let left_here : jobs_on s left ≡ left = subst (λ q. jobs_on q left ≡ left) (sym e) is.here in
        let now : jobs_on s (xs ++ (left ++ ys)) ≡ left = after ∙ (ap (λ js. js ++ (jobs_on s left ++ jobs_on s ys)) stands.0 ∙ (ap (λ js. jobs_on s left ++ js) stands.1 ∙ (append-nil (jobs_on s left) ∙ left_here))) in
        subst (IsServed routes (length new) s (course names s new)) (sym now)
        (subst (λ q. IsServed routes (length new) q (course names q new) left) (sym e) (gone.kept (subst (λ q. Stands routes (course names q old) j) e stands.2)))

    there : (s ≡ j.stream → ⊥) → IsServed routes (length new) s (course names s new) (jobs_on s (xs ++ (left ++ ys)))
    there differs =
        let now : jobs_on s (xs ++ (left ++ ys)) ≡ jobs_on s (xs ++ j ∷ ys) = after ∙ (ap (λ js. jobs_on s xs ++ (js ++ jobs_on s ys)) (is.apart s differs) ∙ (ap (λ js. jobs_on s xs ++ js) (sym (jobs_there s j ys (λ e. differs (sym e)))) ∙ sym before)) in
        subst (IsServed routes (length new) s (course names s new)) (sym now)
        (subst (λ c. IsServed routes (length new) s c (jobs_on s (xs ++ j ∷ ys))) (sym (gone.apart s differs)) (served_longer routes (length old) (length new) s (course names s old) (jobs_on s (xs ++ j ∷ ys)) gone.longer (h s)))

    by : (b : Bool) → (s == j.stream) ≡ b → IsServed routes (length new) s (course names s new) (jobs_on s (xs ++ (left ++ ys)))
    by true e = here (test_same s j.stream e)
    by false e = there (λ is. test_other s j.stream e is)

-- ---- routes

pub routed_split : (routes : List Listed) (xs ys : List OpenJob) → AreRouted routes (xs ++ ys) → AreRouted routes xs × AreRouted routes ys
routed_split routes [] ys h = (tt, h)
routed_split routes (x ∷ xs) ys h = let r = routed_split routes xs ys h.1 in ((h.0, r.0), r.1)

pub routed_both : (routes : List Listed) (xs ys : List OpenJob) → AreRouted routes xs → AreRouted routes ys → AreRouted routes (xs ++ ys)
routed_both routes [] ys h k = k
routed_both routes (x ∷ xs) ys h k = (h.0, routed_both routes xs ys h.1 k)
