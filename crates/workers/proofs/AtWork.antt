-- What each call of a worker keeps, and which of its jobs wait.
use Rattle.std.specs.List.{AllByRecursion}
use Rattle.std.specs.Prelude.{Option}
use Rattle.std.proofs.lemmas.List.{length-append}
use Rattle.std.proofs.Common.{◌≡◌, ◌≢◌, ◌≤◌, ◌+◌, ◌∙◌, ℕ, List, [], ◌∷◌, ◌++◌, length, refl, sym, ap, subst, arith, append_assoc, append-nil}
use Rattle.rs_wire.specs.declared.call.Call.TheVariants as call
use Rattle.rs_wire.specs.declared.settings.Settings.{Settings}
use Rattle.tape.specs.declared.answer.Answer.{Answer}
use Rattle.tape.specs.declared.entry.Entry.{Entry}
use Rattle.conn_shared.specs.Members.{Continues, Knowledge}
use Rattle.handlers.specs.Listed.{Listed}
use Rattle.workers.specs.declared.job.OpenJob.{OpenJob}
use Rattle.workers.specs.declared.outcome.Found.{Found}
use Rattle.workers.specs.declared.worked.Worked.TheVariants as worked
use Rattle.workers.specs.declared.worked.Progress.{Progress}
use Rattle.workers.specs.declared.worked.Progress.TheVariants as progress
use Rattle.workers.specs.Causes.{AreWaiting, IsHindered, IsHinderedAt, IsOfJobs, IsWaiting, WaitingOfProgress}
use Rattle.workers.specs.Courses.{Course, GoesOn, IsWorkersCall, accepted_of, course}
use Rattle.workers.specs.Serving.{AreRouted, Serving, jobs_on}
use Rattle.workers.specs.Going.{IsAtWork, Keeps, found_of, told}
use Rattle.workers.proofs.Fronts.{all_append, goes_longer, goes_none, hindered_between, job_taken_quietly, tried_between, waiting_since, works_quietly}
use Rattle.workers.proofs.Gone.{IsOn, on_both}
use Rattle.workers.proofs.Jobs.{jobs-append, jobs_here, jobs_there, left_job}
use Rattle.workers.proofs.Putting.{BringsNone, keeps_none}
use Rattle.workers.proofs.Served.{hindered_until, keeps_after, works_since}

-- ---- what is kept

-- nothing happened
pub none_at_work : (routes : List Listed) (me : Knowledge) (was now : List OpenJob) → now ≡ was → AreRouted routes was → IsAtWork routes me me was now
none_at_work routes me was now same routed = subst (IsAtWork routes me me was) (sym same) (record {
  same = refl;
  works = works_quietly me.names me.number me.front me.front (goes_none IsWorkersCall me.names me.number me.front);
  routed = routed;
  kept = λ serving. serving;
})

-- no request came
pub quiet_at_work : (routes : List Listed) (old new : Knowledge) (a : Answer) (f : Found) (was now : List OpenJob) → IsOn old new → found_of a ≡ f → BringsNone f
    → ((s : ℕ) → course old.names s new.front ≡ told s call.TakeJob a (course old.names s old.front)) → GoesOn (λ c. c ≡ call.TakeJob) old.names old.number old.front new.front (length (accepted_of call.TakeJob a))
    → now ≡ was → AreRouted routes was → IsAtWork routes old new was now
quiet_at_work routes old new a f was now on is none tells goes same routed = subst (IsAtWork routes old new was) (sym same) (record {
  same = on;
  works = works_quietly old.names old.number old.front new.front (job_taken_quietly old.names old.number old.front new.front a goes);
  routed = routed;
  kept = keeps_none old.names routes old.front new.front was a f is none tells (goes_longer (λ c. c ≡ call.TakeJob) old.names old.number old.front new.front _ goes);
})

-- no reply was accepted at first
pub at_work_after : (routes : List Listed) (a b c : Knowledge) (was mid now : List OpenJob) → IsOn a b → GoesOn IsWorkersCall a.names a.number a.front b.front 0 → Keeps a.names routes a.front b.front was mid
    → IsAtWork routes b c mid now → IsAtWork routes a c was now
at_work_after routes a b c was mid now on goes keeps w = record {
  same = on_both a b c on w.same;
  works = works_since a b c on goes w.works;
  routed = w.routed;
  kept = keeps_after a b c routes was mid now on keeps w.kept;
}

-- ---- the first jobs of a work

-- it holds of the first so many jobs
pub record AreFirst (P : OpenJob → Type 0) (place : ℕ) (jobs : List OpenJob) : Type 0 where
  pub first : List OpenJob
  pub rest : List OpenJob
  pub are : jobs ≡ first ++ rest
  pub many : length first ≡ place
  pub all : AllByRecursion P first

pub none_first : (P : OpenJob → Type 0) (jobs : List OpenJob) → AreFirst P 0 jobs
none_first P jobs = record { first = []; rest = jobs; are = refl; many = refl; all = tt }

same_start : {X : Type 0} (xs ys zs ws : List X) → length xs ≡ length zs → xs ++ ys ≡ zs ++ ws → xs ≡ zs
same_start [] ys [] ws h e = refl
same_start [] ys (z ∷ zs) ws h e = absurd (omega arith)
same_start (x ∷ xs) ys [] ws h e = absurd (omega arith)
same_start (x ∷ xs) ys (z ∷ zs) ws h e =
    let first : x ≡ z = cc in
    let rest : xs ++ ys ≡ zs ++ ws = cc in
    let l : length xs ≡ length zs = omega arith in
    ap (λ v. v ∷ xs) first ∙ ap (λ vs. z ∷ vs) (same_start xs ys zs ws l rest)

-- and of one more, where the job after them has changed
pub one_more : (P Q : OpenJob → Type 0) (place : ℕ) (before after : List OpenJob) (job left : OpenJob) (was now : List OpenJob) → was ≡ before ++ job ∷ after → now ≡ before ++ left ∷ after → length before ≡ place
    → (AllByRecursion P before → AllByRecursion Q before) → Q left → AreFirst P place was → AreFirst Q (place + 1) now
one_more P Q place before after job left was now were are at wider this f = record {
  first = before ++ left ∷ [];
  rest = after;
  are = are ∙ sym (append_assoc before (left ∷ []) after);
  many = (let l : length (before ++ left ∷ []) ≡ length before + 1 = length-append before (left ∷ []) in omega arith);
  all = (let same : f.first ≡ before = same_start f.first f.rest before (job ∷ after) (f.many ∙ sym at) (sym f.are ∙ were) in all_append Q before (left ∷ []) (wider (subst (AllByRecursion P) same f.all)) (this, tt));
}

none_of : (xs : List OpenJob) → length xs ≡ 0 → xs ≡ []
none_of [] h = refl
none_of (x ∷ xs) h = absurd (omega arith)

-- so many are all
pub all_first : (P : OpenJob → Type 0) (place : ℕ) (jobs : List OpenJob) → length jobs ≤ place → AreFirst P place jobs → AllByRecursion P jobs
all_first P place jobs le f =
    let l : length jobs ≡ length f.first + length f.rest = ap length f.are ∙ length-append f.first f.rest in
    let none : f.rest ≡ [] = none_of f.rest (let m = f.many in omega arith) in
    subst (AllByRecursion P) (sym (f.are ∙ (ap (λ js. f.first ++ js) none ∙ append-nil f.first))) f.all

-- ---- which jobs wait

-- as long as nothing is called on its stream
pub waiting_until : (g : Settings) (routes : List Listed) (names : List ℕ) (number : ℕ) (a b c : List Entry) (j : OpenJob) → Continues b c → course names j.stream c ≡ course names j.stream b
    → IsWaiting g routes names number a b j → IsWaiting g routes names number a c j
waiting_until g routes names number a b c j later same w = record {
  met = record { asked = w.met.asked; met = w.met.met; hindered = w.met.hindered; tried = tried_between g routes number a a b c j w.met.asked w.met.met ([], refl) later w.met.tried };
  last = λ left. ap (λ (v : Course). v.last) same ∙ w.last left;
}

-- jobs none of which is on a stream
others_wait : (g : Settings) (routes : List Listed) (names : List ℕ) (number : ℕ) (a b c : List Entry) (s : ℕ) (jobs : List OpenJob) → Continues b c → ((q : ℕ) → q ≢ s → course names q c ≡ course names q b)
    → jobs_on s jobs ≡ [] → AreWaiting g routes names number a b jobs → AreWaiting g routes names number a c jobs
others_wait g routes names number a b c s [] later apart none h = tt
others_wait g routes names number a b c s (j ∷ jobs) later apart none h =
    let differs : j.stream ≢ s = λ is. (let here = sym (jobs_here s j jobs is) ∙ none in absurd (cc)) in
    let rest : jobs_on s jobs ≡ [] = sym (jobs_there s j jobs differs) ∙ none in
    (waiting_until g routes names number a b c j later (apart j.stream differs) h.0, others_wait g routes names number a b c s jobs later apart rest h.1)

-- where no call was made at all on their streams
pub all_wait : (g : Settings) (routes : List Listed) (names : List ℕ) (number : ℕ) (a b c : List Entry) (jobs : List OpenJob) → Continues b c → ((q : ℕ) → course names q c ≡ course names q b)
    → AreWaiting g routes names number a b jobs → AreWaiting g routes names number a c jobs
all_wait g routes names number a b c [] later same h = tt
all_wait g routes names number a b c (j ∷ jobs) later same h =
    (waiting_until g routes names number a b c j later (same j.stream) h.0, all_wait g routes names number a b c jobs later same h.1)

-- the same streams, under the names that the caller had
pub still_for : (was mid now : Knowledge) → IsOn was mid → ((s : ℕ) → course mid.names s now.front ≡ course mid.names s mid.front) → (s : ℕ) → course was.names s now.front ≡ course was.names s mid.front
still_for was mid now on h s = subst (λ names. course names s now.front ≡ course names s mid.front) (ap (λ (x : Knowledge). x.names) on) (h s)

first_none : (xs ys : List OpenJob) → xs ++ ys ≡ [] → xs ≡ []
first_none [] ys e = refl
first_none (x ∷ xs) ys e = absurd (cc)

-- no job before one is on its stream
none_before : (names : List ℕ) (routes : List Listed) (past : List Entry) (xs ys : List OpenJob) (j : OpenJob) → Serving names past routes (xs ++ j ∷ ys) → jobs_on j.stream xs ≡ []
none_before names routes past xs ys j s = first_none (jobs_on j.stream xs) (jobs_on j.stream ys) (sym (jobs-append j.stream xs ys) ∙ (left_job names routes past xs ys j s).0)

-- the jobs before one that was tried wait on, and it waits, too
pub wait_on : (g : Settings) (routes : List Listed) (was mid now : Knowledge) (place : ℕ) (before after : List OpenJob) → IsOn was mid → Continues was.front mid.front → Continues mid.front now.front
    → Serving was.names mid.front routes before → IsHinderedAt g routes mid.names mid.number mid.front now.front place before after
    → AreFirst (IsWaiting g routes was.names was.number was.front mid.front) place before → AreFirst (IsWaiting g routes was.names was.number was.front now.front) (place + 1) after
wait_on g routes was mid now place before after on h k serving tried =
    by (subst (λ n. IsHinderedAt g routes was.names n mid.front now.front place before after) (ap (λ (x : Knowledge). x.number) on)
    (subst (λ names. IsHinderedAt g routes names mid.number mid.front now.front place before after) (ap (λ (x : Knowledge). x.names) on) tried))
  where
    by : IsHinderedAt g routes was.names was.number mid.front now.front place before after
        → AreFirst (IsWaiting g routes was.names was.number was.front mid.front) place before → AreFirst (IsWaiting g routes was.names was.number was.front now.front) (place + 1) after
    by w = one_more (IsWaiting g routes was.names was.number was.front mid.front) (IsWaiting g routes was.names was.number was.front now.front) place w.before w.after w.job w.left before after w.were w.are w.at
        (others_wait g routes was.names was.number was.front mid.front now.front w.job.stream w.before k w.apart (none_before was.names routes mid.front w.before w.after w.job (subst (Serving was.names mid.front routes) w.were serving)))
        (waiting_since g routes was.names was.number was.front mid.front now.front w.left h w.waiting)

-- and of jobs that were tried, whatever was called since
pub tried_on : (g : Settings) (routes : List Listed) (was mid now : Knowledge) (place : ℕ) (before after : List OpenJob) → IsOn was mid → Continues was.front mid.front → Continues mid.front now.front
    → IsHinderedAt g routes mid.names mid.number mid.front now.front place before after
    → AreFirst (IsHindered g routes was.number was.front mid.front) place before → AreFirst (IsHindered g routes was.number was.front now.front) (place + 1) after
tried_on g routes was mid now place before after on h k tried =
    by (subst (λ n. IsHinderedAt g routes mid.names n mid.front now.front place before after) (ap (λ (x : Knowledge). x.number) on) tried)
  where
    by : IsHinderedAt g routes mid.names was.number mid.front now.front place before after
        → AreFirst (IsHindered g routes was.number was.front mid.front) place before → AreFirst (IsHindered g routes was.number was.front now.front) (place + 1) after
    by w = one_more (IsHindered g routes was.number was.front mid.front) (IsHindered g routes was.number was.front now.front) place w.before w.after w.job w.left before after w.were w.are w.at
        (hindered_until g routes was.number was.front mid.front now.front w.before k)
        (hindered_between g routes was.number was.front mid.front now.front now.front w.left h ([], refl) w.waiting.met)

-- what is said of a job's end says nothing of waiting
pub waiting_of_jobs : (g : Settings) (routes : List Listed) (was now : Knowledge) (most : Option ℕ) (a b old new : List Entry) (before after those these : List OpenJob) (p : Progress)
    → IsOfJobs g routes now.names now.number most a b before after p → WaitingOfProgress g routes was.names was.number old new those these p
waiting_of_jobs g routes was now most a b old new before after those these (progress.More s) h = tt
waiting_of_jobs g routes was now most a b old new before after those these (progress.Worked (worked.Served s items)) h = tt
waiting_of_jobs g routes was now most a b old new before after those these (progress.Worked (worked.Waiting s)) h = tt
waiting_of_jobs g routes was now most a b old new before after those these (progress.Worked (worked.Stopped r)) h = tt
waiting_of_jobs g routes was now most a b old new before after those these (progress.Worked (worked.NoMore r)) h = absurd h
waiting_of_jobs g routes was now most a b old new before after those these (progress.Worked worked.Idle) h = absurd h
waiting_of_jobs g routes was now most a b old new before after those these (progress.Worked worked.OutOfMemory) h = tt

-- where a worker is idle
pub waiting_if_idle : (g : Settings) (routes : List Listed) (names : List ℕ) (number : ℕ) (old new : List Entry) (was now : List OpenJob) (p : Progress)
    → (p ≡ progress.Worked worked.Idle → Serving names old routes was → AreWaiting g routes names number old new now) → WaitingOfProgress g routes names number old new was now p
waiting_if_idle g routes names number old new was now (progress.More s) h = tt
waiting_if_idle g routes names number old new was now (progress.Worked (worked.Served s items)) h = tt
waiting_if_idle g routes names number old new was now (progress.Worked (worked.Waiting s)) h = tt
waiting_if_idle g routes names number old new was now (progress.Worked (worked.Stopped r)) h = tt
waiting_if_idle g routes names number old new was now (progress.Worked (worked.NoMore r)) h = tt
waiting_if_idle g routes names number old new was now (progress.Worked worked.Idle) h = h refl
waiting_if_idle g routes names number old new was now (progress.Worked worked.OutOfMemory) h = tt
