-- What a worker keeps and says, over one job of its work.
use Rattle.std.proofs.Math.ListN.{set}
use Rattle.std.proofs.Math.Seq.{get_or-append_seam}
use Rattle.std.proofs.lemmas.List.{length-append}
use Rattle.std.proofs.Common.{◌≡◌, ◌≢◌, ◌<◌, ◌+◌, ◌∙◌, ℕ, suc, List, [], ◌∷◌, ◌++◌, length, take, drop, get_or, inl, inr, refl, sym, ap, subst, arith}
use Rattle.std.specs.Prelude.{Option}
use Rattle.rs_wire.specs.declared.settings.Settings.{Settings}
use Rattle.tape.specs.declared.entry.Entry.{Entry}
use Rattle.conn_shared.specs.Members.{Continues, Knowledge}
use Rattle.handlers.specs.Listed.{Listed}
use Rattle.workers.specs.declared.job.OpenJob.{OpenJob}
use Rattle.workers.specs.declared.going.Going.{Going}
use Rattle.workers.specs.declared.going.Going.TheVariants as going
use Rattle.workers.specs.declared.worked.Worked.TheVariants as worked
use Rattle.workers.specs.declared.worked.Progress.{Progress}
use Rattle.workers.specs.declared.worked.Progress.TheVariants as progress
use Rattle.workers.specs.Causes.{AreHindered, CauseOf, CauseOfProgress, CauseOfTaking, IsHinderedAt, IsNotMore, IsOfJobs, WasHad, WentAt}
use Rattle.workers.specs.Courses.{GoesOn, IsWorkersCall, WorksOn, course}
use Rattle.workers.specs.Serving.{AreRouted, IsRouted, Serving, jobs_on}
use Rattle.workers.specs.Going.{ClosesTake, HasGone, HasWorked, IsSameJob, IsSettled, Keeps, StoodIn, WholeOf, left_by, progress_of}
use Rattle.workers.proofs.Fronts.{all_weaker, answered_between, goes_both, goes_later, got_since, hindered_between, most_since, of_worker, tried_between, waiting_since, works_after, works_job}
use Rattle.workers.proofs.Gone.{IsOn, same_both}
use Rattle.workers.proofs.Jobs.{IsLeft, left_job, none_left, one_left, routed_both, routed_split, serving_job}
use Rattle.workers.proofs.Putting.{cut_at, cut_length, set_split}
use Rattle.workers.proofs.Reasons.{stop_by}

-- ---- the job at a place

-- of a job that is changed in place
went_at : (names : List ℕ) (routes : List Listed) (number : ℕ) (g : Settings) (most : Option ℕ) (old new : List Entry) (place : ℕ) (was : List OpenJob) (d left : OpenJob) (how : Going) → place < length was
    → IsSameJob (get_or was place d) left → HasGone names routes old new (get_or was place d) (left_by how left) → HasWorked names number old new (get_or was place d) left
    → CauseOf g routes names number most old new left how → WholeOf names routes old new (get_or was place d) how → WentAt names routes number g most old new place was (set was place left) how
went_at names routes number g most old new place was d left how within same gone worked cause whole =
    let cut = cut_at was place d within in
    let at = cut_length was place within in
    record {
      before = take place was;
      job = get_or was place d;
      left = left;
      after = drop (suc place) was;
      were = cut;
      are = ap (λ js. set js place left) cut ∙ (ap (λ n. set (take place was ++ get_or was place d ∷ drop (suc place) was) n left) (sym at) ∙ set_split (take place was) (drop (suc place) was) (get_or was place d) left);
      at = at;
      same = same;
      gone = gone;
      worked = worked;
      cause = cause;
      whole = whole;
    }

-- the same, of the job that is read there
pub went_here : (names : List ℕ) (routes : List Listed) (number : ℕ) (g : Settings) (most : Option ℕ) (old new : List Entry) (place : ℕ) (was : List OpenJob) (x left : OpenJob) (how : Going) → place < length was
    → x ≡ get_or was place x → IsSameJob x left → HasGone names routes old new x (left_by how left) → HasWorked names number old new x left
    → CauseOf g routes names number most old new left how → WholeOf names routes old new x how → WentAt names routes number g most old new place was (set was place left) how
went_here names routes number g most old new place was x left how within is same gone worked cause whole =
    went_at names routes number g most old new place was x left how within
    (subst (λ (j : OpenJob). IsSameJob j left) is same)
    (subst (λ (j : OpenJob). HasGone names routes old new j (left_by how left)) is gone)
    (subst (λ (j : OpenJob). HasWorked names number old new j left) is worked)
    cause
    (subst (λ (j : OpenJob). WholeOf names routes old new j how) is whole)

is_left : (job left : OpenJob) (how : Going) → left.stream ≡ job.stream → IsLeft job.stream (left_by how left)
is_left job left (going.Served items) same = none_left job.stream
is_left job left (going.Stopped a) same = none_left job.stream
is_left job left _ same = one_left job.stream left same

-- the statement is kept where the job stays or leaves
pub went_kept : (names : List ℕ) (routes : List Listed) (number : ℕ) (g : Settings) (most : Option ℕ) (old new : List Entry) (place : ℕ) (was mid now : List OpenJob) (how : Going)
    → WentAt names routes number g most old new place was mid how → IsSettled place how mid now → Keeps names routes old new was now
went_kept names routes number g most old new place was mid now how w settled serving =
    let stream : w.left.stream ≡ w.job.stream = ap (λ (j : OpenJob). j.stream) w.same in
    subst (Serving names new routes) (sym (settled w.before w.after w.left w.are w.at))
    (serving_job names routes old new w.before w.after w.job (left_by how w.left) (is_left w.job w.left how stream) w.gone (subst (Serving names old routes) w.were serving))

-- and where it stays, hindered
pub stays_kept : (names : List ℕ) (routes : List Listed) (number : ℕ) (g : Settings) (most : Option ℕ) (old new : List Entry) (place : ℕ) (was now : List OpenJob) (how : Going)
    → how ≡ going.Blocked → WentAt names routes number g most old new place was now how → Keeps names routes old new was now
stays_kept names routes number g most old new place was now how is w =
    went_kept names routes number g most old new place was now now how w
    (λ before after j are at. are ∙ ap (λ h. before ++ (left_by h j ++ after)) (sym is))

same_routed : (routes : List Listed) (job left : OpenJob) → IsSameJob job left → IsRouted routes job → IsRouted routes left
same_routed routes job left same h = subst (IsRouted routes) (sym same) h

left_routed : (routes : List Listed) (left : OpenJob) (how : Going) → IsRouted routes left → AreRouted routes (left_by how left)
left_routed routes left (going.Served items) h = tt
left_routed routes left (going.Stopped a) h = tt
left_routed routes left _ h = (h, tt)

pub went_routed : (names : List ℕ) (routes : List Listed) (number : ℕ) (g : Settings) (most : Option ℕ) (old new : List Entry) (place : ℕ) (was mid now : List OpenJob) (how : Going)
    → WentAt names routes number g most old new place was mid how → IsSettled place how mid now → AreRouted routes was → AreRouted routes now
went_routed names routes number g most old new place was mid now how w settled h =
    let parts = routed_split routes w.before (w.job ∷ w.after) (subst (AreRouted routes) w.were h) in
    subst (AreRouted routes) (sym (settled w.before w.after w.left w.are w.at))
    (routed_both routes w.before (left_by how w.left ++ w.after) parts.0 (routed_both routes (left_by how w.left) w.after (left_routed routes w.left how (same_routed routes w.job w.left w.same parts.1.0)) parts.1.1))

pub stays_settled : (place : ℕ) (how : Going) (now : List OpenJob) → how ≡ going.Blocked → IsSettled place how now now
stays_settled place how now is = λ before after j are at. are ∙ ap (λ h. before ++ (left_by h j ++ after)) (sym is)

pub went_works : (names : List ℕ) (routes : List Listed) (number : ℕ) (g : Settings) (most : Option ℕ) (old new : List Entry) (place : ℕ) (was now : List OpenJob) (how : Going)
    → WentAt names routes number g most old new place was now how → WorksOn names number old new
went_works names routes number g most old new place was now how w = works_job w.job.stream names number old new w.worked.replies w.worked.goes

-- ---- whose call it was

stood_here : (before after : List OpenJob) (j left : OpenJob) → IsSameJob j left → StoodIn (before ++ j ∷ after) left
stood_here [] after j left same = inl same
stood_here (b ∷ before) after j left same = inr (stood_here before after j left same)

stood_through : (before after : List OpenJob) (j left x : OpenJob) → IsSameJob j left → StoodIn (before ++ left ∷ after) x → StoodIn (before ++ j ∷ after) x
stood_through [] after j left x same (inl h) = inl (same_both j left x same h)
stood_through [] after j left x same (inr h) = inr h
stood_through (b ∷ before) after j left x same (inl h) = inl h
stood_through (b ∷ before) after j left x same (inr h) = inr (stood_through before after j left x same h)

-- a job that stands in the work where one was hindered stood there before
pub hindered_stood : (g : Settings) (routes : List Listed) (names : List ℕ) (number : ℕ) (old new : List Entry) (place : ℕ) (was now : List OpenJob) → IsHinderedAt g routes names number old new place was now
    → (x : OpenJob) → StoodIn now x → StoodIn was x
hindered_stood g routes names number old new place was now w x h =
    subst (λ js. StoodIn js x) (sym w.were) (stood_through w.before w.after w.job w.left x w.same (subst (λ js. StoodIn js x) w.are h))

pub had_since : (g : Settings) (number : ℕ) (a b c : List Entry) (was mid : List OpenJob) → Continues a b → ((x : OpenJob) → StoodIn mid x → StoodIn was x) → (x : OpenJob) → WasHad g number b c mid x → WasHad g number a c was x
had_since g number a b c was mid later stood x (inl h) = inl (stood x h)
had_since g number a b c was mid later stood x (inr got) = inr (got_since g number a b c x later got)

pub went_stood : (names : List ℕ) (routes : List Listed) (number : ℕ) (g : Settings) (most : Option ℕ) (old new : List Entry) (place : ℕ) (was now : List OpenJob) (how : Going)
    → (w : WentAt names routes number g most old new place was now how) → StoodIn was w.left
went_stood names routes number g most old new place was now how w = subst (λ js. StoodIn js w.left) (sym w.were) (stood_here w.before w.after w.job w.left w.same)

-- ---- what is read of the job at a place

pub at_place : (before after : List OpenJob) (place : ℕ) (jobs : List OpenJob) (j x : OpenJob) → jobs ≡ before ++ j ∷ after → length before ≡ place → x ≡ get_or jobs place x → x ≡ j
at_place before after place jobs j x are at is =
    is ∙ (ap (λ js. get_or js place x) are ∙ (ap (λ n. get_or (before ++ j ∷ after) n x) (sym at) ∙ get_or-append_seam before j after x))

pub left_stream : (names : List ℕ) (routes : List Listed) (number : ℕ) (g : Settings) (most : Option ℕ) (old new : List Entry) (place : ℕ) (was now : List OpenJob) (how : Going) (x : OpenJob) → x ≡ get_or was place x
    → (w : WentAt names routes number g most old new place was now how) → w.left.stream ≡ x.stream
left_stream names routes number g most old new place was now how x is w =
    ap (λ (j : OpenJob). j.stream) w.same ∙ sym (ap (λ (j : OpenJob). j.stream) (at_place w.before w.after place was w.job x w.were w.at is))

-- where the job has as many replies as before, none was accepted
pub went_quietly : (names : List ℕ) (routes : List Listed) (number : ℕ) (g : Settings) (most : Option ℕ) (old new : List Entry) (place : ℕ) (was now : List OpenJob) (how : Going) (x y : OpenJob)
    → WentAt names routes number g most old new place was now how → x ≡ get_or was place x → y ≡ get_or now place y → y.made ≡ x.made → GoesOn IsWorkersCall names number old new 0
went_quietly names routes number g most old new place was now how x y w isx isy same =
    let a : x ≡ w.job = at_place w.before w.after place was w.job x w.were w.at isx in
    let b : y ≡ w.left = at_place w.before w.after place now w.left y w.are w.at isy in
    let made : w.left.made ≡ w.job.made = ap (λ (j : OpenJob). j.made) (sym b) ∙ (same ∙ ap (λ (j : OpenJob). j.made) a) in
    let none : w.worked.replies ≡ 0 = (let m = w.worked.made in omega arith) in
    subst (GoesOn IsWorkersCall names number old new) none (of_worker w.job.stream names number old new w.worked.replies w.worked.goes)

-- ---- causes

pub went_hindered : (names : List ℕ) (routes : List Listed) (number : ℕ) (g : Settings) (most : Option ℕ) (old new : List Entry) (place : ℕ) (was now : List OpenJob) (how : Going) → how ≡ going.Blocked
    → WentAt names routes number g most old new place was now how → IsHinderedAt g routes names number old new place was now
went_hindered names routes number g most old new place was now how is w = record {
  before = w.before;
  job = w.job;
  left = w.left;
  after = w.after;
  were = w.were;
  are = w.are;
  at = w.at;
  same = w.same;
  apart = w.gone.apart;
  waiting = subst (CauseOf g routes names number most old new w.left) is w.cause;
}

pub hindered_length : (g : Settings) (routes : List Listed) (names : List ℕ) (number : ℕ) (old new : List Entry) (place : ℕ) (was now : List OpenJob) → IsHinderedAt g routes names number old new place was now → length now ≡ length was
hindered_length g routes names number old new place was now w =
    let a : length was ≡ length w.before + length (w.job ∷ w.after) = ap length w.were ∙ length-append w.before (w.job ∷ w.after) in
    let b : length now ≡ length w.before + length (w.left ∷ w.after) = ap length w.are ∙ length-append w.before (w.left ∷ w.after) in
    omega arith

-- what is said of the job at a place
pub went_of_jobs : (names : List ℕ) (routes : List Listed) (number : ℕ) (g : Settings) (most : Option ℕ) (old new : List Entry) (place : ℕ) (was mid now : List OpenJob) (how : Going) (x : OpenJob) → x ≡ get_or was place x
    → WentAt names routes number g most old new place was mid how → IsSettled place how mid now → IsOfJobs g routes names number most old new was now (progress_of x.stream how)
went_of_jobs names routes number g most old new place was mid now (going.Served items) x is w settled = tt
went_of_jobs names routes number g most old new place was mid now going.Blocked x is w settled = record {
  job = w.left;
  stream = left_stream names routes number g most old new place was mid going.Blocked x is w;
  stands = (w.before, w.after, settled w.before w.after w.left w.are w.at);
  waiting = w.cause;
}
went_of_jobs names routes number g most old new place was mid now going.More x is w settled = record {
  job = w.left;
  stream = left_stream names routes number g most old new place was mid going.More x is w;
  stands = (w.before, w.after, settled w.before w.after w.left w.are w.at);
  sent = w.cause;
}
went_of_jobs names routes number g most old new place was mid now (going.Stopped a) x is w settled = record {
  job = w.left;
  had = inl (went_stood names routes number g most old new place was mid (going.Stopped a) w);
  left = λ serving.
      subst (λ s. jobs_on s now ≡ []) (sym (ap (λ (j : OpenJob). j.stream) w.same))
      (subst (λ js. jobs_on w.job.stream js ≡ []) (sym (settled w.before w.after w.left w.are w.at))
      (left_job names routes old w.before w.after w.job (subst (Serving names old routes) w.were serving)).0);
  stopped = w.cause;
  exact = λ serving.
      let stream : w.job.stream ≡ w.left.stream = sym (ap (λ (j : OpenJob). j.stream) w.same) in
      let closes = w.whole (left_job names routes old w.before w.after w.job (subst (Serving names old routes) w.were serving)).1 in
      stop_by names routes new w.left w.cause.asked a w.cause.tried.next w.cause.final w.cause.last (subst (λ q. ClosesTake q (course names q new) a) stream closes);
}
went_of_jobs names routes number g most old new place was mid now going.OutOfMemory x is w settled = tt

pub progress_of_jobs : (g : Settings) (routes : List Listed) (names : List ℕ) (number : ℕ) (most : Option ℕ) (old new : List Entry) (was now : List OpenJob) (p : Progress)
    → IsOfJobs g routes names number most old new was now p → CauseOfProgress g routes names number most old new was now p
progress_of_jobs g routes names number most old new was now (progress.More s) c = c
progress_of_jobs g routes names number most old new was now (progress.Worked (worked.Served s items)) c = tt
progress_of_jobs g routes names number most old new was now (progress.Worked (worked.Waiting s)) c = c
progress_of_jobs g routes names number most old new was now (progress.Worked (worked.Stopped a)) c = c
progress_of_jobs g routes names number most old new was now (progress.Worked worked.OutOfMemory) c = tt
progress_of_jobs g routes names number most old new was now (progress.Worked (worked.NoMore a)) c = absurd c
progress_of_jobs g routes names number most old new was now (progress.Worked worked.Idle) c = absurd c

pub taking_of_jobs : (g : Settings) (routes : List Listed) (names : List ℕ) (number : ℕ) (most : Option ℕ) (old new : List Entry) (was now : List OpenJob) (p : Progress)
    → IsOfJobs g routes names number most old new was now p → CauseOfTaking g routes names number most old new was now p
taking_of_jobs g routes names number most old new was now (progress.More s) c = c
taking_of_jobs g routes names number most old new was now (progress.Worked (worked.Served s items)) c = tt
taking_of_jobs g routes names number most old new was now (progress.Worked (worked.Waiting s)) c = c
taking_of_jobs g routes names number most old new was now (progress.Worked (worked.Stopped a)) c = c
taking_of_jobs g routes names number most old new was now (progress.Worked worked.OutOfMemory) c = tt
taking_of_jobs g routes names number most old new was now (progress.Worked (worked.NoMore a)) c = absurd c
taking_of_jobs g routes names number most old new was now (progress.Worked worked.Idle) c = absurd c

-- an idle worker's jobs were hindered before
pub progress_of_taking : (g : Settings) (routes : List Listed) (names : List ℕ) (number : ℕ) (most : Option ℕ) (old new : List Entry) (was now : List OpenJob) (p : Progress)
    → (p ≡ progress.Worked worked.Idle → AreHindered g routes number old new now) → CauseOfTaking g routes names number most old new was now p → CauseOfProgress g routes names number most old new was now p
progress_of_taking g routes names number most old new was now (progress.More s) idle c = c
progress_of_taking g routes names number most old new was now (progress.Worked (worked.Served s items)) idle c = tt
progress_of_taking g routes names number most old new was now (progress.Worked (worked.Waiting s)) idle c = c
progress_of_taking g routes names number most old new was now (progress.Worked (worked.Stopped a)) idle c = c
progress_of_taking g routes names number most old new was now (progress.Worked worked.OutOfMemory) idle c = tt
progress_of_taking g routes names number most old new was now (progress.Worked (worked.NoMore a)) idle c = c
progress_of_taking g routes names number most old new was now (progress.Worked worked.Idle) idle c = (c.0, c.1, idle refl)

pub not_more : (s : ℕ) (how : Going) → how ≢ going.More → IsNotMore (progress_of s how)
not_more s (going.Served items) h = tt
not_more s going.Blocked h = tt
not_more s going.More h = absurd (h refl)
not_more s (going.Stopped a) h = tt
not_more s going.OutOfMemory h = tt

pub hindered_until : (g : Settings) (routes : List Listed) (number : ℕ) (a b c : List Entry) (jobs : List OpenJob) → Continues b c → AreHindered g routes number a b jobs → AreHindered g routes number a c jobs
hindered_until g routes number a b c jobs h all = all_weaker _ _ jobs (λ j w. hindered_between g routes number a a b c j ([], refl) h w) all

-- ---- from an earlier front

of_jobs_since : (g : Settings) (routes : List Listed) (names : List ℕ) (number : ℕ) (most : Option ℕ) (a b c : List Entry) (was mid now : List OpenJob) (p : Progress) → Continues a b → Keeps names routes a b was mid
    → ((x : OpenJob) → WasHad g number b c mid x → WasHad g number a c was x) → IsOfJobs g routes names number most b c mid now p → IsOfJobs g routes names number most a c was now p
of_jobs_since g routes names number most a b c was mid now (progress.More s) later keeps had k = record { job = k.job; stream = k.stream; stands = k.stands; sent = most_since names most a b c later k.sent }
of_jobs_since g routes names number most a b c was mid now (progress.Worked (worked.Served s items)) later keeps had k = tt
of_jobs_since g routes names number most a b c was mid now (progress.Worked (worked.Waiting s)) later keeps had k =
    record { job = k.job; stream = k.stream; stands = k.stands; waiting = waiting_since g routes names number a b c k.job later k.waiting }
of_jobs_since g routes names number most a b c was mid now (progress.Worked (worked.Stopped r)) later keeps had k =
    record {
      job = k.job;
      had = had k.job k.had;
      left = λ serving. k.left (keeps serving);
      stopped = record {
        asked = k.stopped.asked;
        tried = tried_between g routes number a b c c k.job k.stopped.asked r later ([], refl) k.stopped.tried;
        last = k.stopped.last;
        final = k.stopped.final;
      };
      exact = λ serving. k.exact (keeps serving);
    }
of_jobs_since g routes names number most a b c was mid now (progress.Worked worked.OutOfMemory) later keeps had k = tt
of_jobs_since g routes names number most a b c was mid now (progress.Worked (worked.NoMore r)) later keeps had k = absurd k
of_jobs_since g routes names number most a b c was mid now (progress.Worked worked.Idle) later keeps had k = absurd k

taking_since : (g : Settings) (routes : List Listed) (names : List ℕ) (number : ℕ) (most : Option ℕ) (a b c : List Entry) (was mid now : List OpenJob) (p : Progress) → GoesOn IsWorkersCall names number a b 0 → Keeps names routes a b was mid
    → ((x : OpenJob) → WasHad g number b c mid x → WasHad g number a c was x) → CauseOfTaking g routes names number most b c mid now p → CauseOfTaking g routes names number most a c was now p
taking_since g routes names number most a b c was mid now (progress.More s) h keeps had k =
    of_jobs_since g routes names number most a b c was mid now (progress.More s) (goes_later IsWorkersCall names number a b 0 h) keeps had k
taking_since g routes names number most a b c was mid now (progress.Worked (worked.Served s items)) h keeps had k = tt
taking_since g routes names number most a b c was mid now (progress.Worked (worked.Waiting s)) h keeps had k =
    of_jobs_since g routes names number most a b c was mid now (progress.Worked (worked.Waiting s)) (goes_later IsWorkersCall names number a b 0 h) keeps had k
taking_since g routes names number most a b c was mid now (progress.Worked (worked.Stopped r)) h keeps had k =
    of_jobs_since g routes names number most a b c was mid now (progress.Worked (worked.Stopped r)) (goes_later IsWorkersCall names number a b 0 h) keeps had k
taking_since g routes names number most a b c was mid now (progress.Worked worked.OutOfMemory) h keeps had k = tt
taking_since g routes names number most a b c was mid now (progress.Worked (worked.NoMore r)) h keeps had k =
    (goes_both IsWorkersCall names number a b c 0 0 h k.0, (answered_between g number a b c c _ r (goes_later IsWorkersCall names number a b 0 h) ([], refl) k.1.0, k.1.1))
taking_since g routes names number most a b c was mid now (progress.Worked worked.Idle) h keeps had k =
    (goes_both IsWorkersCall names number a b c 0 0 h k.0, answered_between g number a b c c _ _ (goes_later IsWorkersCall names number a b 0 h) ([], refl) k.1)

-- ---- one after the other, as the caller knows

pub keeps_after : (was mid now : Knowledge) (routes : List Listed) (a b c : List OpenJob) → IsOn was mid → Keeps was.names routes was.front mid.front a b → Keeps mid.names routes mid.front now.front b c → Keeps was.names routes was.front now.front a c
keeps_after was mid now routes a b c on h k s = subst (λ names. Keeps names routes mid.front now.front b c) (ap (λ (x : Knowledge). x.names) on) k (h s)

pub works_since : (was mid now : Knowledge) → IsOn was mid → GoesOn IsWorkersCall was.names was.number was.front mid.front 0 → WorksOn mid.names mid.number mid.front now.front → WorksOn was.names was.number was.front now.front
works_since was mid now on h k =
    works_after was.names was.number was.front mid.front now.front h
    (subst (λ n. WorksOn was.names n mid.front now.front) (ap (λ (x : Knowledge). x.number) on) (subst (λ names. WorksOn names mid.number mid.front now.front) (ap (λ (x : Knowledge). x.names) on) k))

pub quiet_since : (was mid now : Knowledge) → IsOn was mid → GoesOn IsWorkersCall was.names was.number was.front mid.front 0 → GoesOn IsWorkersCall mid.names mid.number mid.front now.front 0 → GoesOn IsWorkersCall was.names was.number was.front now.front 0
quiet_since was mid now on h k =
    goes_both IsWorkersCall was.names was.number was.front mid.front now.front 0 0 h
    (subst (λ n. GoesOn IsWorkersCall was.names n mid.front now.front 0) (ap (λ (x : Knowledge). x.number) on) (subst (λ names. GoesOn IsWorkersCall names mid.number mid.front now.front 0) (ap (λ (x : Knowledge). x.names) on) k))

-- what is said of a job, from the front and the work before
pub jobs_after : (g : Settings) (routes : List Listed) (most : Option ℕ) (a b c : Knowledge) (was mid now : List OpenJob) (p : Progress) → IsOn a b → Continues a.front b.front → Keeps a.names routes a.front b.front was mid
    → ((x : OpenJob) → WasHad g a.number b.front c.front mid x → WasHad g a.number a.front c.front was x) → IsOfJobs g routes b.names b.number most b.front c.front mid now p
    → IsOfJobs g routes a.names a.number most a.front c.front was now p
jobs_after g routes most a b c was mid now p on later keeps had k =
    of_jobs_since g routes a.names a.number most a.front b.front c.front was mid now p later keeps had
    (subst (λ n. IsOfJobs g routes a.names n most b.front c.front mid now p) (ap (λ (x : Knowledge). x.number) on) (subst (λ names. IsOfJobs g routes names b.number most b.front c.front mid now p) (ap (λ (x : Knowledge). x.names) on) k))

pub taking_after : (g : Settings) (routes : List Listed) (most : Option ℕ) (a b c : Knowledge) (was mid now : List OpenJob) (p : Progress) → IsOn a b → GoesOn IsWorkersCall a.names a.number a.front b.front 0 → Keeps a.names routes a.front b.front was mid
    → ((x : OpenJob) → WasHad g a.number b.front c.front mid x → WasHad g a.number a.front c.front was x) → CauseOfTaking g routes b.names b.number most b.front c.front mid now p
    → CauseOfTaking g routes a.names a.number most a.front c.front was now p
taking_after g routes most a b c was mid now p on h keeps had k =
    taking_since g routes a.names a.number most a.front b.front c.front was mid now p h keeps had
    (subst (λ n. CauseOfTaking g routes a.names n most b.front c.front mid now p) (ap (λ (x : Knowledge). x.number) on) (subst (λ names. CauseOfTaking g routes names b.number most b.front c.front mid now p) (ap (λ (x : Knowledge). x.names) on) k))

pub later_of : (names : List ℕ) (number : ℕ) (a b : List Entry) → GoesOn IsWorkersCall names number a b 0 → Continues a b
later_of names number a b h = goes_later IsWorkersCall names number a b 0 h
