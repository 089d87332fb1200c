-- A job that is served is whole, and has left the work.
use Rattle.std.proofs.Common.{◌≡◌, ◌+◌, ◌∙◌, ℕ, Bool, arith, List, [], ◌∷◌, ◌++◌, get_or, inl, inr, refl, sym, ap, subst}
use Rattle.rs_wire.specs.declared.settings.Settings.{Settings}
use Rattle.rs_wire.specs.declared.call.Call.{Call}
use Rattle.rs_wire.specs.declared.call.Call.TheVariants as call
use Rattle.rs_wire.specs.declared.delivery.Job.TheVariants as job
use Rattle.tape.specs.declared.answer.Answer.{Answer}
use Rattle.tape.specs.declared.answer.Answer.TheVariants as answer
use Rattle.tape.specs.declared.entry.Entry.{Entry}
use Rattle.conn_shared.specs.Members.{Continues, Knowledge}
use Rattle.handlers.specs.Listed.{Listed}
use Rattle.workers.specs.declared.job.OpenJob.{OpenJob}
use Rattle.workers.specs.declared.plan.Plan.TheVariants as plan
use Rattle.workers.specs.declared.outcome.Outcome.TheVariants as outcome
use Rattle.workers.specs.declared.outcome.Found.TheVariants as found
use Rattle.workers.specs.declared.step.Step.{Step}
use Rattle.workers.specs.declared.step.Step.TheVariants as step
use Rattle.workers.specs.declared.going.Going.{Going}
use Rattle.workers.specs.declared.going.Going.TheVariants as going
use Rattle.workers.specs.declared.worked.Worked.TheVariants as worked
use Rattle.workers.specs.declared.worked.Progress.{Progress}
use Rattle.workers.specs.declared.worked.Progress.TheVariants as progress
use Rattle.workers.specs.Replies.{item_of, items_of, law_of}
use Rattle.workers.specs.Courses.{IsReplyOn, after_reply, course}
use Rattle.workers.specs.Serving.{Serving, Stands}
use Rattle.workers.specs.Causes.{IsOver, IsPushed, WasAnswered, WasHad, WentAt, WholeOfProgress}
use Rattle.workers.specs.Going.{ClosesTake, HasGone, IsAccepted, IsClosedOff, IsEnded, IsSameJob, IsSettled, IsWholeOf, Keeps, WholeOfStep, found_of, outcome_of, plan_of, progress_of, told}
use Rattle.workers.proofs.Fronts.{answered_between}
use Rattle.workers.proofs.Gone.{IsOn}
use Rattle.workers.proofs.Items.{stands_items}
use Rattle.workers.proofs.Jobs.{left_job}
use Rattle.workers.proofs.Plans.{after_said}
use Rattle.workers.proofs.Reasons.{accepted_done}
use Rattle.workers.proofs.Served.{at_place, left_stream, went_stood}
use Rattle.std.specs.Prelude.{Option}
use Rattle.workers.proofs.Standing.{whole_last, whole_unsaid}

-- ---- one step

pub whole_said : (names : List ℕ) (routes : List Listed) (old new : List Entry) (j : OpenJob) (asked : Call) (last : Bool) (a : Answer) (result : Step) → IsAccepted asked j.made last result → outcome_of a ≡ outcome.Accepted
    → IsReplyOn j.stream asked → ((s : ℕ) → course names s new ≡ told s asked a (course names s old)) → plan_of (law_of routes j.kind j.message) j ≡ plan.Say asked last → WholeOfStep names routes old new j result
whole_said names routes old new j asked last a (step.Served items) end is on tells plans = λ stands.
    let before = course names j.stream old in
    let went : course names j.stream new ≡ after_reply asked answer.Done before = tells j.stream ∙ (ap (λ b. told j.stream asked b before) (accepted_done a is) ∙ after_said j.stream asked answer.Done before on) in
    let count : items ≡ item_of asked + items_of before.made = (let all = stands_items routes before j stands in let so = end.1 in omega arith) in
    subst (IsWholeOf routes j.stream items) (sym went) (whole_last routes before j asked stands (plans ∙ ap (λ b. plan.Say asked b) end.0), count)
whole_said names routes old new j asked last a (step.Went bytes) end is on tells plans = tt
whole_said names routes old new j asked last a step.Blocked end is on tells plans = absurd end
whole_said names routes old new j asked last a (step.Stopped r) end is on tells plans = absurd end
whole_said names routes old new j asked last a step.OutOfMemory end is on tells plans = absurd end

pub whole_quietly : (names : List ℕ) (routes : List Listed) (a : List Entry) (j : OpenJob) → plan_of (law_of routes j.kind j.message) j ≡ plan.Nothing → IsEnded names routes a a j j.made
whole_quietly names routes a j plans = λ stands. (whole_unsaid routes (course names j.stream a) j stands plans, sym (stands_items routes (course names j.stream a) j stands))

-- ---- several steps

pub whole_after : (was mid now : Knowledge) (routes : List Listed) (i j : OpenJob) (items : ℕ) → IsOn was mid → IsSameJob i j → HasGone was.names routes was.front mid.front i (j ∷ [])
    → IsEnded mid.names routes mid.front now.front j items → IsEnded was.names routes was.front now.front i items
whole_after was mid now routes i j items on same h k = λ stands.
    let s : j.stream ≡ i.stream = ap (λ (x : OpenJob). x.stream) same in
    let ends = subst (λ names. IsEnded names routes mid.front now.front j items) (ap (λ (x : Knowledge). x.names) on) k in
    let stood = subst (λ q. Stands routes (course was.names q mid.front) j) (sym s) (h.kept stands) in
    subst (λ q. IsWholeOf routes q items (course was.names q now.front)) s (ends stood)

pub closed_after : (was mid now : Knowledge) (routes : List Listed) (i j : OpenJob) (a : Answer) → IsOn was mid → IsSameJob i j → HasGone was.names routes was.front mid.front i (j ∷ [])
    → IsClosedOff mid.names routes mid.front now.front j a → IsClosedOff was.names routes was.front now.front i a
closed_after was mid now routes i j a on same h k = λ stands.
    let s : j.stream ≡ i.stream = ap (λ (x : OpenJob). x.stream) same in
    let ends = subst (λ names. IsClosedOff names routes mid.front now.front j a) (ap (λ (x : Knowledge). x.names) on) k in
    let stood = subst (λ q. Stands routes (course was.names q mid.front) j) (sym s) (h.kept stands) in
    subst (λ q. ClosesTake q (course was.names q now.front) a) s (ends stood)

-- ---- one job of the work

over_job : (names : List ℕ) (routes : List Listed) (old new : List Entry) (before after : List OpenJob) (j : OpenJob) (items : ℕ) → IsEnded names routes old new j items → Serving names old routes (before ++ j ∷ after)
    → IsOver names routes new (before ++ after) items j.stream
over_job names routes old new before after j items ends serving = let left = left_job names routes old before after j serving in (left.0, ends left.1)

pub went_whole : (names : List ℕ) (routes : List Listed) (number : ℕ) (g : Settings) (most : Option ℕ) (old new : List Entry) (place : ℕ) (was mid now : List OpenJob) (how : Going) (x : OpenJob) → x ≡ get_or was place x
    → WentAt names routes number g most old new place was mid how → IsSettled place how mid now → WholeOfProgress g routes names number old new was now (progress_of x.stream how)
went_whole names routes number g most old new place was mid now (going.Served items) x is w settled = inl (record {
  job = w.left;
  stream = left_stream names routes number g most old new place was mid (going.Served items) x is w;
  had = inl (went_stood names routes number g most old new place was mid (going.Served items) w);
  over = λ serving.
      let same : x ≡ w.job = at_place w.before w.after place was w.job x w.were w.at is in
      subst (IsOver names routes new now items) (sym (ap (λ (j : OpenJob). j.stream) same))
      (subst (λ js. IsOver names routes new js items w.job.stream) (sym (settled w.before w.after w.left w.are w.at))
      (over_job names routes old new w.before w.after w.job items w.whole (subst (Serving names old routes) w.were serving)));
})
went_whole names routes number g most old new place was mid now going.Blocked x is w settled = tt
went_whole names routes number g most old new place was mid now going.More x is w settled = tt
went_whole names routes number g most old new place was mid now (going.Stopped a) x is w settled = tt
went_whole names routes number g most old new place was mid now going.OutOfMemory x is w settled = tt

-- ---- one after the other

whole_through : (g : Settings) (routes : List Listed) (names : List ℕ) (number : ℕ) (a b c : List Entry) (was mid now : List OpenJob) (p : Progress) → Continues a b → Keeps names routes a b was mid
    → ((x : OpenJob) → WasHad g number b c mid x → WasHad g number a c was x) → WholeOfProgress g routes names number b c mid now p → WholeOfProgress g routes names number a c was now p
whole_through g routes names number a b c was mid now (progress.Worked (worked.Served s items)) later keeps had (inl k) =
    inl (record { job = k.job; stream = k.stream; had = had k.job k.had; over = λ serving. k.over (keeps serving) })
whole_through g routes names number a b c was mid now (progress.Worked (worked.Served s items)) later keeps had (inr pushed) =
    inr (pushed.0, pushed.1, (pushed.2.0, answered_between g number a b c c call.TakeJob _ later ([], refl) pushed.2.1))
whole_through g routes names number a b c was mid now (progress.More s) later keeps had said = tt
whole_through g routes names number a b c was mid now (progress.Worked (worked.Waiting s)) later keeps had said = tt
whole_through g routes names number a b c was mid now (progress.Worked (worked.Stopped r)) later keeps had said = tt
whole_through g routes names number a b c was mid now (progress.Worked (worked.NoMore r)) later keeps had said = tt
whole_through g routes names number a b c was mid now (progress.Worked worked.Idle) later keeps had said = tt
whole_through g routes names number a b c was mid now (progress.Worked worked.OutOfMemory) later keeps had said = tt

pub whole_since : (g : Settings) (a b c : Knowledge) (routes : List Listed) (was mid now : List OpenJob) (p : Progress) → IsOn a b → Continues a.front b.front → Keeps a.names routes a.front b.front was mid
    → ((x : OpenJob) → WasHad g a.number b.front c.front mid x → WasHad g a.number a.front c.front was x) → WholeOfProgress g routes b.names b.number b.front c.front mid now p
    → WholeOfProgress g routes a.names a.number a.front c.front was now p
whole_since g a b c routes was mid now p on later keeps had said =
    whole_through g routes a.names a.number a.front b.front c.front was mid now p later keeps had
    (subst (λ n. WholeOfProgress g routes a.names n b.front c.front mid now p) (ap (λ (x : Knowledge). x.number) on)
    (subst (λ names. WholeOfProgress g routes names b.number b.front c.front mid now p) (ap (λ (x : Knowledge). x.names) on) said))

-- ---- pushed metadata

pushed_answer : (a : Answer) → found_of a ≡ found.Pushed → (metadata : List ℕ) × (a ≡ answer.GotJob (job.Pushed metadata))
pushed_answer (answer.GotJob (job.Pushed metadata)) h = (metadata, refl)
pushed_answer (answer.GotJob (job.Asked q k initial message complete)) h = absurd (cc)
pushed_answer answer.NotYet h = absurd (cc)
pushed_answer answer.OutOfMemory h = absurd (cc)
pushed_answer _ h = absurd (cc)

pub was_pushed : (g : Settings) (number : ℕ) (old new : List Entry) (a : Answer) → found_of a ≡ found.Pushed → WasAnswered g number old new call.TakeJob a → IsPushed g number old new
was_pushed g number old new a is was = let p = pushed_answer a is in (p.0, subst (WasAnswered g number old new call.TakeJob) p.1 was)
