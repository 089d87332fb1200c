-- How a job went on, by one call or by several.
use Rattle.std.proofs.Common.{◌≡◌, ◌≤◌, ◌+◌, ◌∙◌, ℕ, Bool, true, false, if◌then◌else◌, List, [], ◌∷◌, length, refl, sym, ap, subst, arith}
use Rattle.std.specs.Prelude.{◌^◌}
use Rattle.rs_wire.specs.declared.call.Call.{Call}
use Rattle.rs_wire.specs.declared.call.Call.TheVariants as call
use Rattle.rs_wire.specs.declared.delivery.Delivery.TheVariants as delivery
use Rattle.rs_wire.specs.declared.fault.Refusal.{Refusal}
use Rattle.rs_wire.specs.declared.fault.Refusal.TheVariants as refusal
use Rattle.tape.specs.Answers.{leaves}
use Rattle.tape.specs.declared.answer.Answer.{Answer}
use Rattle.tape.specs.declared.answer.Answer.TheVariants as answer
use Rattle.tape.specs.declared.entry.Entry.{Entry}
use Rattle.handlers.specs.Listed.{Listed}
use Rattle.workers.specs.declared.job.OpenJob.{OpenJob}
use Rattle.workers.specs.declared.job.Stage.TheVariants as stage
use Rattle.workers.specs.declared.plan.Plan.TheVariants as plan
use Rattle.workers.specs.declared.outcome.Outcome.{Outcome}
use Rattle.workers.specs.declared.outcome.Outcome.TheVariants as outcome
use Rattle.workers.specs.declared.outcome.Taken.{Taken}
use Rattle.workers.specs.Replies.{law_of}
use Rattle.workers.specs.Causes.{IsStoppedBy, IsWaiting}
use Rattle.workers.specs.Courses.{Course, GoesOn, HasSent, IsOfJob, IsReplyOn, accepted_of, is_done, after_call, after_take, course}
use Rattle.workers.specs.Serving.{IsServed, Stands}
use Rattle.workers.specs.Going.{Awaits, HasGone, HasWorked, IsOfReply, IsOfTake, IsSameJob, MayAnswer, left_after, left_with, outcome_of, plan_of, taken_of, told}
use Rattle.rs_wire.specs.declared.settings.Settings.{Settings}
use Rattle.conn_shared.specs.Members.{Continues, Knowledge}
use Rattle.workers.proofs.AtEnd.{AtEnd, final_of}
use Rattle.workers.proofs.Fronts.{goes_both, goes_later, goes_longer, goes_none, goes_weaker, sent_both, sent_less, stopped_since, waiting_since}
use Rattle.workers.proofs.Plans.{after_apart, after_said, other_test, same_test}
use Rattle.workers.proofs.Standing.{full_for_good, nothing_said, said_for_good, said_in_vain, said_last, said_more, skipped, took_end, took_in_vain, took_item, took_no_more}

-- ---- several calls

pub gone_both : (names : List ℕ) (routes : List Listed) (a b c : List Entry) (was mid : OpenJob) (left : List OpenJob) → IsSameJob was mid
    → HasGone names routes a b was (mid ∷ []) → HasGone names routes b c mid left → HasGone names routes a c was left
gone_both names routes a b c was mid left same h k =
    let s : mid.stream ≡ was.stream = ap (λ (j : OpenJob). j.stream) same in
    record {
      kept = λ st. subst (λ q. IsServed routes (length c) q (course names q c) left) s (k.kept (subst (λ q. Stands routes (course names q b) mid) (sym s) (h.kept st)));
      apart = λ q differs. k.apart q (λ is. differs (is ∙ s)) ∙ h.apart q differs;
      longer = omega (arith, h.longer, k.longer);
    }

pub gone_none : (names : List ℕ) (routes : List Listed) (a : List Entry) (j : OpenJob) → HasGone names routes a a j (j ∷ [])
gone_none names routes a j = record { kept = λ st. st; apart = λ q differs. refl; longer = omega arith }

-- without a call
pub gone_quietly : (names : List ℕ) (routes : List Listed) (a : List Entry) (j : OpenJob) (left : List OpenJob) → ((c : Course) → Stands routes c j → IsServed routes (length a) j.stream c left) → HasGone names routes a a j left
gone_quietly names routes a j left f = record { kept = λ st. f (course names j.stream a) st; apart = λ q differs. refl; longer = omega arith }

pub gone_skipped : (names : List ℕ) (routes : List Listed) (a : List Entry) (j : OpenJob) → plan_of (law_of routes j.kind j.message) j ≡ plan.Skip → HasGone names routes a a j (record j { stage = stage.Answered } ∷ [])
gone_skipped names routes a j is = gone_quietly names routes a j _ (λ c s. skipped routes c j s is)

pub gone_unsaid : (names : List ℕ) (routes : List Listed) (a : List Entry) (j : OpenJob) → plan_of (law_of routes j.kind j.message) j ≡ plan.Nothing → HasGone names routes a a j []
gone_unsaid names routes a j is = gone_quietly names routes a j [] (λ c s. nothing_said routes (length a) c j s is)

-- ---- one call

-- the entries told by the call, on the stream of the job and on the others
gone_by : (names : List ℕ) (routes : List Listed) (old new : List Entry) (j : OpenJob) (left : List OpenJob) (asked : Call) (a : Answer)
    → ((s : ℕ) → course names s new ≡ told s asked a (course names s old)) → length old ≤ length new
    → ((q : ℕ) (c : Course) → (q ≡ j.stream → ⊥) → after_call q asked a c ≡ c)
    → (Stands routes (course names j.stream old) j → IsServed routes (length new) j.stream (told j.stream asked a (course names j.stream old)) left)
    → HasGone names routes old new j left
gone_by names routes old new j left asked a tells longer apart kept = record {
  kept = λ st. subst (λ c. IsServed routes (length new) j.stream c left) (sym (tells j.stream)) (kept st);
  apart = λ q differs. tells q ∙ unchanged q differs;
  longer = longer;
}
  where
    same : (b : Bool) (c d : Course) → d ≡ c → (if b then d else c) ≡ c
    same true c d is = is
    same false c d is = refl

    unchanged : (q : ℕ) → (q ≡ j.stream → ⊥) → told q asked a (course names q old) ≡ course names q old
    unchanged q differs = same (leaves a) (course names q old) (after_call q asked a (course names q old)) (apart q (course names q old) differs)

pub reply_only : (s : ℕ) (asked : Call) (a : Answer) → IsReplyOn s asked → MayAnswer asked a → IsOfReply a
reply_only s (call.Next q message complete) a on h = h
reply_only s (call.Done q) a on h = h
reply_only s (call.Fail q code content) a on h = h
reply_only s (call.Take q) a on h = absurd on
reply_only s call.TakeJob a on h = absurd on
reply_only s (call.Request k initial message complete) a on h = absurd on
reply_only s (call.Grant q n) a on h = absurd on
reply_only s (call.Cancel q) a on h = absurd on
reply_only s (call.Push metadata) a on h = absurd on
reply_only s (call.Lease ttl count metadata) a on h = absurd on
reply_only s call.Close a on h = absurd on

-- a job that stood, after a reply
said : (routes : List Listed) (entries : ℕ) (c : Course) (j : OpenJob) (asked : Call) (last : Bool) (a : Answer) (made : ℕ) → made ≡ j.made + 1 → IsReplyOn j.stream asked → IsOfReply a
    → (a ≡ answer.TapeFull → 2 ^ 63 ≤ entries) → plan_of (law_of routes j.kind j.message) j ≡ plan.Say asked last → Stands routes c j
    → IsServed routes entries j.stream (told j.stream asked a c) (left_after (outcome_of a) last j made)
said routes entries c j asked true answer.Done made more on of full plans s =
    subst (λ d. IsServed routes entries j.stream d []) (sym (after_said j.stream asked answer.Done c on)) (said_last routes entries c j asked s plans)
said routes entries c j asked false answer.Done made more on of full plans s =
    subst (λ d. Stands routes d (record j { made = made; stage = stage.Answered })) (sym (after_said j.stream asked answer.Done c on)) (said_more routes c j asked made more s plans)
said routes entries c j asked last answer.TapeFull made more on of full plans s = full_for_good routes entries c j (full refl) s
said routes entries c j asked last answer.OutOfMemory made more on of full plans s = s
said routes entries c j asked last (answer.Refused (refusal.NoCredit granted)) made more on of full plans s =
    subst (λ d. Stands routes d j) (sym (after_said j.stream asked _ c on)) (said_in_vain routes c j asked (refusal.NoCredit granted) s)
said routes entries c j asked last (answer.Refused (refusal.OutFull queued)) made more on of full plans s =
    subst (λ d. Stands routes d j) (sym (after_said j.stream asked _ c on)) (said_in_vain routes c j asked (refusal.OutFull queued) s)
said routes entries c j asked last (answer.Refused why) made more on of full plans s =
    subst (λ d. IsServed routes entries j.stream d []) (sym (after_said j.stream asked _ c on)) (said_for_good routes entries c j asked last why tt s plans)
said routes entries c j asked last _ made more on of full plans s = absurd of

pub gone_said : (names : List ℕ) (routes : List Listed) (old new : List Entry) (j : OpenJob) (asked : Call) (last : Bool) (a : Answer) (made : ℕ) → made ≡ j.made + 1 → IsReplyOn j.stream asked → MayAnswer asked a
    → ((s : ℕ) → course names s new ≡ told s asked a (course names s old)) → length old ≤ length new → (a ≡ answer.TapeFull → 2 ^ 63 ≤ length new)
    → plan_of (law_of routes j.kind j.message) j ≡ plan.Say asked last → HasGone names routes old new j (left_after (outcome_of a) last j made)
gone_said names routes old new j asked last a made more on may tells longer full plans =
    gone_by names routes old new j _ asked a tells longer (λ q c differs. after_apart j.stream q asked a c on differs)
    (λ s. said routes (length new) (course names j.stream old) j asked last a made more on (reply_only j.stream asked a on may) full plans s)

-- ---- a Take

pub take_here : (s : ℕ) (a : Answer) (c : Course) → after_call s (call.Take s) a c ≡ after_take s a c
take_here s a c = rw (same_test s s refl) refl

take_apart : (s q : ℕ) (a : Answer) (c : Course) → (q ≡ s → ⊥) → after_call q (call.Take s) a c ≡ c
take_apart s q a c differs = rw (other_test s q (λ e. differs (sym e))) refl

took : (routes : List Listed) (entries : ℕ) (c : Course) (j : OpenJob) (a : Answer) → Awaits routes j → ((why : Refusal) → a ≡ answer.Refused why → AtEnd why) → IsOfTake a → (a ≡ answer.TapeFull → 2 ^ 63 ≤ entries) → Stands routes c j
    → IsServed routes entries j.stream (told j.stream (call.Take j.stream) a c) (left_with (taken_of a) j)
took routes entries c j (answer.Got (delivery.Item message)) w ends of full s = subst (λ d. Stands routes d (record j { stage = stage.Taken message.content })) (sym (take_here j.stream _ c)) (took_item routes c j message w s)
took routes entries c j (answer.Got d) w ends of full s = subst (λ e. Stands routes e (record j { stage = stage.Over })) (sym (take_here j.stream _ c)) (took_end routes c j (answer.Got d) refl w s)
took routes entries c j answer.NotYet w ends of full s = s
took routes entries c j answer.TapeFull w ends of full s = full_for_good routes entries c j (full refl) s
took routes entries c j answer.OutOfMemory w ends of full s = s
took routes entries c j (answer.Refused refusal.Ended) w ends of full s = subst (λ d. Stands routes d (record j { stage = stage.Over })) (sym (take_here j.stream _ c)) (took_end routes c j (answer.Refused refusal.Ended) refl w s)
took routes entries c j (answer.Refused (refusal.NoCredit granted)) w ends of full s = subst (λ d. Stands routes d j) (sym (take_here j.stream _ c)) (took_in_vain routes c j (answer.Refused (refusal.NoCredit granted)) refl refl w s)
took routes entries c j (answer.Refused (refusal.OutFull queued)) w ends of full s = subst (λ d. Stands routes d j) (sym (take_here j.stream _ c)) (took_in_vain routes c j (answer.Refused (refusal.OutFull queued)) refl refl w s)
took routes entries c j (answer.Refused why) w ends of full s = subst (λ d. IsServed routes entries j.stream d []) (sym (take_here j.stream (answer.Refused why) c)) (took_no_more routes entries c j (answer.Refused why) (final_of why (ends why refl) (λ e. absurd (cc))) w s)
took routes entries c j _ w ends of full s = absurd of

pub gone_took : (names : List ℕ) (routes : List Listed) (old new : List Entry) (j : OpenJob) (a : Answer) → Awaits routes j
    → (Stands routes (course names j.stream old) j → (why : Refusal) → a ≡ answer.Refused why → AtEnd why) → MayAnswer (call.Take j.stream) a
    → ((s : ℕ) → course names s new ≡ told s (call.Take j.stream) a (course names s old)) → length old ≤ length new → (a ≡ answer.TapeFull → 2 ^ 63 ≤ length new)
    → HasGone names routes old new j (left_with (taken_of a) j)
gone_took names routes old new j a w ends may tells longer full =
    gone_by names routes old new j _ (call.Take j.stream) a tells longer (λ q c differs. take_apart j.stream q a c differs)
    (λ s. took routes (length new) (course names j.stream old) j a w (ends s) may full s)

-- ---- how many replies, and why no more

pub is_of_job : (s : ℕ) (asked : Call) → IsReplyOn s asked → IsOfJob s asked
is_of_job s (call.Next q message complete) on = on
is_of_job s (call.Done q) on = on
is_of_job s (call.Fail q code content) on = on
is_of_job s (call.Take q) on = absurd on
is_of_job s call.TakeJob on = absurd on
is_of_job s (call.Request k initial message complete) on = absurd on
is_of_job s (call.Grant q n) on = absurd on
is_of_job s (call.Cancel q) on = absurd on
is_of_job s (call.Push metadata) on = absurd on
is_of_job s (call.Lease ttl count metadata) on = absurd on
is_of_job s call.Close on = absurd on

done_count : (s : ℕ) (asked : Call) → IsReplyOn s asked → length (accepted_of asked answer.Done) ≡ 1
done_count s (call.Next q message complete) on = refl
done_count s (call.Done q) on = refl
done_count s (call.Fail q code content) on = refl
done_count s (call.Take q) on = absurd on
done_count s call.TakeJob on = absurd on
done_count s (call.Request k initial message complete) on = absurd on
done_count s (call.Grant q n) on = absurd on
done_count s (call.Cancel q) on = absurd on
done_count s (call.Push metadata) on = absurd on
done_count s (call.Lease ttl count metadata) on = absurd on
done_count s call.Close on = absurd on

none_count : (asked : Call) (a : Answer) → is_done a ≡ false → length (accepted_of asked a) ≡ 0
none_count (call.Next q message complete) a h = rw h refl
none_count (call.Done q) a h = rw h refl
none_count (call.Fail q code content) a h = rw h refl
none_count (call.Take q) a h = refl
none_count call.TakeJob a h = refl
none_count (call.Request k initial message complete) a h = refl
none_count (call.Grant q n) a h = refl
none_count (call.Cancel q) a h = refl
none_count (call.Push metadata) a h = refl
none_count (call.Lease ttl count metadata) a h = refl
none_count call.Close a h = refl

-- how many replies there are after one with this outcome
abbrev pub made_after : Outcome → ℕ → ℕ
made_after outcome.Accepted made = made + 1
made_after _ made = made

reply_count : (s : ℕ) (asked : Call) (a : Answer) (made : ℕ) → IsReplyOn s asked → made_after (outcome_of a) made ≡ made + length (accepted_of asked a)
reply_count s asked answer.Done made on = let n = done_count s asked on in omega arith
reply_count s asked (answer.Refused (refusal.NoCredit granted)) made on = let n = none_count asked (answer.Refused (refusal.NoCredit granted)) refl in omega arith
reply_count s asked (answer.Refused (refusal.OutFull queued)) made on = let n = none_count asked (answer.Refused (refusal.OutFull queued)) refl in omega arith
reply_count s asked answer.NotYet made on = let n = none_count asked answer.NotYet refl in omega arith
reply_count s asked answer.OutOfMemory made on = let n = none_count asked answer.OutOfMemory refl in omega arith
reply_count s asked (answer.Refused why) made on = let n = none_count asked (answer.Refused why) refl in omega arith
reply_count s asked answer.TapeFull made on = let n = none_count asked answer.TapeFull refl in omega arith
reply_count s asked (answer.Opened number) made on = let n = none_count asked (answer.Opened number) refl in omega arith
reply_count s asked (answer.Started id) made on = let n = none_count asked (answer.Started id) refl in omega arith
reply_count s asked (answer.Got d) made on = let n = none_count asked (answer.Got d) refl in omega arith
reply_count s asked (answer.GotJob job) made on = let n = none_count asked (answer.GotJob job) refl in omega arith
reply_count s asked (answer.Drawn count) made on = let n = none_count asked (answer.Drawn count) refl in omega arith
reply_count s asked answer.Parted made on = let n = none_count asked answer.Parted refl in omega arith
reply_count s asked answer.Quiet made on = let n = none_count asked answer.Quiet refl in omega arith
reply_count s asked answer.Sent made on = let n = none_count asked answer.Sent refl in omega arith
reply_count s asked (answer.Dead last) made on = let n = none_count asked (answer.Dead last) refl in omega arith
reply_count s asked answer.Handled made on = let n = none_count asked answer.Handled refl in omega arith
reply_count s asked (answer.PeerError code) made on = let n = none_count asked (answer.PeerError code) refl in omega arith
reply_count s asked (answer.Violation rule) made on = let n = none_count asked (answer.Violation rule) refl in omega arith
reply_count s asked (answer.SetupRefused fault) made on = let n = none_count asked (answer.SetupRefused fault) refl in omega arith
reply_count s asked (answer.ResumeRefused gone) made on = let n = none_count asked (answer.ResumeRefused gone) refl in omega arith
reply_count s asked (answer.Stale conn) made on = let n = none_count asked (answer.Stale conn) refl in omega arith
reply_count s asked (answer.Closed cause) made on = let n = none_count asked (answer.Closed cause) refl in omega arith
reply_count s asked (answer.OutBusy queued) made on = let n = none_count asked (answer.OutBusy queued) refl in omega arith

pub worked_said : (names : List ℕ) (number : ℕ) (old new : List Entry) (j i : OpenJob) (asked : Call) (a : Answer) → IsReplyOn j.stream asked → i.made ≡ made_after (outcome_of a) j.made
    → GoesOn (λ c. c ≡ asked) names number old new (length (accepted_of asked a)) → HasWorked names number old new j i
worked_said names number old new j i asked a on made goes = record {
  replies = length (accepted_of asked a);
  goes = goes_weaker (λ c. c ≡ asked) (IsOfJob j.stream) names number old new _ (λ c is. subst (IsOfJob j.stream) (sym is) (is_of_job j.stream asked on)) goes;
  made = made ∙ reply_count j.stream asked a j.made on;
}

pub worked_took : (names : List ℕ) (number : ℕ) (old new : List Entry) (j i : OpenJob) (a : Answer) → i.made ≡ j.made
    → GoesOn (λ c. c ≡ call.Take j.stream) names number old new (length (accepted_of (call.Take j.stream) a)) → HasWorked names number old new j i
worked_took names number old new j i a made goes = record {
  replies = 0;
  goes = goes_weaker (λ c. c ≡ call.Take j.stream) (IsOfJob j.stream) names number old new 0 (λ c is. subst (IsOfJob j.stream) (sym is) refl) goes;
  made = omega arith;
}

pub worked_none : (names : List ℕ) (number : ℕ) (a : List Entry) (j i : OpenJob) → i.made ≡ j.made → HasWorked names number a a j i
worked_none names number a j i made = record { replies = 0; goes = goes_none (IsOfJob j.stream) names number a; made = omega arith }

pub worked_both : (names : List ℕ) (number : ℕ) (a b c : List Entry) (was mid now : OpenJob) → IsSameJob was mid → HasWorked names number a b was mid → HasWorked names number b c mid now → HasWorked names number a c was now
worked_both names number a b c was mid now same h k =
    let s : mid.stream ≡ was.stream = ap (λ (j : OpenJob). j.stream) same in
    record {
      replies = h.replies + k.replies;
      goes = goes_both (IsOfJob was.stream) names number a b c h.replies k.replies h.goes (subst (λ q. GoesOn (IsOfJob q) names number b c k.replies) s k.goes);
      made = (let x = h.made in let y = k.made in omega arith);
    }

pub same_both : (was mid now : OpenJob) → IsSameJob was mid → IsSameJob mid now → IsSameJob was now
same_both was mid now h k = k ∙ ap (λ (j : OpenJob). record j { made = now.made; stage = now.stage }) h

-- ---- by the outcome

pub said_by : (names : List ℕ) (routes : List Listed) (number : ℕ) (old new : List Entry) (j : OpenJob) (asked : Call) (last : Bool) (a : Answer) (made : ℕ) (o : Outcome) → outcome_of a ≡ o → made ≡ j.made + 1
    → IsReplyOn j.stream asked → MayAnswer asked a → ((s : ℕ) → course names s new ≡ told s asked a (course names s old)) → GoesOn (λ c. c ≡ asked) names number old new (length (accepted_of asked a))
    → (a ≡ answer.TapeFull → 2 ^ 63 ≤ length new) → plan_of (law_of routes j.kind j.message) j ≡ plan.Say asked last → HasGone names routes old new j (left_after o last j made)
said_by names routes number old new j asked last a made o is more on may tells goes full plans =
    subst (λ u. HasGone names routes old new j (left_after u last j made)) is
    (gone_said names routes old new j asked last a made more on may tells (goes_longer (λ c. c ≡ asked) names number old new _ goes) full plans)

pub took_by : (names : List ℕ) (routes : List Listed) (number : ℕ) (old new : List Entry) (j : OpenJob) (a : Answer) (t : Taken) → taken_of a ≡ t → Awaits routes j
    → (Stands routes (course names j.stream old) j → (why : Refusal) → a ≡ answer.Refused why → AtEnd why) → MayAnswer (call.Take j.stream) a
    → ((s : ℕ) → course names s new ≡ told s (call.Take j.stream) a (course names s old)) → GoesOn (λ c. c ≡ call.Take j.stream) names number old new (length (accepted_of (call.Take j.stream) a))
    → (a ≡ answer.TapeFull → 2 ^ 63 ≤ length new) → HasGone names routes old new j (left_with t j)
took_by names routes number old new j a t is w ends may tells goes full =
    subst (λ u. HasGone names routes old new j (left_with u j)) is
    (gone_took names routes old new j a w ends may tells (goes_longer (λ c. c ≡ call.Take j.stream) names number old new _ goes) full)

-- ---- one after the other, as the caller knows

-- only the front and the note differ
abbrev pub IsOn : Knowledge → Knowledge → Type 0
IsOn was now = now ≡ record was { front = now.front; note = now.note }

pub on_both : (was mid now : Knowledge) → IsOn was mid → IsOn mid now → IsOn was now
on_both was mid now h k = k ∙ ap (λ (x : Knowledge). record x { front = now.front; note = now.note }) h

pub gone_after : (was mid now : Knowledge) (routes : List Listed) (i j : OpenJob) (left : List OpenJob) → IsOn was mid → IsSameJob i j
    → HasGone was.names routes was.front mid.front i (j ∷ []) → HasGone mid.names routes mid.front now.front j left → HasGone was.names routes was.front now.front i left
gone_after was mid now routes i j left on same h k =
    gone_both was.names routes was.front mid.front now.front i j left same h (subst (λ names. HasGone names routes mid.front now.front j left) (ap (λ (x : Knowledge). x.names) on) k)

pub worked_after : (was mid now : Knowledge) (i j k : OpenJob) → IsOn was mid → IsSameJob i j
    → HasWorked was.names was.number was.front mid.front i j → HasWorked mid.names mid.number mid.front now.front j k → HasWorked was.names was.number was.front now.front i k
worked_after was mid now i j k on same h w =
    worked_both was.names was.number was.front mid.front now.front i j k same h
    (subst (λ n. HasWorked was.names n mid.front now.front j k) (ap (λ (x : Knowledge). x.number) on) (subst (λ names. HasWorked names mid.number mid.front now.front j k) (ap (λ (x : Knowledge). x.names) on) w))

pub worked_later : (names : List ℕ) (number : ℕ) (a b : List Entry) (i j : OpenJob) → HasWorked names number a b i j → Continues a b
worked_later names number a b i j w = goes_later (IsOfJob i.stream) names number a b w.replies w.goes

-- as the caller was known before
pub waiting_after : (g : Settings) (routes : List Listed) (was mid now : Knowledge) (i j k : OpenJob) → IsOn was mid → HasWorked was.names was.number was.front mid.front i j
    → IsWaiting g routes mid.names mid.number mid.front now.front k → IsWaiting g routes was.names was.number was.front now.front k
waiting_after g routes was mid now i j k on w h =
    waiting_since g routes was.names was.number was.front mid.front now.front k (worked_later was.names was.number was.front mid.front i j w)
    (subst (λ n. IsWaiting g routes was.names n mid.front now.front k) (ap (λ (x : Knowledge). x.number) on) (subst (λ names. IsWaiting g routes names mid.number mid.front now.front k) (ap (λ (x : Knowledge). x.names) on) h))

pub stopped_after : (g : Settings) (routes : List Listed) (was mid now : Knowledge) (i j k : OpenJob) (r : Answer) → IsOn was mid → HasWorked was.names was.number was.front mid.front i j
    → IsStoppedBy g routes mid.names mid.number mid.front now.front k r → IsStoppedBy g routes was.names was.number was.front now.front k r
stopped_after g routes was mid now i j k r on w h =
    stopped_since g routes was.names was.number was.front mid.front now.front k r (worked_later was.names was.number was.front mid.front i j w)
    (subst (λ n. IsStoppedBy g routes was.names n mid.front now.front k r) (ap (λ (x : Knowledge). x.number) on) (subst (λ names. IsStoppedBy g routes names mid.number mid.front now.front k r) (ap (λ (x : Knowledge). x.names) on) h))

pub sent_after : (was mid now : Knowledge) (m n sum : ℕ) → IsOn was mid → sum ≤ m + n → HasSent was.names was.front mid.front m → HasSent mid.names mid.front now.front n → HasSent was.names was.front now.front sum
sent_after was mid now m n sum on le h k =
    sent_less was.names was.front now.front sum (m + n) le
    (sent_both was.names was.front mid.front now.front m n h (subst (λ names. HasSent names mid.front now.front n) (ap (λ (x : Knowledge). x.names) on) k))
