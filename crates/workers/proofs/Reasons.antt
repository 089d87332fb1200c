-- Why a step or a job ended as it did, by the answer to its call.
use Rattle.std.proofs.Common.{◌≡◌, ◌+◌, ◌∙◌, ℕ, Bool, true, if◌then◌else◌, List, length, inl, inr, refl, sym, ap, subst, arith}
use Rattle.std.specs.Prelude.{Option, None, Some}
use Rattle.rs_wire.specs.declared.call.Call.{Call}
use Rattle.rs_wire.specs.declared.call.Call.TheVariants as call
use Rattle.rs_wire.specs.declared.delivery.Delivery.{Delivery}
use Rattle.rs_wire.specs.declared.delivery.Delivery.TheVariants as delivery
use Rattle.rs_wire.specs.declared.fault.Refusal.{Refusal}
use Rattle.rs_wire.specs.declared.fault.Refusal.TheVariants as refusal
use Rattle.tape.specs.Answers.{leaves}
use Rattle.tape.specs.declared.answer.Answer.{Answer}
use Rattle.tape.specs.declared.answer.Answer.TheVariants as answer
use Rattle.tape.specs.declared.entry.Entry.{Entry}
use Rattle.handlers.specs.Listed.{Listed}
use Rattle.workers.specs.declared.job.OpenJob.{OpenJob}
use Rattle.workers.specs.declared.plan.Plan.TheVariants as plan
use Rattle.workers.specs.declared.outcome.Outcome.TheVariants as outcome
use Rattle.workers.specs.declared.outcome.Taken.TheVariants as taken
use Rattle.workers.specs.Replies.{law_of}
use Rattle.workers.specs.declared.step.Step.{Step}
use Rattle.workers.specs.declared.step.Step.TheVariants as step
use Rattle.workers.specs.Causes.{CauseOfStep, IsForGood, IsHindrance, IsLast, IsStopBy, IsStoppedBy, IsWaiting, WasAnswered}
use Rattle.workers.specs.Courses.{Course, HasSent, IsReplyOn, accepted_of, bytes_of, bytes_of_all, after_call, course}
use Rattle.workers.specs.Serving.{IsFinalTake}
use Rattle.session_laws.specs.Streams.{IsLawful}
use Rattle.workers.specs.Going.{Awaits, ClosesTake, IsAccepted, IsClosedOff, IsNextOf, IsOfReply, IsOfTake, MayAnswer, outcome_of, plan_of, taken_of, told}
use Rattle.rs_wire.specs.declared.settings.Settings.{Settings}
use Rattle.workers.proofs.AtEnd.{final_of, take_ends}
use Rattle.workers.proofs.Gone.{reply_only, take_here}
use Rattle.workers.proofs.Plans.{after_said, says_fairly}

blocked_hinders : (a : Answer) → outcome_of a ≡ outcome.Blocked → IsHindrance a
blocked_hinders (answer.Refused (refusal.NoCredit granted)) h = tt
blocked_hinders (answer.Refused (refusal.OutFull queued)) h = tt
blocked_hinders answer.NotYet h = tt
blocked_hinders _ h = absurd (cc)

final_for_good : (a : Answer) → outcome_of a ≡ outcome.Final → IsOfReply a → IsForGood a
final_for_good (answer.Refused (refusal.NoCredit granted)) h of = absurd (cc)
final_for_good (answer.Refused (refusal.OutFull queued)) h of = absurd (cc)
final_for_good (answer.Refused why) h of = tt
final_for_good answer.TapeFull h of = tt
final_for_good answer.Done h of = absurd (cc)
final_for_good answer.OutOfMemory h of = absurd (cc)
final_for_good _ h of = absurd of

-- the last call on a stream, where it left an entry
last_told : (s : ℕ) (asked : Call) (a : Answer) (c d : Course) → d ≡ told s asked a c → leaves a ≡ true → (after_call s asked a c).last ≡ Some (asked, a) → d.last ≡ Some (asked, a)
last_told s asked a c d is left last = ap (λ (x : Course). x.last) (is ∙ ap (λ b. if b then after_call s asked a c else c) left) ∙ last

reply_last : (names : List ℕ) (old new : List Entry) (j : OpenJob) (asked : Call) (a : Answer) → IsReplyOn j.stream asked → ((s : ℕ) → course names s new ≡ told s asked a (course names s old)) → IsLast names new j asked a
reply_last names old new j asked a on tells = λ left.
    last_told j.stream asked a (course names j.stream old) (course names j.stream new) (tells j.stream) left (ap (λ (x : Course). x.last) (after_said j.stream asked a (course names j.stream old) on))

take_last : (names : List ℕ) (old new : List Entry) (j : OpenJob) (a : Answer) → ((s : ℕ) → course names s new ≡ told s (call.Take j.stream) a (course names s old)) → IsLast names new j (call.Take j.stream) a
take_last names old new j a tells = λ left.
    last_told j.stream (call.Take j.stream) a (course names j.stream old) (course names j.stream new) (tells j.stream) left (ap (λ (x : Course). x.last) (take_here j.stream a (course names j.stream old)))

pub waiting_reply : (g : Settings) (routes : List Listed) (names : List ℕ) (number : ℕ) (old new : List Entry) (j : OpenJob) (asked : Call) (ends : Bool) (a : Answer) → outcome_of a ≡ outcome.Blocked → IsReplyOn j.stream asked
    → ((s : ℕ) → course names s new ≡ told s asked a (course names s old)) → WasAnswered g number old new asked a → plan_of (law_of routes j.kind j.message) j ≡ plan.Say asked ends
    → IsWaiting g routes names number old new j
waiting_reply g routes names number old new j asked ends a is on tells was plans = record {
  met = record { asked = asked; met = a; hindered = blocked_hinders a is; tried = record { next = inl (ends, plans); was = was } };
  last = reply_last names old new j asked a on tells;
}

pub stopped_reply : (g : Settings) (routes : List Listed) (names : List ℕ) (number : ℕ) (old new : List Entry) (j : OpenJob) (asked : Call) (ends : Bool) (a : Answer) → outcome_of a ≡ outcome.Final → IsReplyOn j.stream asked
    → MayAnswer asked a → ((s : ℕ) → course names s new ≡ told s asked a (course names s old)) → WasAnswered g number old new asked a → plan_of (law_of routes j.kind j.message) j ≡ plan.Say asked ends
    → IsStoppedBy g routes names number old new j a
stopped_reply g routes names number old new j asked ends a is on may tells was plans = record {
  asked = asked;
  tried = record { next = inl (ends, plans); was = was };
  last = reply_last names old new j asked a on tells;
  final = final_for_good a is (reply_only j.stream asked a on may);
}

pub done_bytes : (s : ℕ) (asked : Call) → IsReplyOn s asked → bytes_of_all (accepted_of asked answer.Done) ≡ bytes_of asked
done_bytes s (call.Next q message complete) on = let n : length message.content + 0 ≡ length message.content = omega arith in n
done_bytes s (call.Done q) on = refl
done_bytes s (call.Fail q code content) on = refl
done_bytes s (call.Take q) on = absurd on
done_bytes s call.TakeJob on = absurd on
done_bytes s (call.Request k initial message complete) on = absurd on
done_bytes s (call.Grant q n) on = absurd on
done_bytes s (call.Cancel q) on = absurd on
done_bytes s (call.Push metadata) on = absurd on
done_bytes s (call.Lease ttl count metadata) on = absurd on
done_bytes s call.Close on = absurd on

pub accepted_done : (a : Answer) → outcome_of a ≡ outcome.Accepted → a ≡ answer.Done
accepted_done answer.Done h = refl
accepted_done (answer.Refused (refusal.NoCredit granted)) h = absurd (cc)
accepted_done (answer.Refused (refusal.OutFull queued)) h = absurd (cc)
accepted_done answer.NotYet h = absurd (cc)
accepted_done answer.OutOfMemory h = absurd (cc)
accepted_done _ h = absurd (cc)

-- a reply was accepted
pub went_reply : (g : Settings) (routes : List Listed) (names : List ℕ) (number : ℕ) (old new : List Entry) (j : OpenJob) (s : ℕ) (asked : Call) (before : ℕ) (ends : Bool) (a : Answer) (result : Step) → outcome_of a ≡ outcome.Accepted
    → IsReplyOn s asked → HasSent names old new (bytes_of_all (accepted_of asked a)) → IsAccepted asked before ends result → CauseOfStep g routes names number old new j result
went_reply g routes names number old new j s asked before ends a (step.Went bytes) is on sent so =
    subst (HasSent names old new) (ap (λ b. bytes_of_all (accepted_of asked b)) (accepted_done a is) ∙ (done_bytes s asked on ∙ sym so)) sent
went_reply g routes names number old new j s asked before ends a (step.Served items) is on sent so = tt
went_reply g routes names number old new j s asked before ends a step.Blocked is on sent so = absurd so
went_reply g routes names number old new j s asked before ends a (step.Stopped r) is on sent so = absurd so
went_reply g routes names number old new j s asked before ends a step.OutOfMemory is on sent so = tt

got_blocks_not : (d : Delivery) → taken_of (answer.Got d) ≡ taken.Blocked → ⊥
got_blocks_not (delivery.Item message) h = absurd (cc)
got_blocks_not delivery.Complete h = absurd (cc)
got_blocks_not (delivery.Error code content) h = absurd (cc)
got_blocks_not delivery.Canceled h = absurd (cc)

blocked_take : (a : Answer) → taken_of a ≡ taken.Blocked → IsHindrance a
blocked_take (answer.Refused (refusal.NoCredit granted)) h = tt
blocked_take (answer.Refused (refusal.OutFull queued)) h = tt
blocked_take answer.NotYet h = tt
blocked_take (answer.Got d) h = absurd (got_blocks_not d h)
blocked_take _ h = absurd (cc)

-- a Take that was refused for good
final_take : (a b : Answer) → taken_of a ≡ taken.Final b → IsOfTake a → (a ≡ b) × IsForGood a
final_take (answer.Refused (refusal.NoCredit granted)) b h of = absurd (cc)
final_take (answer.Refused (refusal.OutFull queued)) b h of = absurd (cc)
final_take (answer.Refused refusal.Ended) b h of = absurd (cc)
final_take (answer.Refused why) b h of = (cc, tt)
final_take (answer.Got d) b h of = absurd (never d h)
  where
    never : (e : Delivery) → taken_of (answer.Got e) ≡ taken.Final b → ⊥
    never (delivery.Item message) is = absurd (cc)
    never delivery.Complete is = absurd (cc)
    never (delivery.Error code content) is = absurd (cc)
    never delivery.Canceled is = absurd (cc)
final_take answer.NotYet b h of = absurd (cc)
final_take answer.OutOfMemory b h of = absurd (cc)
final_take answer.TapeFull b h of = (cc, tt)
final_take _ b h of = absurd of

pub waiting_take : (g : Settings) (routes : List Listed) (names : List ℕ) (number : ℕ) (old new : List Entry) (j : OpenJob) (a : Answer) → taken_of a ≡ taken.Blocked
    → ((s : ℕ) → course names s new ≡ told s (call.Take j.stream) a (course names s old)) → WasAnswered g number old new (call.Take j.stream) a → Awaits routes j → IsWaiting g routes names number old new j
waiting_take g routes names number old new j a is tells was awaits = record {
  met = record { asked = call.Take j.stream; met = a; hindered = blocked_take a is; tried = record { next = inr (awaits, refl); was = was } };
  last = take_last names old new j a tells;
}

pub stopped_take : (g : Settings) (routes : List Listed) (names : List ℕ) (number : ℕ) (old new : List Entry) (j : OpenJob) (a b : Answer) → taken_of a ≡ taken.Final b → MayAnswer (call.Take j.stream) a
    → ((s : ℕ) → course names s new ≡ told s (call.Take j.stream) a (course names s old)) → WasAnswered g number old new (call.Take j.stream) a → Awaits routes j → IsStoppedBy g routes names number old new j b
stopped_take g routes names number old new j a b is may tells was awaits =
    let f = final_take a b is may in
    subst (IsStoppedBy g routes names number old new j) f.0 (record {
      asked = call.Take j.stream;
      tried = record { next = inr (awaits, refl); was = was };
      last = take_last names old new j a tells;
      final = f.1;
    })

-- ---- a job that was stopped by a Take

not_ended : (a b : Answer) (why : Refusal) → taken_of a ≡ taken.Final b → a ≡ answer.Refused why → why ≡ refusal.Ended → ⊥
not_ended a b why of is ended =
    let e : taken.End ≡ taken.Final b = ap taken_of (sym (is ∙ ap (λ w. answer.Refused w) ended)) ∙ of in
    absurd (cc)

-- a Take of a job that stood is refused for good only where the session is closed
pub closed_take : (g : Settings) (routes : List Listed) (names : List ℕ) (number : ℕ) (old new : List Entry) (j : OpenJob) (a b : Answer) → taken_of a ≡ taken.Final b → MayAnswer (call.Take j.stream) a → IsLawful g new
    → WasAnswered g number old new (call.Take j.stream) a → Awaits routes j → IsClosedOff names routes old new j b
closed_take g routes names number old new j a b of may lawful was awaits = λ stands last why is.
    let refused : a ≡ answer.Refused why = (final_take a b of may).0 ∙ is in
    subst IsFinalTake (sym is) (final_of why (take_ends g routes names number old new j a lawful was awaits stands why refused) (not_ended a b why of refused))

abbrev call_in : Call → Option (Call × Answer) → Call
call_in other None = other
call_in other (Some p) = p.0

one_call : (d : Course) (x y : Call) (a : Answer) → d.last ≡ Some (x, a) → d.last ≡ Some (y, a) → x ≡ y
one_call d x y a h k = ap (call_in x) (sym h ∙ k)

-- a reply is no Take
pub closed_reply : (names : List ℕ) (routes : List Listed) (old new : List Entry) (j : OpenJob) (asked : Call) (a : Answer) → IsReplyOn j.stream asked → ((s : ℕ) → course names s new ≡ told s asked a (course names s old))
    → IsClosedOff names routes old new j a
closed_reply names routes old new j asked a on tells = λ stands last why is.
    let take : asked ≡ call.Take j.stream = one_call (course names j.stream new) asked (call.Take j.stream) a (reply_last names old new j asked a on tells (ap leaves is)) last in
    absurd (subst (IsReplyOn j.stream) take on)

-- the Take that is the next call of a job is that of its stream
take_asked : (routes : List Listed) (j : OpenJob) (q : ℕ) → IsNextOf routes j (call.Take q) → call.Take q ≡ call.Take j.stream
take_asked routes j q (inl said) = absurd (says_fairly (law_of routes j.kind j.message) j (call.Take q) said.0 said.1).0
take_asked routes j q (inr taken) = taken.1

pub stop_by : (names : List ℕ) (routes : List Listed) (new : List Entry) (j : OpenJob) (asked : Call) (a : Answer) → IsNextOf routes j asked → IsForGood a → IsLast names new j asked a
    → ClosesTake j.stream (course names j.stream new) a → IsStopBy asked a
stop_by names routes new j (call.Take q) answer.TapeFull next good last closes = tt
stop_by names routes new j (call.Take q) (answer.Refused why) next good last closes =
    closes (last refl ∙ ap (λ (c : Call). Some (c, answer.Refused why)) (take_asked routes j q next)) why refl
stop_by names routes new j (call.Take q) _ next good last closes = absurd good
stop_by names routes new j _ a next good last closes = good
