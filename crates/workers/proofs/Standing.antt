-- A job that stands in the work, over one call of its worker.
use Rattle.std.proofs.Common.{◌≡◌, ◌≤◌, ◌+◌, ◌||◌, ◌∙◌, ℕ, suc, Bool, true, false, List, [], ◌∷◌, ◌++◌, length, inl, inr, refl, sym, ap, subst, arith, append-nil}
use Rattle.std.specs.Prelude.{Option, Some, None, ◌^◌}
use Rattle.rs_wire.specs.declared.words.Kind.{Kind}
use Rattle.rs_wire.specs.declared.words.Kind.TheVariants as kind
use Rattle.rs_wire.specs.declared.message.Message.{Message}
use Rattle.rs_wire.specs.declared.call.Call.{Call}
use Rattle.rs_wire.specs.declared.call.Call.TheVariants as call
use Rattle.rs_wire.specs.declared.delivery.Delivery.TheVariants as delivery
use Rattle.rs_wire.specs.declared.fault.Refusal.{Refusal}
use Rattle.tape.specs.declared.answer.Answer.{Answer}
use Rattle.tape.specs.declared.answer.Answer.TheVariants as answer
use Rattle.handlers.specs.Listed.{Listed}
use Rattle.handlers.specs.declared.law.Law.{Law}
use Rattle.workers.specs.declared.job.OpenJob.{OpenJob}
use Rattle.workers.specs.declared.job.Stage.{Stage}
use Rattle.workers.specs.declared.job.Stage.TheVariants as stage
use Rattle.workers.specs.declared.plan.Plan.{Plan}
use Rattle.workers.specs.declared.plan.Plan.TheVariants as plan
use Rattle.workers.specs.Replies.{AreReplies, answers, channel_reply, law_of, reply}
use Rattle.workers.specs.Courses.{Course, after_reply, after_take, got_in, tells_end}
use Rattle.workers.specs.Serving.{IsAt, IsAtContent, IsDone, IsFinal, IsFinalTake, IsGone, IsWhole, IsWholeJob, Stands, replies_of}
use Rattle.workers.specs.Going.{Awaits, plan_of}
use Rattle.workers.proofs.Plans.{PlanFits, Says, answers-append, plan_fits, replies_grow}

-- what the plan of a job that stands is for
pub stands_fits : (routes : List Listed) (c : Course) (j : OpenJob) (p : Plan) → Stands routes c j → plan_of (law_of routes j.kind j.message) j ≡ p
    → PlanFits (law_of routes j.kind j.message) j.kind j.stream j.message.content c.got c.over j.made p
stands_fits routes c j p s is =
    subst (PlanFits (law_of routes j.kind j.message) j.kind j.stream j.message.content c.got c.over j.made) is
    (plan_fits (law_of routes j.kind j.message) j.kind j.stream j.message.content c.got c.over j.made j.stage s.at)

-- ---- replies that were accepted

-- the replies with this one, which is the next
more_replies : (routes : List Listed) (c : Course) (j : OpenJob) (asked : Call) (last : Bool) (s : Stands routes c j) → Says (law_of routes j.kind j.message) j.kind j.stream j.message.content c.got c.over j.made asked last
    → AreReplies (replies_of routes j.stream j.kind j.message c) (asked ∷ c.made)
more_replies routes c j asked last s says = (subst (λ n. replies_of routes j.stream j.kind j.message c n ≡ Some asked) s.made says.next, s.replies)

pub said_more : (routes : List Listed) (c : Course) (j : OpenJob) (asked : Call) (made : ℕ) → made ≡ j.made + 1 → Stands routes c j → plan_of (law_of routes j.kind j.message) j ≡ plan.Say asked false
    → Stands routes (after_reply asked answer.Done c) (record j { made = made; stage = stage.Answered })
said_more routes c j asked made is s plans =
    let says = stands_fits routes c j (plan.Say asked false) s plans in
    let one : made ≡ suc j.made = omega arith in
    record {
      initial = s.initial;
      complete = s.complete;
      got = s.got;
      made = one ∙ ap suc s.made;
      replies = more_replies routes c j asked false s says;
      at = subst (λ n. IsAt (law_of routes j.kind j.message) j.kind j.message.content c.got c.over n stage.Answered) (sym one) says.after;
    }

-- a job that stood is done, as its stream went since
done_job : (routes : List Listed) (entries : ℕ) (c d : Course) (j : OpenJob) → Stands routes c j → d.job ≡ c.job → IsDone routes entries j.stream j.kind j.message d → IsGone routes entries j.stream d d.job
done_job routes entries c d j s same done = subst (IsGone routes entries j.stream d) (sym (same ∙ s.got)) done

-- and is whole
whole_job : (routes : List Listed) (c d : Course) (j : OpenJob) → Stands routes c j → d.job ≡ c.job → IsWhole (law_of routes j.kind j.message) j.kind j.stream j.message d → IsWholeJob routes j.stream d d.job
whole_job routes c d j s same whole = subst (IsWholeJob routes j.stream d) (sym (same ∙ s.got)) whole

pub whole_last : (routes : List Listed) (c : Course) (j : OpenJob) (asked : Call) → Stands routes c j → plan_of (law_of routes j.kind j.message) j ≡ plan.Say asked true
    → IsWholeJob routes j.stream (after_reply asked answer.Done c) c.job
whole_last routes c j asked s plans =
    let says = stands_fits routes c j (plan.Say asked true) s plans in
    whole_job routes c (after_reply asked answer.Done c) j s refl
    (subst (λ n. reply (law_of routes j.kind j.message) j.kind j.stream j.message.content c.got true (suc n) ≡ None) s.made says.after)

pub whole_unsaid : (routes : List Listed) (c : Course) (j : OpenJob) → Stands routes c j → plan_of (law_of routes j.kind j.message) j ≡ plan.Nothing → IsWholeJob routes j.stream c c.job
whole_unsaid routes c j s plans =
    whole_job routes c c j s refl
    (subst (λ n. reply (law_of routes j.kind j.message) j.kind j.stream j.message.content c.got true n ≡ None) s.made (stands_fits routes c j plan.Nothing s plans))

pub said_last : (routes : List Listed) (entries : ℕ) (c : Course) (j : OpenJob) (asked : Call) → Stands routes c j → plan_of (law_of routes j.kind j.message) j ≡ plan.Say asked true
    → IsGone routes entries j.stream (after_reply asked answer.Done c) c.job
said_last routes entries c j asked s plans =
    let says = stands_fits routes c j (plan.Say asked true) s plans in
    done_job routes entries c (after_reply asked answer.Done c) j s refl (record {
      replies = more_replies routes c j asked true s says;
      why = inl (subst (λ n. reply (law_of routes j.kind j.message) j.kind j.stream j.message.content c.got true (suc n) ≡ None) s.made says.after);
    })

-- ---- replies that were refused

pub said_in_vain : (routes : List Listed) (c : Course) (j : OpenJob) (asked : Call) (why : Refusal) → Stands routes c j → Stands routes (after_reply asked (answer.Refused why) c) j
said_in_vain routes c j asked why s = record { initial = s.initial; complete = s.complete; got = s.got; made = s.made; replies = s.replies; at = s.at }

pub said_for_good : (routes : List Listed) (entries : ℕ) (c : Course) (j : OpenJob) (asked : Call) (last : Bool) (why : Refusal) → IsFinal (answer.Refused why) → Stands routes c j
    → plan_of (law_of routes j.kind j.message) j ≡ plan.Say asked last → IsGone routes entries j.stream (after_reply asked (answer.Refused why) c) c.job
said_for_good routes entries c j asked last why final s plans =
    let says = stands_fits routes c j (plan.Say asked last) s plans in
    done_job routes entries c (after_reply asked (answer.Refused why) c) j s refl (record {
      replies = s.replies;
      why = inr (inl (record {
        asked = asked;
        refused = answer.Refused why;
        last = refl;
        stop = inl (subst (λ n. replies_of routes j.stream j.kind j.message c n ≡ Some asked) s.made says.next, final);
      }));
    })

pub full_for_good : (routes : List Listed) (entries : ℕ) (c : Course) (j : OpenJob) → 2 ^ 63 ≤ entries → Stands routes c j → IsGone routes entries j.stream c c.job
full_for_good routes entries c j full s = done_job routes entries c c j s refl (record { replies = s.replies; why = inr (inr full) })

-- ---- no reply

pub skipped : (routes : List Listed) (c : Course) (j : OpenJob) → Stands routes c j → plan_of (law_of routes j.kind j.message) j ≡ plan.Skip → Stands routes c (record j { stage = stage.Answered })
skipped routes c j s plans = record { initial = s.initial; complete = s.complete; got = s.got; made = s.made; replies = s.replies; at = stands_fits routes c j plan.Skip s plans }

pub nothing_said : (routes : List Listed) (entries : ℕ) (c : Course) (j : OpenJob) → Stands routes c j → plan_of (law_of routes j.kind j.message) j ≡ plan.Nothing → IsGone routes entries j.stream c c.job
nothing_said routes entries c j s plans = done_job routes entries c c j s refl (record {
  replies = s.replies;
  why = inl (subst (λ n. reply (law_of routes j.kind j.message) j.kind j.stream j.message.content c.got true n ≡ None) s.made (stands_fits routes c j plan.Nothing s plans));
})

-- ---- a content of a channel is taken

-- where the replies of a channel stand for fewer contents, they stand for more
grown : (lo : Option Law) (k : Kind) (l : Law) (s : ℕ) (content : List ℕ) (got more : List (List ℕ)) (over0 over1 : Bool) (made : List Call) → lo ≡ Some l → k ≡ kind.Channel → over0 ≡ false
    → AreReplies (reply lo k s content got over0) made → AreReplies (reply lo k s content (got ++ more) over1) made
unfolding reply
grown lo k l s content got more over0 over1 made law is still h =
    subst (λ o. AreReplies (reply o k s content (got ++ more) over1) made) (sym law)
    (subst (λ q. AreReplies (reply (Some l) q s content (got ++ more) over1) made) (sym is)
    (subst (λ vs. AreReplies (channel_reply s vs over1) made) (sym (append_all))
    (replies_grow s (answers l (content ∷ got)) (answers l more) over1 made
    (subst (λ b. AreReplies (channel_reply s (answers l (content ∷ got)) b) made) still
    (subst (λ q. AreReplies (reply (Some l) q s content got over0) made) is
    (subst (λ o. AreReplies (reply o k s content got over0) made) law h))))))
  where
    append_all : answers l (content ∷ (got ++ more)) ≡ answers l (content ∷ got) ++ answers l more
    append_all = answers-append l (content ∷ got) more

-- a job stands with the contents that are got, at another stage
taken_on : (routes : List Listed) (c : Course) (j : OpenJob) (l : Law) (more : List (List ℕ)) (over : Bool) (last : Option (Call × Answer)) (at : Stage)
    → law_of routes j.kind j.message ≡ Some l → j.kind ≡ kind.Channel → c.over ≡ false → Stands routes c j → IsAtContent l j.message.content (c.got ++ more) over j.made at
    → Stands routes (record c { got = c.got ++ more; over = over; last = last }) (record j { stage = at })
taken_on routes c j l more over last at law is still s there = record {
  initial = s.initial;
  complete = s.complete;
  got = s.got;
  made = s.made;
  replies = grown (law_of routes j.kind j.message) j.kind l j.stream j.message.content c.got more c.over over c.made law is still s.replies;
  at = subst (λ o. IsAt o j.kind j.message.content (c.got ++ more) over j.made at) (sym law) (subst (λ q. IsAt (Some l) q j.message.content (c.got ++ more) over j.made at) (sym is) there);
}

awaits_at : (routes : List Listed) (c : Course) (j : OpenJob) (w : Awaits routes j) → Stands routes c j → IsAtContent w.law j.message.content c.got c.over j.made stage.Answered
awaits_at routes c j w s =
    subst (λ at. IsAtContent w.law j.message.content c.got c.over j.made at) w.answered
    (subst (λ q. IsAt (Some w.law) q j.message.content c.got c.over j.made j.stage) w.channel
    (subst (λ o. IsAt o j.kind j.message.content c.got c.over j.made j.stage) w.found s.at))

pub took_item : (routes : List Listed) (c : Course) (j : OpenJob) (message : Message) → Awaits routes j → Stands routes c j
    → Stands routes (after_take j.stream (answer.Got (delivery.Item message)) c) (record j { stage = stage.Taken message.content })
took_item routes c j message w s =
    let at = awaits_at routes c j w s in
    taken_on routes c j w.law (message.content ∷ []) (c.over || false) _ (stage.Taken message.content) w.found w.channel at.0 s
    (c.got, refl, ap (λ b. b || false) at.0, at.1)

end_brings_none : (a : Answer) → tells_end a ≡ true → got_in a ≡ []
end_brings_none (answer.Got (delivery.Item message)) h = absurd (cc)
end_brings_none _ h = refl

pub took_end : (routes : List Listed) (c : Course) (j : OpenJob) (a : Answer) → tells_end a ≡ true → Awaits routes j → Stands routes c j
    → Stands routes (after_take j.stream a c) (record j { stage = stage.Over })
took_end routes c j a ends w s =
    let at = awaits_at routes c j w s in
    let none : c.got ++ got_in a ≡ c.got = ap (λ ds. c.got ++ ds) (end_brings_none a ends) ∙ append-nil c.got in
    taken_on routes c j w.law (got_in a) (c.over || tells_end a) _ stage.Over w.found w.channel at.0 s
    (ap (λ b. b || tells_end a) at.0 ∙ ends, at.1 ∙ ap (λ ds. length (answers w.law (j.message.content ∷ ds))) (sym none))

pub took_in_vain : (routes : List Listed) (c : Course) (j : OpenJob) (a : Answer) → tells_end a ≡ false → got_in a ≡ [] → Awaits routes j → Stands routes c j → Stands routes (after_take j.stream a c) j
took_in_vain routes c j a more none w s =
    let at = awaits_at routes c j w s in
    let same : c.got ++ got_in a ≡ c.got = ap (λ ds. c.got ++ ds) none ∙ append-nil c.got in
    let still : (c.over || tells_end a) ≡ false = ap (λ b. b || tells_end a) at.0 ∙ more in
    taken_on routes c j w.law (got_in a) (c.over || tells_end a) _ j.stage w.found w.channel at.0 s
    (subst (IsAtContent w.law j.message.content (c.got ++ got_in a) (c.over || tells_end a) j.made) (sym w.answered)
    (still, at.1 ∙ ap (λ ds. length (answers w.law (j.message.content ∷ ds))) (sym same)))

pub took_no_more : (routes : List Listed) (entries : ℕ) (c : Course) (j : OpenJob) (a : Answer) → IsFinalTake a → Awaits routes j → Stands routes c j
    → IsGone routes entries j.stream (after_take j.stream a c) c.job
took_no_more routes entries c j a final w s =
    let at = awaits_at routes c j w s in
    done_job routes entries c (after_take j.stream a c) j s refl (record {
      replies = grown (law_of routes j.kind j.message) j.kind w.law j.stream j.message.content c.got (got_in a) c.over (c.over || tells_end a) c.made w.found w.channel at.0 s.replies;
      why = inr (inl (record { asked = call.Take j.stream; refused = a; last = refl; stop = inr (w.channel, refl, final) }));
    })
