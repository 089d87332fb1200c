-- What a job says next, beside the replies of its law.
use Rattle.std.proofs.lemmas.Bool.Decides.{nat_tests}
use Rattle.std.proofs.lemmas.Option.{slice_get_past}
use Rattle.std.proofs.Common.{◌≡◌, ◌<◌, ◌≤◌, ◌+◌, ◌==◌, ◌&&◌, ◌∙◌, ℕ, zero, suc, Bool, true, false, if◌then◌else◌, true≢false, List, [], ◌∷◌, ◌++◌, length, refl, sym, ap, subst, arith, append-nil, append_assoc}
use Rattle.std.proofs.lemmas.List.{length-append}
use Rattle.std.specs.Prelude.{Option, Some, None, slice_get, option_to_list}
use Rattle.rs_wire.specs.declared.words.Kind.{Kind}
use Rattle.rs_wire.specs.declared.words.Kind.TheVariants as kind
use Rattle.rs_wire.specs.declared.call.Call.{Call}
use Rattle.rs_wire.specs.declared.call.Call.TheVariants as call
use Rattle.rs_wire.specs.Calls.{CanBeAsked}
use Rattle.tape.specs.declared.answer.Answer.{Answer}
use Rattle.handlers.specs.Values.{value}
use Rattle.handlers.specs.declared.law.Law.{Law}
use Rattle.workers.specs.declared.job.Stage.{Stage}
use Rattle.workers.specs.declared.job.Stage.TheVariants as stage
use Rattle.workers.specs.declared.plan.Plan.{Plan}
use Rattle.workers.specs.declared.plan.Plan.TheVariants as plan
use Rattle.workers.specs.Replies.{AreReplies, answers, channel_reply, item_count, item_or_end, no_route, reply, response}
use Rattle.workers.specs.Courses.{Course, IsReplyOn, IsWorkersCall, after_call, after_reply}
use Rattle.workers.specs.Serving.{IsAt, IsAtContent}
use Rattle.workers.specs.declared.job.OpenJob.{OpenJob}
use Rattle.workers.specs.Going.{plan_by, plan_content, plan_item, plan_of, say_end}
use Rattle.workers.proofs.Values.{item_below, finish_past, past_finish}

-- ---- tests and lists

pub same_test : (m n : ℕ) → m ≡ n → (m == n) ≡ true
same_test m n h = grind (arith, nat_tests)

pub other_test : (m n : ℕ) → (m ≡ n → ⊥) → (m == n) ≡ false
other_test m n h = grind (arith, nat_tests)

pub test_same : (m n : ℕ) → (m == n) ≡ true → m ≡ n
test_same m n h = grind (arith, nat_tests)

pub test_other : (m n : ℕ) → (m == n) ≡ false → m ≡ n → ⊥
test_other m n h is = true≢false (sym (same_test m n is) ∙ h)

more_test : (m n : ℕ) → n < m → (m == n) ≡ false
more_test m n h = other_test m n (λ is. absurd (omega arith))

seam : {X : Type 0} (xs : List X) (y : X) (ys : List X) → slice_get (xs ++ y ∷ ys) (length xs) ≡ Some y
seam [] y ys = refl
seam (x ∷ xs) y ys = seam xs y ys

slice_get_more : {X : Type 0} (xs more : List X) (i : ℕ) (v : X) → slice_get xs i ≡ Some v → slice_get (xs ++ more) i ≡ Some v
slice_get_more [] more i v h = absurd (cc)
slice_get_more (x ∷ xs) more zero v h = h
slice_get_more (x ∷ xs) more (suc i) v h = slice_get_more xs more i v h

pub answers-append : (l : Law) (xs ys : List (List ℕ)) → answers l (xs ++ ys) ≡ answers l xs ++ answers l ys
answers-append l [] ys = refl
answers-append l (x ∷ xs) ys = ap (λ vs. option_to_list (value l x 0) ++ vs) (answers-append l xs ys) ∙ sym (append_assoc (option_to_list (value l x 0)) (answers l xs) (answers l ys))

-- ---- a call on the stream of the job

pub after_said : (s : ℕ) (asked : Call) (a : Answer) (c : Course) → IsReplyOn s asked → after_call s asked a c ≡ after_reply asked a c
after_said s (call.Next q message complete) a c is = rw (same_test q s is) refl
after_said s (call.Done q) a c is = rw (same_test q s is) refl
after_said s (call.Fail q code content) a c is = rw (same_test q s is) refl
after_said s (call.Request k initial message complete) a c is = absurd is
after_said s (call.Grant q n) a c is = absurd is
after_said s (call.Cancel q) a c is = absurd is
after_said s (call.Push metadata) a c is = absurd is
after_said s (call.Lease ttl count metadata) a c is = absurd is
after_said s (call.Take q) a c is = absurd is
after_said s call.TakeJob a c is = absurd is
after_said s call.Close a c is = absurd is

pub after_apart : (s q : ℕ) (asked : Call) (a : Answer) (c : Course) → IsReplyOn s asked → (q ≡ s → ⊥) → after_call q asked a c ≡ c
after_apart s q (call.Next r message complete) a c is differs = rw (other_test r q (λ e. differs (sym e ∙ is))) refl
after_apart s q (call.Done r) a c is differs = rw (other_test r q (λ e. differs (sym e ∙ is))) refl
after_apart s q (call.Fail r code content) a c is differs = rw (other_test r q (λ e. differs (sym e ∙ is))) refl
after_apart s q (call.Request k initial message complete) a c is differs = absurd is
after_apart s q (call.Grant r n) a c is differs = absurd is
after_apart s q (call.Cancel r) a c is differs = absurd is
after_apart s q (call.Push metadata) a c is differs = absurd is
after_apart s q (call.Lease ttl count metadata) a c is differs = absurd is
after_apart s q (call.Take r) a c is differs = absurd is
after_apart s q call.TakeJob a c is differs = absurd is
after_apart s q call.Close a c is differs = absurd is

-- ---- what a plan is for

-- after a reply: none is left after the last one, and after another one the job is one reply further
abbrev pub AfterSay : Option Law → Kind → ℕ → List ℕ → List (List ℕ) → Bool → ℕ → Bool → Type 0
AfterSay l k s content got over made true = reply l k s content got true (suc made) ≡ None
AfterSay l k s content got over made false = IsAt l k content got over (suc made) stage.Answered

pub record Says (l : Option Law) (k : Kind) (s : ℕ) (content : List ℕ) (got : List (List ℕ)) (over : Bool) (made : ℕ) (asked : Call) (last : Bool) : Type 0 where
  pub next : reply l k s content got over made ≡ Some asked
  pub after : AfterSay l k s content got over made last
  pub on : IsReplyOn s asked

abbrev pub PlanFits : Option Law → Kind → ℕ → List ℕ → List (List ℕ) → Bool → ℕ → Plan → Type 0
PlanFits l k s content got over made (plan.Say asked last) = Says l k s content got over made asked last
PlanFits l k s content got over made plan.Skip = IsAt l k content got over made stage.Answered
PlanFits l k s content got over made plan.Nothing = reply l k s content got true made ≡ None
PlanFits l k s content got over made plan.OutOfMemory = Unit {0}

response_fits : (l : Law) (s : ℕ) (content : List ℕ) (got : List (List ℕ)) (over : Bool) (made : ℕ) → made ≡ 0
    → PlanFits (Some l) kind.Response s content got over made (plan.Say (response s (value l content 0)) true)
unfolding reply
response_fits l s content got over made at = record {
  next = ap (λ b. if b then Some (response s (value l content 0)) else None) (same_test made 0 at);
  after = ap (λ b. if b then Some (response s (value l content 0)) else None) (more_test (suc made) 0 (omega arith));
  on = on_stream (value l content 0);
}
  where
    on_stream : (v : Option (List ℕ)) → IsReplyOn s (response s v)
    on_stream None = refl
    on_stream (Some item) = refl

stream_fits : (l : Law) (s : ℕ) (content : List ℕ) (got : List (List ℕ)) (over : Bool) (made : ℕ) → made ≤ item_count l content
    → PlanFits (Some l) kind.Stream s content got over made (plan_item s (value l content made) (say_end s))
unfolding reply
stream_fits l s content got over made at = elim (value l content made) as (λ v. value l content made ≡ v → PlanFits (Some l) kind.Stream s content got over made (plan_item s v (say_end s))) [
  | Some item ↦ λ is. record {
    next = ap (λ v. item_or_end s v (made == item_count l content)) is;
    after = (let b = item_below l content made item is in omega arith);
    on = refl;
  }
  | None ↦ λ is.
      let past : item_count l content ≤ made = finish_past l content made is in
      let here : made ≡ item_count l content = omega arith in
      let none : value l content (suc made) ≡ None = past_finish l content (suc made) (omega arith) in
      record {
        next = ap (λ v. item_or_end s v (made == item_count l content)) is ∙ ap (λ b. if b then Some (call.Done s) else None) (same_test made (item_count l content) here);
        after = ap (λ v. item_or_end s v (suc made == item_count l content)) none ∙ ap (λ b. if b then Some (call.Done s) else None) (more_test (suc made) (item_count l content) (omega arith));
        on = refl;
      }
] refl

-- the content d is to be answered, after these
content_fits : (l : Law) (s : ℕ) (content : List ℕ) (got : List (List ℕ)) (over : Bool) (made : ℕ) (before : List (List ℕ)) (d : List ℕ)
    → content ∷ got ≡ before ++ d ∷ [] → over ≡ false → made ≡ length (answers l before)
    → PlanFits (Some l) kind.Channel s content got over made (plan_item s (value l d 0) plan.Skip)
unfolding reply
content_fits l s content got over made before d is still at =
    let all : answers l (content ∷ got) ≡ answers l before ++ (option_to_list (value l d 0) ++ []) = ap (answers l) is ∙ answers-append l before (d ∷ []) in
    elim (value l d 0) as (λ v. answers l (content ∷ got) ≡ answers l before ++ (option_to_list v ++ []) → PlanFits (Some l) kind.Channel s content got over made (plan_item s v plan.Skip)) [
      | Some item ↦ λ these.
          let found : slice_get (answers l (content ∷ got)) made ≡ Some item = ap (λ vs. slice_get vs made) these ∙ (ap (slice_get (answers l before ++ item ∷ [])) at ∙ seam (answers l before) item []) in
          let more : length (answers l (content ∷ got)) ≡ length (answers l before) + 1 = ap length these ∙ length-append (answers l before) (item ∷ []) in
          record {
            next = ap (λ v. item_or_end s v (over && (made == length (answers l (content ∷ got))))) found;
            after = (still, omega arith);
            on = refl;
          }
      | None ↦ λ these. (still, at ∙ ap length (sym (append-nil (answers l before)) ∙ sym these))
    ] all

end_fits : (l : Law) (s : ℕ) (content : List ℕ) (got : List (List ℕ)) (over : Bool) (made : ℕ) → over ≡ true → made ≡ length (answers l (content ∷ got))
    → PlanFits (Some l) kind.Channel s content got over made (say_end s)
unfolding reply
end_fits l s content got over made closed at =
    let items = answers l (content ∷ got) in
    let none : slice_get items made ≡ None = slice_get_past items made (omega arith) in
    let nor : slice_get items (suc made) ≡ None = slice_get_past items (suc made) (omega arith) in
    record {
      next = ap (λ v. item_or_end s v (over && (made == length items))) none ∙ (ap (λ b. if (b && (made == length items)) then Some (call.Done s) else None) closed ∙ ap (λ b. if b then Some (call.Done s) else None) (same_test made (length items) at));
      after = ap (λ v. item_or_end s v (suc made == length items)) nor ∙ ap (λ b. if b then Some (call.Done s) else None) (more_test (suc made) (length items) (omega arith));
      on = refl;
    }

channel_fits : (l : Law) (s : ℕ) (content : List ℕ) (got : List (List ℕ)) (over : Bool) (made : ℕ) (at : Stage) → IsAtContent l content got over made at
    → PlanFits (Some l) kind.Channel s content got over made (plan_content l s content at)
channel_fits l s content got over made stage.Request h = content_fits l s content got over made [] content (ap (λ ds. content ∷ ds) h.0) h.1 h.2
channel_fits l s content got over made (stage.Taken item) h = content_fits l s content got over made (content ∷ h.0) item (ap (λ ds. content ∷ ds) h.1) h.2 h.3
channel_fits l s content got over made stage.Answered h = h
channel_fits l s content got over made stage.Over h = end_fits l s content got over made h.0 h.1

routeless_fits : (k : Kind) (s : ℕ) (content : List ℕ) (got : List (List ℕ)) (over : Bool) (made : ℕ) (at : Stage) → made ≡ 0 → PlanFits None k s content got over made (plan_by None k s content made at)
unfolding reply
routeless_fits kind.Fnf s content got over made at zero_made = refl
routeless_fits kind.Response s content got over made at zero_made = record { next = ap (λ b. if b then Some (no_route s) else None) (same_test made 0 zero_made); after = ap (λ b. if b then Some (no_route s) else None) (more_test (suc made) 0 (omega arith)); on = refl }
routeless_fits kind.Stream s content got over made at zero_made = record { next = ap (λ b. if b then Some (no_route s) else None) (same_test made 0 zero_made); after = ap (λ b. if b then Some (no_route s) else None) (more_test (suc made) 0 (omega arith)); on = refl }
routeless_fits kind.Channel s content got over made at zero_made = record { next = ap (λ b. if b then Some (no_route s) else None) (same_test made 0 zero_made); after = ap (λ b. if b then Some (no_route s) else None) (more_test (suc made) 0 (omega arith)); on = refl }

fnf_fits : (l : Law) (s : ℕ) (content : List ℕ) (got : List (List ℕ)) (over : Bool) (made : ℕ) → PlanFits (Some l) kind.Fnf s content got over made plan.Nothing
unfolding reply
fnf_fits l s content got over made = refl

pub plan_fits : (l : Option Law) (k : Kind) (s : ℕ) (content : List ℕ) (got : List (List ℕ)) (over : Bool) (made : ℕ) (at : Stage)
    → IsAt l k content got over made at → PlanFits l k s content got over made (plan_by l k s content made at)
plan_fits (Some l) kind.Response s content got over made at h = response_fits l s content got over made h
plan_fits (Some l) kind.Fnf s content got over made at h = fnf_fits l s content got over made
plan_fits (Some l) kind.Stream s content got over made at h = stream_fits l s content got over made h
plan_fits (Some l) kind.Channel s content got over made at h = channel_fits l s content got over made at h
plan_fits None kind.Response s content got over made at h = routeless_fits kind.Response s content got over made at h
plan_fits None kind.Fnf s content got over made at h = routeless_fits kind.Fnf s content got over made at h
plan_fits None kind.Stream s content got over made at h = routeless_fits kind.Stream s content got over made at h
plan_fits None kind.Channel s content got over made at h = routeless_fits kind.Channel s content got over made at h

-- ---- the calls of plans

-- what is said is a reply on the stream, and may be asked
abbrev pub IsSayable : ℕ → Plan → Type 0
IsSayable s (plan.Say asked last) = IsReplyOn s asked × CanBeAsked asked
IsSayable s _ = Unit {0}

item_sayable : (s : ℕ) (v : Option (List ℕ)) (other : Plan) → IsSayable s other → IsSayable s (plan_item s v other)
item_sayable s None other h = h
item_sayable s (Some item) other h = (refl, tt)

response_sayable : (s : ℕ) (v : Option (List ℕ)) → IsSayable s (plan.Say (response s v) true)
response_sayable s None = (refl, tt)
response_sayable s (Some item) = (refl, tt)

plan_sayable : (l : Option Law) (k : Kind) (s : ℕ) (content : List ℕ) (made : ℕ) (at : Stage) → IsSayable s (plan_by l k s content made at)
plan_sayable (Some l) kind.Response s content made at = response_sayable s _
plan_sayable (Some l) kind.Fnf s content made at = tt
plan_sayable (Some l) kind.Stream s content made at = item_sayable s _ (say_end s) (refl, tt)
plan_sayable (Some l) kind.Channel s content made stage.Request = item_sayable s _ plan.Skip tt
plan_sayable (Some l) kind.Channel s content made (stage.Taken item) = item_sayable s _ plan.Skip tt
plan_sayable (Some l) kind.Channel s content made stage.Answered = tt
plan_sayable (Some l) kind.Channel s content made stage.Over = (refl, tt)
plan_sayable None kind.Response s content made at = (refl, refl)
plan_sayable None kind.Fnf s content made at = tt
plan_sayable None kind.Stream s content made at = (refl, refl)
plan_sayable None kind.Channel s content made at = (refl, refl)

-- what a job says is a reply on its stream
pub says_fairly : (l : Option Law) (j : OpenJob) (asked : Call) (last : Bool) → plan_of l j ≡ plan.Say asked last → IsReplyOn j.stream asked × CanBeAsked asked
says_fairly l j asked last is = subst (IsSayable j.stream) is (plan_sayable l j.kind j.stream j.message.content j.made j.stage)

pub reply_of_worker : (s : ℕ) (asked : Call) → IsReplyOn s asked → IsWorkersCall asked
reply_of_worker s (call.Next q message complete) is = tt
reply_of_worker s (call.Done q) is = tt
reply_of_worker s (call.Fail q code content) is = tt
reply_of_worker s (call.Take q) is = tt
reply_of_worker s call.TakeJob is = tt
reply_of_worker s (call.Request k initial message complete) is = absurd is
reply_of_worker s (call.Grant q n) is = absurd is
reply_of_worker s (call.Cancel q) is = absurd is
reply_of_worker s (call.Push metadata) is = absurd is
reply_of_worker s (call.Lease ttl count metadata) is = absurd is
reply_of_worker s call.Close is = absurd is

-- ---- contents that are got

grow : (s : ℕ) (items more : List (List ℕ)) (over : Bool) (n : ℕ) (asked : Call) → channel_reply s items false n ≡ Some asked → channel_reply s (items ++ more) over n ≡ Some asked
grow s items more over n asked h = elim (slice_get items n) as (λ v. slice_get items n ≡ v → item_or_end s v false ≡ Some asked → channel_reply s (items ++ more) over n ≡ Some asked) [
  | Some item ↦ λ is said. ap (λ v. item_or_end s v (over && (n == length (items ++ more)))) (slice_get_more items more n item is) ∙ said
  | None ↦ λ is said. absurd (cc)
] refl h

pub replies_grow : (s : ℕ) (items more : List (List ℕ)) (over : Bool) (made : List Call) → AreReplies (channel_reply s items false) made → AreReplies (channel_reply s (items ++ more) over) made
replies_grow s items more over [] h = tt
replies_grow s items more over (c ∷ made) h = (grow s items more over (length made) c h.0, replies_grow s items more over made h.1)
