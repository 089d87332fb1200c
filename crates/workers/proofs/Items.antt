-- All replies of a job that is not finished bring items.
use Rattle.std.proofs.lemmas.List.{length-append}
use Rattle.std.proofs.Common.{◌≡◌, ◌<◌, ◌≤◌, ◌+◌, ◌&&◌, ◌==◌, ◌∙◌, ℕ, zero, suc, Bool, List, [], ◌∷◌, ◌++◌, length, refl, sym, ap, subst, arith}
use Rattle.std.specs.Prelude.{Option, Some, None, slice_get}
use Rattle.rs_wire.specs.declared.words.Kind.{Kind}
use Rattle.rs_wire.specs.declared.words.Kind.TheVariants as kind
use Rattle.rs_wire.specs.declared.call.Call.{Call}
use Rattle.handlers.specs.Listed.{Listed}
use Rattle.handlers.specs.Values.{value}
use Rattle.handlers.specs.declared.law.Law.{Law}
use Rattle.workers.specs.declared.job.OpenJob.{OpenJob}
use Rattle.workers.specs.declared.job.Stage.{Stage}
use Rattle.workers.specs.declared.job.Stage.TheVariants as stage
use Rattle.workers.specs.Replies.{AreReplies, answers, channel_reply, item_count, item_of, item_or_end, items_of, law_of, reply}
use Rattle.workers.specs.Courses.{Course}
use Rattle.workers.specs.Serving.{IsAt, IsAtContent, Stands}
use Rattle.workers.proofs.Plans.{answers-append}
use Rattle.workers.proofs.Values.{finish_past}

-- where each of the first replies brings an item, as many items are brought as there are replies
all_items : (at : ℕ → Option Call) (bound : ℕ) (made : List Call) → ((k : ℕ) (c : Call) → k < bound → at k ≡ Some c → item_of c ≡ 1) → length made ≤ bound → AreReplies at made → items_of made ≡ length made
all_items at bound [] each few replies = refl
all_items at bound (c ∷ made) each few replies =
    let one : item_of c ≡ 1 = each (length made) c (omega arith) replies.0 in
    let rest : items_of made ≡ length made = all_items at bound made each (omega arith) replies.1 in
    omega arith

item_first : (s : ℕ) (v : Option (List ℕ)) (due : Bool) (c : Call) → (v ≡ None → ⊥) → item_or_end s v due ≡ Some c → item_of c ≡ 1
item_first s (Some item) due c some is = subst (λ o. item_in o ≡ 1) is refl
  where
    item_in : Option Call → ℕ
    item_in None = 0
    item_in (Some d) = item_of d
item_first s None due c some is = absurd (some refl)

read_some : {X : Type 0} (xs : List X) (n : ℕ) → n < length xs → slice_get xs n ≡ None → ⊥
read_some [] n within = absurd (omega arith)
read_some (x ∷ xs) zero within = λ is. absurd (cc)
read_some (x ∷ xs) (suc n) within = read_some xs n (omega arith)

stream_items : (l : Law) (s : ℕ) (content : List ℕ) (made : List Call) → length made ≤ item_count l content
    → AreReplies (λ k. item_or_end s (value l content k) (k == item_count l content)) made → items_of made ≡ length made
stream_items l s content made few replies =
    all_items (λ k. item_or_end s (value l content k) (k == item_count l content)) (item_count l content) made
    (λ k c within is. item_first s (value l content k) (k == item_count l content) c (never k within) is) few replies
  where
    never : (k : ℕ) → k < item_count l content → value l content k ≡ None → ⊥
    never k within none = let past : item_count l content ≤ k = finish_past l content k none in absurd (omega arith)

channel_items : (s : ℕ) (items : List (List ℕ)) (over : Bool) (made : List Call) → length made ≤ length items → AreReplies (channel_reply s items over) made → items_of made ≡ length made
channel_items s items over made few replies =
    all_items (channel_reply s items over) (length items) made (λ k c within is. item_first s (slice_get items k) (over && (k == length items)) c (read_some items k within) is) few replies

content_few : (l : Law) (content : List ℕ) (got : List (List ℕ)) (over : Bool) (made : ℕ) (at : Stage) → IsAtContent l content got over made at → made ≤ length (answers l (content ∷ got))
content_few l content got over made stage.Request h = let none = h.2 in omega arith
content_few l content got over made (stage.Taken item) h =
    let all : answers l (content ∷ got) ≡ answers l (content ∷ h.0) ++ answers l (item ∷ []) = ap (λ ds. answers l (content ∷ ds)) h.1 ∙ answers-append l (content ∷ h.0) (item ∷ []) in
    let long : length (answers l (content ∷ got)) ≡ length (answers l (content ∷ h.0)) + length (answers l (item ∷ [])) = ap length all ∙ length-append (answers l (content ∷ h.0)) (answers l (item ∷ [])) in
    let made_so : made ≡ length (answers l (content ∷ h.0)) = h.3 in
    omega arith
content_few l content got over made stage.Answered h = let made_so = h.1 in omega arith
content_few l content got over made stage.Over h = let made_so = h.1 in omega arith

no_items : (made : List Call) → length made ≡ 0 → items_of made ≡ length made
no_items [] h = refl
no_items (c ∷ made) h = absurd (omega arith)

items_by : (l : Option Law) (k : Kind) (s : ℕ) (content : List ℕ) (got : List (List ℕ)) (over : Bool) (n : ℕ) (at : Stage) (made : List Call) → IsAt l k content got over n at → n ≡ length made
    → AreReplies (reply l k s content got over) made → items_of made ≡ length made
unfolding reply
items_by (Some l) kind.Response s content got over n at made h is replies = no_items made (sym is ∙ h)
items_by (Some l) kind.Fnf s content got over n at made h is replies = no_items made (sym is ∙ h)
items_by (Some l) kind.Stream s content got over n at made h is replies = stream_items l s content made (subst (λ m. m ≤ item_count l content) is h) replies
items_by (Some l) kind.Channel s content got over n at made h is replies =
    channel_items s (answers l (content ∷ got)) over made (subst (λ m. m ≤ length (answers l (content ∷ got))) is (content_few l content got over n at h)) replies
items_by None kind.Response s content got over n at made h is replies = no_items made (sym is ∙ h)
items_by None kind.Fnf s content got over n at made h is replies = no_items made (sym is ∙ h)
items_by None kind.Stream s content got over n at made h is replies = no_items made (sym is ∙ h)
items_by None kind.Channel s content got over n at made h is replies = no_items made (sym is ∙ h)

-- of a job that stands
pub stands_items : (routes : List Listed) (c : Course) (j : OpenJob) → Stands routes c j → items_of c.made ≡ j.made
stands_items routes c j s = items_by (law_of routes j.kind j.message) j.kind j.stream j.message.content c.got c.over j.made j.stage c.made s.at s.made s.replies ∙ sym s.made
