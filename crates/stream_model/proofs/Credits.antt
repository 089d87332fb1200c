-- The credit that is kept has room for one grant more, and no more was used than granted.
use Rattle.std.proofs.Common.{◌≡◌, ◌≤◌, ◌<◌, ◌+◌, ◌*◌, ◌^◌, ◌&&◌, ℕ, Bool, true, false, cond, List, length, Option, Some, None, IsSome, refl, subst, arith}
use Rattle.rs_wire.specs.declared.words.Role.{Role}
use Rattle.rs_wire.specs.declared.words.Way.{Way}
use Rattle.rs_wire.specs.declared.words.Way.TheVariants as way
use Rattle.rs_wire.specs.declared.message.Message.{Message}
use Rattle.credit.specs.declared.Credit.{Credit}
use Rattle.stream_model.specs.declared.stream.Stream.{Stream as Kept}
use Rattle.stream_model.specs.Marks.{Opening, Step, Payload, RequestN, Cancel, Fail, Mark}
use Rattle.stream_model.specs.Turns.{Word, Said, carries, needs_credit, may_grant, used, granted}
use Rattle.stream_model.specs.Streams.{turn, one_if}
use Rattle.stream_model.specs.Kept.{stream_of, credit_of, kept, requested, after, FitsCredit}
use Rattle.stream_model.specs.Arriving.{MayGrant}
use Rattle.stream_model.specs.Fair.{Fair, FairWords}
use Rattle.stream_model.proofs.Words.{used_within}
use Rattle.stream_model.proofs.Streams.{fair_words}
use Rattle.stream_model.proofs.Keeping.{live_turn}
use Rattle.stream_model.proofs.Steps.{Credited}
use Rattle.stream_model.proofs.Granted.{grants_few}

-- ---- of fair marks

-- so many at most were granted, and no more used
abbrev pub Holds : Credit → ℕ → Type 0
Holds c n = (c.granted ≤ n) × (c.used ≤ c.granted)

holds_where : (needs : Bool) (c : Credit) (n : ℕ) → c.granted ≤ n → (needs ≡ true → c.used ≤ c.granted) → Holds (cond needs c (record { granted = 0; used = 0 })) n
holds_where true c n le within = (le, within refl)
holds_where false c n le within = (omega arith, omega arith)

holds_words : (o : Opening) (xs : List Word) (w : Way) (n : ℕ) → granted o xs w ≤ n → FairWords o xs → Holds (credit_of o xs w) n
holds_words o xs w n le h = holds_where (needs_credit o.kind) (record { granted = granted o xs w; used = used o xs w }) n le (λ needs. used_within o xs w needs h)

-- both ways of a stream
abbrev pub HoldBoth : Kept → ℕ → Type 0
HoldBoth f n = Holds f.request n × Holds f.reply n

hold_words : (o : Opening) (xs : List Word) (n : ℕ) → ((w : Way) → granted o xs w ≤ n) → FairWords o xs → HoldBoth (stream_of o xs) n
unfolding stream_of
hold_words o xs n le h = (holds_words o xs way.Request n (le way.Request) h, holds_words o xs way.Reply n (le way.Reply) h)

pub kept_holds : (most : ℕ) (seen : List Mark) (s : ℕ) (f : Kept) → Fair most seen → kept (turn most seen s) ≡ Some f → HoldBoth f (2 ^ 31 * length seen)
kept_holds most seen s f h is =
    let l = live_turn (turn most seen s) f is in
    subst (λ f. HoldBoth f (2 ^ 31 * length seen)) l.3 (hold_words l.0.opening l.0.words (2 ^ 31 * length seen) (λ w. grants_few most seen h s l.0 w l.1) (fair_words most seen s l.0 h l.1))

room_in : (k : Option Kept) → ((f : Kept) → k ≡ Some f → MayGrant (Some f)) → MayGrant k
room_in None h = tt
room_in (Some f) h = h f refl

-- after fewer than 2 ^ 69 marks there is room for a grant
pub may_grant_more : (most : ℕ) (seen : List Mark) (s : ℕ) → Fair most seen → length seen < 2 ^ 69 → MayGrant (kept (turn most seen s))
may_grant_more most seen s h few = room_in (kept (turn most seen s)) (λ f is. let b = kept_holds most seen s f h is in let request = b.0.0 in let reply = b.1.0 in (omega arith, omega arith))

pub credit_fits : (most : ℕ) (seen : List Mark) (s : ℕ) (f : Kept) → Fair most seen → length seen < 2 ^ 70 → kept (turn most seen s) ≡ Some f → FitsCredit f
credit_fits most seen s f h few is =
    let b = kept_holds most seen s f h is in
    let request = b.0.0 in
    let reply = b.1.0 in
    record { request_granted = omega arith; request_used = b.0.1; reply_granted = omega arith; reply_used = b.1.1 }

-- ---- from word to word

more_granted : (needs may : Bool) (g n : ℕ) → g < 2 ^ 100 → n < 2 ^ 31 → g + cond needs (cond may n 0) 0 < 2 ^ 101
more_granted true true g n lt le = omega arith
more_granted true false g n lt le = omega arith
more_granted false may g n lt le = omega arith

none_granted : (needs : Bool) (g : ℕ) → g < 2 ^ 101 → g + cond needs 0 0 < 2 ^ 101
none_granted true g lt = omega arith
none_granted false g lt = omega arith

one_used : (over needs item : Bool) (u g : ℕ) → u ≤ g → (over ≡ false → needs ≡ true → item ≡ true → u < g) → u + cond over 0 (one_if (needs && item)) ≤ g + cond needs 0 0
one_used true true item u g le h = omega arith
one_used true false item u g le h = omega arith
one_used false true true u g le h = let lt = h refl refl refl in omega arith
one_used false true false u g le h = omega arith
one_used false false item u g le h = omega arith

none_used : (needs : Bool) (k u g : ℕ) → u ≤ g → u + 0 ≤ g + cond needs k 0
none_used true k u g le = omega arith
none_used false k u g le = omega arith

is_item : (over some : Bool) (m : Message) → over ≡ false → some ≡ true → IsSome (cond over None (cond some (Some m) None))
is_item over some m o s = rw (o, s) refl

-- a grant finds room for it
abbrev pub GrantFits : Kept → Step → Type 0
GrantFits f (RequestN n) = (n < 2 ^ 31) × MayGrant (Some f)
GrantFits f step = Unit {0}

-- what is kept after a step of either end
pub after_fits : (f : Kept) (by : Role) (step : Step) → FitsCredit f → Credited f by step → GrantFits f step → FitsCredit (after f (Said by step))
after_fits f by (Payload m complete next) h credit room = record {
  request_granted = none_granted (needs_credit f.kind) f.request.granted h.request_granted;
  request_used = one_used f.request_over (needs_credit f.kind) (next && carries f.kind f.whole way.Request by) f.request.used f.request.granted h.request_used
      (λ o needs item. credit needs way.Request (is_item f.request_over (next && carries f.kind f.whole way.Request by) m o item));
  reply_granted = none_granted (needs_credit f.kind) f.reply.granted h.reply_granted;
  reply_used = one_used f.reply_over (needs_credit f.kind) (next && carries f.kind f.whole way.Reply by) f.reply.used f.reply.granted h.reply_used
      (λ o needs item. credit needs way.Reply (is_item f.reply_over (next && carries f.kind f.whole way.Reply by) m o item));
}
after_fits f by (RequestN n) h credit room = record {
  request_granted = more_granted (needs_credit f.kind) (may_grant f.kind way.Request by) f.request.granted n room.1.0 room.0;
  request_used = none_used (needs_credit f.kind) (cond (may_grant f.kind way.Request by) n 0) f.request.used f.request.granted h.request_used;
  reply_granted = more_granted (needs_credit f.kind) (may_grant f.kind way.Reply by) f.reply.granted n room.1.1 room.0;
  reply_used = none_used (needs_credit f.kind) (cond (may_grant f.kind way.Reply by) n 0) f.reply.used f.reply.granted h.reply_used;
}
after_fits f by Cancel h credit room = record {
  request_granted = none_granted (needs_credit f.kind) f.request.granted h.request_granted;
  request_used = none_used (needs_credit f.kind) 0 f.request.used f.request.granted h.request_used;
  reply_granted = none_granted (needs_credit f.kind) f.reply.granted h.reply_granted;
  reply_used = none_used (needs_credit f.kind) 0 f.reply.used f.reply.granted h.reply_used;
}
after_fits f by (Fail code content) h credit room = record {
  request_granted = none_granted (needs_credit f.kind) f.request.granted h.request_granted;
  request_used = none_used (needs_credit f.kind) 0 f.request.used f.request.granted h.request_used;
  reply_granted = none_granted (needs_credit f.kind) f.reply.granted h.reply_granted;
  reply_used = none_used (needs_credit f.kind) 0 f.reply.used f.reply.granted h.reply_used;
}

first_granted : (needs : Bool) (n : ℕ) → n < 2 ^ 31 → cond needs n 0 < 2 ^ 101
first_granted true n lt = omega arith
first_granted false n lt = omega arith

-- and after the request
pub first_fits : (o : Opening) → o.initial < 2 ^ 31 → FitsCredit (requested o)
first_fits o lt = record { request_granted = omega arith; request_used = omega arith; reply_granted = first_granted (needs_credit o.kind) o.initial lt; reply_used = omega arith }
