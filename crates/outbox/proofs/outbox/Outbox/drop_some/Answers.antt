use Rattle.std.proofs.Common.{◌≡◌, ◌+◌, ◌-◌, ◌<◌, ◌≤◌, ℕ, length, take, drop, ap, ◌∙◌, inl, inr, arith}
use Rattle.std.proofs.lemmas.Bool.{cases_lt}
use Rattle.byte_queue.specs.Contents.{Contents}
use Rattle.outbox.specs.Line.{own_in}
use Rattle.outbox.specs.Waiting.{Waiting, with_queue}
use Rattle.outbox.specs.Woven.{waiting_of}
use Rattle.outbox.proofs.Weaving.{own_in-le, own_in-parts}
use Rattle.outbox.proofs.Woven.{Shows, first_leave, in_all, own_leave}
use Rattle.outbox.proofs.outbox.Outbox.drop_some.Goals as goal

-- nothing left the line, so it is empty
none : (count size most : ℕ) → (0 < most → 0 < size → 0 < count) → 0 < most → count ≡ 0 → size ≡ 0
none count size most some more zero = elim (cases_lt 0 size) [
  | inl lt ↦ absurd (omega (arith, some more lt, zero))
  | inr le ↦ omega (arith, le)
]

pub drop_front-requires : goal.drop_front-requires
drop_front-requires c =
    let o = c.self.inside in
    let left = c.drop_some-left in
    let empty = none left.result.count (length o.spans.bytes) c.args.most left.ensures.some c.requires.some c.if-left-eq0.true in
    omega (arith, empty, in_all o c.self.invariant, own_in-le o.spans.bytes, c.requires.wait, ap (λ (w : Waiting). length w.queue) c.self.view_is)

pub invariant_of-self : goal.invariant_of-self
invariant_of-self c =
    let o = c.self.inside in
    let left = c.drop_some-left in
    let empty = none left.result.count (length o.spans.bytes) c.args.most left.ensures.some c.requires.some c.if-left-eq0.true in
    let fits : c.args.most ≤ length (waiting_of o).queue = omega (arith, c.requires.wait, ap (λ (w : Waiting). length w.queue) c.self.view_is) in
    let same = left.ensures.bytes ∙ ap (λ k. drop k o.spans.bytes) c.if-left-eq0.true in
    (own_leave o c.drop_front.new.self left.new.self c.args.most c.self.invariant empty fits (ap (λ (q : Contents). q.bytes) c.drop_front.ensures) same left.ensures.held left.ensures.spare).woven

pub returns-then-left-eq0-clause-left : goal.returns-then-left-eq0-clause-left
returns-then-left-eq0-clause-left c =
    let o = c.self.inside in
    let left = c.drop_some-left in
    let empty = none left.result.count (length o.spans.bytes) c.args.most left.ensures.some c.requires.some c.if-left-eq0.true in
    let fits : c.args.most ≤ length (waiting_of o).queue = omega (arith, c.requires.wait, ap (λ (w : Waiting). length w.queue) c.self.view_is) in
    let same = left.ensures.bytes ∙ ap (λ k. drop k o.spans.bytes) c.if-left-eq0.true in
    (own_leave o c.drop_front.new.self left.new.self c.args.most c.self.invariant empty fits (ap (λ (q : Contents). q.bytes) c.drop_front.ensures) same left.ensures.held left.ensures.spare).shown
    ∙ ap (λ (w : Waiting). with_queue w (drop c.args.most w.queue) (length c.drop_front.new.self.bytes - own_in left.new.self.bytes)) c.self.view_is

pub drop_front-requires-2 : goal.drop_front-requires-2
drop_front-requires-2 c =
    let o = c.self.inside in
    let left = c.drop_some-left in
    omega (arith, left.ensures.own, own_in-parts o.spans.bytes left.result.count, c.self.invariant.own)

pub invariant_of-self-2 : goal.invariant_of-self-2
invariant_of-self-2 c =
    let o = c.self.inside in
    let left = c.drop_some-left in
    let is = ap (λ (q : Contents). q.bytes) c.drop_front-2.ensures ∙ ap (λ k. drop k o.own.bytes) left.ensures.own in
    (first_leave o c.drop_front-2.new.self left.new.self left.result.count c.self.invariant left.ensures.within is left.ensures.bytes left.ensures.held left.ensures.spare).woven

pub returns-clause-left : goal.returns-clause-left
returns-clause-left c =
    let o = c.self.inside in
    let left = c.drop_some-left in
    let is = ap (λ (q : Contents). q.bytes) c.drop_front-2.ensures ∙ ap (λ k. drop k o.own.bytes) left.ensures.own in
    (first_leave o c.drop_front-2.new.self left.new.self left.result.count c.self.invariant left.ensures.within is left.ensures.bytes left.ensures.held left.ensures.spare).shown
    ∙ ap (λ (w : Waiting). with_queue w (drop left.result.count w.queue) (length c.drop_front-2.new.self.bytes - own_in left.new.self.bytes)) c.self.view_is
