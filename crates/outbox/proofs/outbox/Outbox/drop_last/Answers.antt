use Rattle.std.proofs.Common.{◌≡◌, ◌+◌, ◌-◌, ◌<◌, ◌≤◌, length, take, drop, ap, ◌∙◌, arith}
use Rattle.byte_queue.specs.Contents.{Contents}
use Rattle.outbox.specs.Line.{own_in}
use Rattle.outbox.specs.Waiting.{Waiting, with_queue}
use Rattle.outbox.proofs.Weaving.{own_in-parts}
use Rattle.outbox.proofs.Woven.{Shows, in_all, last_leave, line_leaves}
use Rattle.outbox.proofs.outbox.Outbox.drop_last.Goals as goal

pub returns-then-last-gt0-clause-left : goal.returns-then-last-gt0-clause-left
returns-then-last-gt0-clause-left c =
    let o = c.self.inside in
    let n = c.min-count.result in
    let is = ap (λ (q : Contents). q.bytes) c.truncate.ensures ∙ ap (λ k. take (k - n) o.own.bytes) c.len-own.ensures.value in
    let fits : own_in o.spans.bytes + n ≤ length o.own.bytes = omega (arith, c.min-count.ensures, c.len-own.ensures.value, c.own.ensures, c.if-last-gt0.true) in
    (last_leave o c.truncate.new.self n c.self.invariant fits is).shown
    ∙ ap (λ (w : Waiting). with_queue w (take (length w.queue - n) w.queue) (length c.truncate.new.self.bytes - own_in o.spans.bytes)) c.self.view_is

pub overflow_sub-own-2 : goal.overflow_sub-own-2
overflow_sub-own-2 c =
    let o = c.self.inside in
    let left = c.drop_last-left in
    omega (arith, left.ensures.own, own_in-parts o.spans.bytes (length o.spans.bytes - left.result.count), c.self.invariant.own, c.len-own.ensures.value)

pub invariant_of-self-2 : goal.invariant_of-self-2
invariant_of-self-2 c =
    let o = c.self.inside in
    let left = c.drop_last-left in
    let is = ap (λ (q : Contents). q.bytes) c.truncate-2.ensures ∙ ap (λ k. take (k - left.result.own) o.own.bytes) c.len-own.ensures.value in
    let all : own_in o.spans.bytes ≡ length o.own.bytes = omega (arith, c.self.invariant.own, c.len-own.ensures.value, c.own.ensures, c.if-last-gt0.false) in
    (line_leaves o c.truncate-2.new.self left.new.self left.result.count left.result.own c.self.invariant all left.ensures.within left.ensures.own is left.ensures.bytes left.ensures.held left.ensures.spare).woven

pub returns-clause-some : goal.returns-clause-some
returns-clause-some c =
    let o = c.self.inside in
    let all : own_in o.spans.bytes ≡ length o.own.bytes = omega (arith, c.self.invariant.own, c.len-own.ensures.value, c.own.ensures, c.if-last-gt0.false) in
    let some : 0 < length o.spans.bytes = omega (arith, all, in_all o c.self.invariant, c.requires.wait, c.requires.some, ap (λ (w : Waiting). length w.queue) c.self.view_is) in
    c.drop_last-left.ensures.some c.requires.some some

pub returns-clause-left : goal.returns-clause-left
returns-clause-left c =
    let o = c.self.inside in
    let left = c.drop_last-left in
    let is = ap (λ (q : Contents). q.bytes) c.truncate-2.ensures ∙ ap (λ k. take (k - left.result.own) o.own.bytes) c.len-own.ensures.value in
    let all : own_in o.spans.bytes ≡ length o.own.bytes = omega (arith, c.self.invariant.own, c.len-own.ensures.value, c.own.ensures, c.if-last-gt0.false) in
    (line_leaves o c.truncate-2.new.self left.new.self left.result.count left.result.own c.self.invariant all left.ensures.within left.ensures.own is left.ensures.bytes left.ensures.held left.ensures.spare).shown
    ∙ ap (λ (w : Waiting). with_queue w (take (length w.queue - left.result.count) w.queue) (length c.truncate-2.new.self.bytes - own_in left.new.self.bytes)) c.self.view_is
