use Rattle.std.proofs.Common.{◌≡◌, ◌+◌, ◌<◌, ◌^◌, ◌++◌, [], length, ap, sym, ◌∙◌, append-nil, arith}
use Rattle.byte_queue.specs.Contents.{Contents}
use Rattle.rs_frame.specs.Framed.{framed_frame}
use Rattle.outbox.specs.Line.{own_in}
use Rattle.outbox.specs.Waiting.{Waiting, with_last}
use Rattle.outbox.specs.Woven.{waiting_of}
use Rattle.outbox.proofs.Woven.{Shows, appends}
use Rattle.outbox.proofs.outbox.Outbox.append_frame.Goals as goal

pub returns-clause-ok : goal.returns-clause-ok
returns-clause-ok c =
    let o = c.self.inside in
    let more = framed_frame c.args.frame.now in
    let same = c.in_ok-keep_within.ensures.ok in
    let is = ap (λ (q : Contents). q.bytes) (same ∙ c.in_ok-append_with.ensures.ok) in
    let few : length c.keep_within.new.own.bytes + length o.spans.bytes < 2 ^ 63 + own_in o.spans.bytes =
    omega (arith, ap (λ (q : Contents). length q.bytes) same, c.in_ok-keep_within.ensures.few, c.held.ensures) in
    (appends o c.keep_within.new.own more c.self.invariant is few).shown
    ∙ ap (λ l. with_last (waiting_of o) l) (sym (append-nil more)) ∙ ap (λ (w : Waiting). with_last w (more ++ [])) c.self.view_is
