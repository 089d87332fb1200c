use Rattle.std.proofs.Common.{◌≡◌, ◌+◌, ◌-◌, ◌<◌, ◌^◌, ◌++◌, length, ap, ◌∙◌, arith}
use Rattle.replay_buffer.specs.Held.{framed_from}
use Rattle.outbox.specs.Line.{own_in, run}
use Rattle.outbox.specs.Waiting.{Waiting, with_queue}
use Rattle.outbox.proofs.Woven.{Shows, sends}
use Rattle.outbox.proofs.outbox.Outbox.send_from.Goals as goal

pub invariant_of-self-2 : goal.invariant_of-self-2
invariant_of-self-2 c =
    let o = c.self.inside in
    let e = c.in_ok-send_from.ensures in
    let more = framed_from o.spans.held c.args.position in
    let is = e.ok ∙ ap (λ k. o.spans.bytes ++ run (k - own_in o.spans.bytes) more) c.len.ensures.value in
    (sends o c.send_from.new.self more c.self.invariant is (omega (arith, e.few, c.len.ensures.value)) e.held e.spare).woven

pub returns-clause-ok : goal.returns-clause-ok
returns-clause-ok c =
    let o = c.self.inside in
    let e = c.in_ok-send_from.ensures in
    let more = framed_from o.spans.held c.args.position in
    let is = e.ok ∙ ap (λ k. o.spans.bytes ++ run (k - own_in o.spans.bytes) more) c.len.ensures.value in
    (sends o c.send_from.new.self more c.self.invariant is (omega (arith, e.few, c.len.ensures.value)) e.held e.spare).shown
    ∙ ap (λ (w : Waiting). with_queue w (w.queue ++ framed_from w.held c.args.position) (length o.own.bytes - own_in c.send_from.new.self.bytes)) c.self.view_is
