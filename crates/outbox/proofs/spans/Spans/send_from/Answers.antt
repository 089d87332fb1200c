use Rattle.std.proofs.Common.{◌≡◌, ◌+◌, ◌-◌, ◌<◌, ◌≤◌, ◌^◌, ◌++◌, length, refl, ap, sym, subst, ◌∙◌, arith}
use Rattle.std.specs.VecDeque.{deque_len}
use Rattle.replay_buffer.specs.Held.{IsHeldBoundary, framed_from}
use Rattle.outbox.specs.Line.{Line, own_in, run}
use Rattle.outbox.specs.Spans.{AreSpans, Reaches, pieces}
use Rattle.outbox.proofs.Counted.{Counted, counted_run}
use Rattle.outbox.proofs.Spanned.{Lined, SameAll, go_where_some, reach-push, sent_pushed}
use Rattle.outbox.proofs.spans.Spans.send_from.Goals as goal

-- the stretch stands after the others
sent : (c : goal.After-self-3-1) → Lined c.self.inside.replay c.pin_at.new.replay c.reserve.new.self.items c.push_back_reserved.new.self.items (run (c.args.own - c.self.inside.own) (framed_from c.self.inside.replay.held c.args.position))
sent c =
    let b = c.self.inside.replay in
    let new = c.pin_at.new.replay in
    let old = c.reserve.new.self.items in
    let at = subst (λ (l : Line). IsHeldBoundary l.held c.args.position) (sym c.self.view_is) c.requires.boundary in
    let each = subst (AreSpans b) (sym c.in_ok-reserve.ensures.items) c.self.invariant.each in
    let s = go_where_some b new old c.is_empty.result (deque_len c.reserve.new.self) c.is_empty.ensures c.reserve.new.self.ok.0 c.pin_at.ensures.goes each in
    let count = c.framed_len-count.ensures.value ∙ ap length (c.framed_len-count.ensures.held at) in
    let l = sent_pushed b new old _ (framed_from b.held c.args.position) s.each s.bytes c.pin_at.ensures.boundary c.pin_at.ensures.pinned refl c.pin_at.ensures.bytes count (omega arith) in
    record {
      each = subst (AreSpans new) (sym c.push_back_reserved.ensures.items) l.each;
      lined = ap (pieces new) c.push_back_reserved.ensures.items ∙ l.lined;
    }

counted : (c : goal.After-self-3-1) → Counted (pieces c.pin_at.new.replay c.push_back_reserved.new.self.items) c.args.own (c.self.inside.held + c.framed_len-count.result)
counted c =
    let r = c.self.inside in
    let at = subst (λ (l : Line). IsHeldBoundary l.held c.args.position) (sym c.self.view_is) c.requires.boundary in
    let bytes = (sent c).lined ∙ ap (λ ss. pieces r.replay ss ++ run (c.args.own - r.own) (framed_from r.replay.held c.args.position)) c.in_ok-reserve.ensures.items in
    let le : r.own ≤ c.args.own = omega (arith, c.requires.own, ap (λ (l : Line). own_in l.bytes) c.self.view_is, c.self.invariant.own) in
    counted_run (pieces r.replay r.stretches.items) _ r.own r.held c.args.own (framed_from r.replay.held c.args.position) c.framed_len-count.result
    (record { own_is = c.self.invariant.own; all_is = c.self.invariant.all }) le bytes (c.framed_len-count.ensures.value ∙ ap length (c.framed_len-count.ensures.held at))

pub invariant_of-self-2 : goal.invariant_of-self-2
invariant_of-self-2 c =
    let new = c.pin_at.new.replay in
    let at = subst (λ (l : Line). IsHeldBoundary l.held c.args.position) (sym c.self.view_is) c.requires.boundary in
    let count = c.framed_len-count.ensures.value ∙ ap length (c.framed_len-count.ensures.held at) ∙ ap length (sym c.pin_at.ensures.bytes) in
    record {
      each = (sent c).each;
      own = (counted c).own_is;
      all = (counted c).all_is;
      reaches = λ yes. subst (Reaches new) (sym c.push_back_reserved.ensures.items) (reach-push new c.reserve.new.self.items _ (omega (arith, count)));
    }

pub returns-clause-ok : goal.returns-clause-ok
returns-clause-ok c =
    let r = c.self.inside in
    (sent c).lined ∙ ap (λ ss. pieces r.replay ss ++ run (c.args.own - r.own) (framed_from r.replay.held c.args.position)) c.in_ok-reserve.ensures.items
    ∙ ap (λ k. pieces r.replay r.stretches.items ++ run (c.args.own - k) (framed_from r.replay.held c.args.position)) c.self.invariant.own
    ∙ ap (λ (l : Line). l.bytes ++ run (c.args.own - own_in l.bytes) (framed_from l.held c.args.position)) c.self.view_is

pub returns-clause-few : goal.returns-clause-few
returns-clause-few c = omega (arith, (counted c).own_is, (counted c).all_is, c.if-own-self-gt-MOST.false)
