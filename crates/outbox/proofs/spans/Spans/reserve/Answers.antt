use Rattle.std.proofs.Common.{◌≡◌, ap, sym, subst, ◌∙◌, length}
use Rattle.replay_buffer.specs.Held.{spare_for}
use Rattle.outbox.specs.Line.{own_in}
use Rattle.outbox.specs.Spans.{AreSpans, Reaches, pieces}
use Rattle.outbox.proofs.Spanned.{SameAll, all_go, goes_reserved, reach-reserved}
use Rattle.outbox.proofs.spans.Spans.reserve.Goals as goal

pub invariant_of-self-2 : goal.invariant_of-self-2
invariant_of-self-2 c =
    let r = c.self.inside in
    let new = c.reserve.new.self in
    let items = c.in_ok-make_room.ensures.items in
    let spare = spare_for r.replay.spare c.args.frames c.args.bytes in
    let s = all_go r.replay new r.stretches.items (goes_reserved r.replay new spare c.in_ok-reserve.ensures.ok) c.self.invariant.each in
    record {
      each = subst (AreSpans new) (sym items) s.each;
      own = c.self.invariant.own ∙ ap own_in (sym (ap (pieces new) items ∙ s.bytes));
      all = c.self.invariant.all ∙ ap length (sym (ap (pieces new) items ∙ s.bytes));
      reaches = λ yes. subst (Reaches new) (sym items) (reach-reserved r.replay new spare r.stretches.items c.in_ok-reserve.ensures.ok (c.self.invariant.reaches yes));
    }
