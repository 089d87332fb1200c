use Rattle.std.proofs.Common.{◌≡◌, ◌+◌, ◌-◌, ◌<◌, ◌≤◌, ◌++◌, ◌∷◌, [], length, refl, subst, arith, rules}
use Rattle.std.specs.VecDeque.{deque_len}
use Rattle.outbox.specs.Spans.{AreSpans, IsSpan, Reaches}
use Rattle.outbox.specs.declared.stretch.Stretch.{Stretch}
use Rattle.outbox.proofs.Ended.{ends_in}
use Rattle.outbox.proofs.Pins.{within_all}
use Rattle.outbox.proofs.Spanned.{are-last, reach-last}
use Rattle.outbox.proofs.stretch.lengthen.Goals as goal

pub overflow_add-last : goal.overflow_add-last
overflow_add-last c =
    let b = c.args.replay.now in
    let s = c.in-Some.last.now in
    let end = ends_in c.args.stretches.now.items (deque_len c.args.stretches.now - 1) c.in-Some.last.now s (omega (arith, c.in-Some.ensures.variant.0 refl, c.args.stretches.now.ok.0)) c.in-Some.ensures.value in
    let one = are-last b end.front (s ∷ []) (subst (AreSpans b) end.before c.requires.each) in
    omega (arith, one.0.1.within, within_all b s.place.position one.0.1.boundary, c.framed_total-all.ensures.value, c.framed_total-all.ensures.bound, c.requires.few)

pub returns-clause-longer : goal.returns-clause-longer
returns-clause-longer c = λ yes.
    let b = c.args.replay.now in
    let s = c.in-Some.last.now in
    let t = record s { count = s.count + c.args.count } in
    let end = ends_in c.args.stretches.now.items (deque_len c.args.stretches.now - 1) c.in-Some.last.now t (omega (arith, c.in-Some.ensures.variant.0 refl, c.args.stretches.now.ok.0)) c.in-Some.ensures.value in
    record {
      front = end.front;
      last = s;
      before = end.before;
      after = end.after;
      end = reach-last b end.front s (subst (Reaches b) end.before (c.requires.reaches (search rules)));
    }
