use Rattle.std.proofs.Common.{◌≡◌, ◌+◌, ◌<◌, ◌≤◌, ◌++◌, ◌∷◌, [], List, length, take, drop, ap, sym, subst, ◌∙◌, inl, arith}
use Rattle.std.specs.VecDeque.{deque_len}
use Rattle.outbox.specs.declared.stretch.Stretch.{Stretch}
use Rattle.outbox.specs.Line.{run}
use Rattle.outbox.specs.Spans.{AreSpans, IsPart, Reaches, bytes_from, pieces}
use Rattle.outbox.proofs.Counted.{only_there}
use Rattle.outbox.proofs.Pins.{PinsAt, pins}
use Rattle.outbox.proofs.Spanned.{reach-last, reach-push}
use Rattle.outbox.proofs.stretch.pin_where_one.Goals as goal

pub pin-requires : goal.pin-requires
pin-requires c =
    let q = c.args.stretches.now in
    let s = c.in-Some.first.now in
    let one : deque_len q ≡ 1 = omega (arith, c.len.ensures, c.if-len-ne1.false) in
    let is = only_there q.items s (deque_len q) q.ok.0 one c.in-Some.ensures.lookup in
    inl (subst (AreSpans c.args.replay.now) is c.requires).0.1.boundary

-- the bytes from the first stretch on stay
stays : (c : goal.After-pin) → (c.args.stretches.now.items ≡ c.in-Some.first.now ∷ []) × PinsAt c.args.replay.now c.pin.new.self c.in-Some.first.now.place.position
stays c =
    let q = c.args.stretches.now in
    let s = c.in-Some.first.now in
    let one : deque_len q ≡ 1 = omega (arith, c.len.ensures, c.if-len-ne1.false) in
    let is = only_there q.items s (deque_len q) q.ok.0 one c.in-Some.ensures.lookup in
    let at = (subst (AreSpans c.args.replay.now) is c.requires).0.1.boundary in
    let p = s.place.position in
    (is, pins c.args.replay.now c.pin.new.self p p c.floor-floor.ensures.within at c.pin.ensures.readable c.pin.ensures.pin (omega arith) at)

pub returns-clause-each : goal.returns-clause-each
returns-clause-each c =
    let s = c.in-Some.first.now in
    let k = (stays c).1 in
    let was = (subst (AreSpans c.args.replay.now) (stays c).0 c.requires).0 in
    let part : IsPart c.pin.new.self s = record { boundary = k.boundary; within = omega (arith, was.1.within, ap length k.bytes); pinned = k.pinned } in
    subst (AreSpans c.pin.new.self) (sym (stays c).0) ((was.0, part), tt)

pub returns-clause-bytes : goal.returns-clause-bytes
returns-clause-bytes c =
    let s = c.in-Some.first.now in
    ap (pieces c.pin.new.self) (stays c).0 ∙ ap (λ l. run s.own (take s.count (drop s.place.skip l)) ++ []) (stays c).1.bytes ∙ sym (ap (pieces c.args.replay.now) (stays c).0)

pub returns-clause-reaches : goal.returns-clause-reaches
returns-clause-reaches c = λ end.
    let s = c.in-Some.first.now in
    let was = reach-last c.args.replay.now [] s (subst (Reaches c.args.replay.now) (stays c).0 end) in
    subst (Reaches c.pin.new.self) (sym (stays c).0) (reach-push c.pin.new.self [] s (was ∙ sym (ap length (stays c).1.bytes)))
