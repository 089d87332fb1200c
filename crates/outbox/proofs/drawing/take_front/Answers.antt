use Rattle.std.proofs.Common.{◌≡◌, ◌+◌, ◌-◌, ◌≤◌, ◌++◌, [], length, take, drop, ap, sym, ◌∙◌, append-nil, arith}
use Rattle.std.proofs.lemmas.List.{drop_all, length-drop, length-take-le, take_all}
use Rattle.outbox.specs.Waiting.{Waiting}
use Rattle.outbox.proofs.Drawn.{Drops, Fills, drops_more, filled}
use Rattle.outbox.proofs.drawing.take_front.Goals as goal

pub loop-filled-preserved : goal.loop-filled-preserved
loop-filled-preserved c =
    let f = c.loop-filled.filled in
    let r = c.copy_front-count.result in
    let now = c.loop-filled.buffer in
    let sub = c.copy_front-count.new.buffer in
    let d = c.loop-filled.invariant.0 in
    let fills = c.loop-filled.invariant.1 in
    let all = length-drop f now in
    let rest : take (length now - f) (drop f now) ≡ drop f now = take_all (length now - f) (drop f now) (omega (arith, all)) in
    let le : r ≤ length now - f = omega (arith, c.copy_front-count.ensures.within, ap length rest, all) in
    let size = c.loop-filled.auto.buffer in
    let queue : c.loop-filled.outbox.queue ≡ drop f c.args.outbox.now.queue = ap (λ (w : Waiting). w.queue) d.is in
    let more : sub ≡ take r (drop f c.args.outbox.now.queue) ++ drop r (drop f now) =
    c.copy_front-count.ensures.taken ∙ (λ i. take r (queue i) ++ drop r (rest i)) in
    let gone : drop (length now - f) (drop f now) ≡ [] = drop_all (length now - f) (drop f now) (omega (arith, all)) in (
      drops_more c.args.outbox.now c.loop-filled.outbox c.drop_front.new.outbox f r d (omega (arith, le, size, c.requires, c.loop-filled-test.true)) c.drop_front.ensures,
      record {
        is = ap (λ l. take f now ++ (sub ++ l)) gone ∙ ap (λ l. take f now ++ l) (append-nil sub)
            ∙ filled c.args.outbox.now.queue c.args.buffer.now now sub f r (omega (arith, d.within)) fills.is more;
        within = omega (arith, le, size, c.loop-filled-test.true);
      },
    )
