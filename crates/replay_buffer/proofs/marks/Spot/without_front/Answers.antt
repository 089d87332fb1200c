use Rattle.std.proofs.Common.{drop, refl, subst, sym, arith}
use Rattle.replay_buffer.specs.Marked.{IsAt}
use Rattle.replay_buffer.proofs.Marked.{at-drop, first_at}
use Rattle.replay_buffer.proofs.marks.Spot.without_front.Goals as goal

pub returns-then-self-gone : goal.returns-then-self-gone
returns-then-self-gone c = λ at base frames here there.
    let left = drop c.args.gone.index frames in
    subst (IsAt c.args.gone.position c.args.gone.offset left) (sym c.first.ensures) (first_at c.args.gone.position c.args.gone.offset left)

pub returns : goal.returns
returns c = λ at base frames here there. at-drop at base frames c.args.self _ c.args.gone here there (omega (arith, c.if-self-gone.false)) refl refl refl
