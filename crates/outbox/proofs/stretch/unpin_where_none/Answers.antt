use Rattle.std.proofs.Common.{◌≡◌, [], sym, subst, arith}
use Rattle.std.proofs.lemmas.Bool.Decides.{nat_tests}
use Rattle.std.specs.VecDeque.{deque_len}
use Rattle.outbox.specs.Spans.{Reaches}
use Rattle.outbox.proofs.Counted.{none_there}
use Rattle.outbox.proofs.Spanned.{reach-none}
use Rattle.outbox.proofs.stretch.unpin_where_none.Goals as goal

pub returns-then-is_empty-clause-reaches : goal.returns-then-is_empty-clause-reaches
returns-then-is_empty-clause-reaches c = λ before.
    let q = c.args.stretches.now in
    let zero : deque_len q ≡ 0 = grind (arith, nat_tests, c.is_empty.ensures, c.if-is_empty.true) in
    subst (Reaches c.unpin.new.self) (sym (none_there q.items (deque_len q) q.ok.0 zero)) (reach-none c.unpin.new.self)
