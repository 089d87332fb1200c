use Rattle.std.proofs.Common.{sym, subst}
use Rattle.replay_buffer.specs.Marked.{IsAt, IsMarked}
use Rattle.replay_buffer.specs.Storage.{all_of}
use Rattle.replay_buffer.specs.declared.marks.Spot.{Spot}
use Rattle.replay_buffer.proofs.Known.{known, outside_at}
use Rattle.replay_buffer.proofs.store.Store.nearest.Goals as goal

pub returns-clause-at : goal.returns-clause-at
returns-clause-at c =
    let r = c.self.inside in
    let k = known _ _ c.self.invariant c.self.view_is in
    let fs = all_of r in
    let first = c.first-first.ensures in
    let marked = subst (λ (s : Spot). IsMarked s.position s.offset fs r.marks) (sym first) c.self.invariant.marked in
    let before = outside_at _ _ c.before-2.result k (subst (λ (s : Spot). IsAt s.position s.offset fs c.before-2.result) first (c.before-2.ensures.at fs marked)) in
    c.or_later-2.ensures.at _ _ _ (c.or_later.ensures.at _ _ _ before k.oldest) k.near
