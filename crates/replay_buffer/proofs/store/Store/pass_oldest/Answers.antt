use Rattle.std.proofs.Common.{length, take, refl, ap, ◌∙◌, arith, drop}
use Rattle.position.specs.Boundaries.{pos_by}
use Rattle.replay_buffer.specs.Storage.{all_of}
use Rattle.replay_buffer.proofs.Known.{inside_at, known}
use Rattle.replay_buffer.proofs.Shown.{next, same_stored}
use Rattle.replay_buffer.proofs.store.Store.pass_oldest.Goals as goal

pub returns-clause-passed : goal.returns-clause-passed
returns-clause-passed c =
    let r = c.self.inside in
    let fs = all_of r in
    let e = c.next-self-inside.ensures in
    let n = next fs r.oldest.index in
    let at = inside_at _ _ c.next-self-inside.result (known _ _ c.self.invariant c.self.view_is) e.at in
    let start = ap (λ k. pos_by length (take k fs)) e.index in
    rw (← c.self.view_is) (same_stored _ _ (omega (arith, at.start, start, n.sum, c.self.invariant.oldest.start)) refl (ap (λ k. take k fs) e.index ∙ n.taken) (ap (λ k. drop k fs) e.index ∙ n.left) refl)
