use Rattle.std.proofs.Common.{max, ap, sym, subst, ◌∙◌, arith}
use Rattle.replay_buffer.specs.Held.{Buffer, IsHeldOf, end_of, from_acked, from_boundary, lesser, readable}
use Rattle.replay_buffer.specs.Stored.{Stored}
use Rattle.replay_buffer.proofs.HeldOf.{released}
use Rattle.replay_buffer.proofs.Trimmed.{passed-all, passed-pinned, trimmed-all, trimmed-held, trimmed-pinned}
use Rattle.replay_buffer.proofs.replay.Replay.release.Goals as goal

pub forget_unpinned-requires : goal.forget_unpinned-requires
forget_unpinned-requires c = passed-pinned _ _ c.self.inside.pin c.pass_up_to.ensures.all c.self.invariant.boundary

pub invariant_of-self : goal.invariant_of-self
invariant_of-self c = trimmed-pinned _ _ c.self.inside.pin c.self.inside.hold c.forget_unpinned.ensures.all c.forget_unpinned.ensures.pinned

pub returns-clause-held : goal.returns-clause-held
returns-clause-held c =
    let hold = c.self.inside.hold in
    trimmed-held _ _ _ hold c.forget_unpinned.ensures.all ∙ c.pass_up_to.ensures.held hold ∙ ap (λ (b : Buffer). from_acked b.held c.args.position) c.self.view_is

pub returns-clause-of_made : goal.returns-clause-of_made
returns-clause-of_made c = λ made told is.
    subst (IsHeldOf made (max told c.args.position)) (sym (returns-clause-held c)) (released made told c.args.position c.args.self.now.held is)

pub returns-clause-readable : goal.returns-clause-readable
returns-clause-readable c =
    let r = c.self.inside in
    let first = c.forget_unpinned.new.store.first in
    trimmed-all _ _ r.pin r.hold c.forget_unpinned.ensures.all ∙ ap (λ h. from_boundary h (lesser r.pin first)) (passed-all _ _ r.hold c.pass_up_to.ensures.all)
    ∙ ap (λ (b : Buffer). from_boundary (readable b) (lesser b.pin first)) c.self.view_is

pub returns-clause-end : goal.returns-clause-end
returns-clause-end c =
    let view = ap (λ (b : Buffer). end_of b.held) c.self.view_is in
    let new = ap end_of (trimmed-held _ _ _ c.self.inside.hold c.forget_unpinned.ensures.all) in
    omega (arith, view, new, c.pass_up_to.ensures.all.end)

pub returns-clause-spare : goal.returns-clause-spare
returns-clause-spare c =
    ap (λ (v : Stored). v.spare) c.forget_unpinned.ensures.all.same ∙ c.pass_up_to.ensures.all.spare ∙ ap (λ (b : Buffer). b.spare) c.self.view_is
