use Rattle.std.proofs.Common.{Some, ap, sym, subst, ◌∙◌}
use Rattle.replay_buffer.specs.Held.{Buffer, CanReadFrom, from_boundary, lesser, readable}
use Rattle.replay_buffer.specs.Stored.{IsStart, Stored, held_in}
use Rattle.replay_buffer.proofs.Trimmed.{all_in, can_start, trimmed-from, trimmed-held, trimmed-pinned}
use Rattle.replay_buffer.proofs.replay.Replay.pin.Goals as goal

pub forget_unpinned-requires : goal.forget_unpinned-requires
forget_unpinned-requires c =
    subst (λ s. IsStart s c.args.position) (sym c.remember.ensures) (can_start c.self.inside c.args.position c.self.invariant (subst (λ b. CanReadFrom b c.args.position) (sym c.self.view_is) c.requires))

pub invariant_of-self : goal.invariant_of-self
invariant_of-self c = trimmed-pinned _ _ (Some c.args.position) c.self.inside.hold c.forget_unpinned.ensures.all c.forget_unpinned.ensures.pinned

pub returns-clause-held : goal.returns-clause-held
returns-clause-held c =
    trimmed-held _ _ _ c.self.inside.hold c.forget_unpinned.ensures.all ∙ ap (held_in c.self.inside.hold) c.remember.ensures ∙ ap (λ (b : Buffer). b.held) c.self.view_is

pub returns-clause-readable : goal.returns-clause-readable
returns-clause-readable c =
    trimmed-from _ _ _ c.self.inside.hold c.forget_unpinned.ensures.all
    ∙ ap (λ (s : Stored). from_boundary (all_in c.self.inside.hold s) (lesser (Some c.args.position) s.first)) c.remember.ensures
    ∙ ap (λ (b : Buffer). from_boundary (readable b) (lesser (Some c.args.position) b.held.first)) c.self.view_is

pub returns-clause-spare : goal.returns-clause-spare
returns-clause-spare c =
    ap (λ (v : Stored). v.spare) c.forget_unpinned.ensures.all.same ∙ ap (λ (v : Stored). v.spare) c.remember.ensures ∙ ap (λ (b : Buffer). b.spare) c.self.view_is
