use Rattle.std.proofs.Common.{◌≡◌, ◌-◌, [], ◌∷◌, ◌++◌, drop, length, ap, sym, subst, ◌∙◌, arith}
use Rattle.std.specs.Option.{IfSome}
use Rattle.position.proofs.Boundaries.{pos-push}
use Rattle.replay_buffer.specs.Held.{Buffer, HasSpare, Held, IsHeldOf, end_of, from_boundary, from_least, lesser, readable, spare_after, with_newest}
use Rattle.replay_buffer.specs.Stored.{Stored, IsStart, held_in}
use Rattle.replay_buffer.proofs.HeldOf.{kept}
use Rattle.replay_buffer.proofs.Trimmed.{all_in, appended-all, appended-pinned, passed-all, passed-pinned, trimmed-all, trimmed-held, trimmed-pinned}
use Rattle.replay_buffer.proofs.replay.Replay.keep_framed.Goals as goal

pub append_framed-requires-clause-spare : goal.append_framed-requires-clause-spare
append_framed-requires-clause-spare c = subst (λ (b : Buffer). HasSpare b.spare (length (drop 3 c.args.bytes.now))) (sym c.self.view_is) c.requires.spare

pub append_framed-requires-clause-top : goal.append_framed-requires-clause-top
append_framed-requires-clause-top c = omega (arith, ap (λ (b : Buffer). end_of b.held) c.self.view_is, c.requires.top)

pub forget_unpinned-requires : goal.forget_unpinned-requires
forget_unpinned-requires c =
    let r = c.self.inside in
    let more = appended-pinned r.store (drop 3 c.args.bytes.now) (spare_after r.store.spare (length (drop 3 c.args.bytes.now))) r.pin c.self.invariant.boundary in
    passed-pinned _ _ r.pin c.pass_beyond.ensures.all (subst (λ v. IfSome r.pin (IsStart v)) (sym c.append_framed.ensures) more)

pub invariant_of-self : goal.invariant_of-self
invariant_of-self c = trimmed-pinned _ _ c.self.inside.pin c.self.inside.hold c.forget_unpinned.ensures.all c.forget_unpinned.ensures.pinned

pub returns-clause-held : goal.returns-clause-held
returns-clause-held c =
    let hold = c.self.inside.hold in
    let all = with_newest c.args.self.now.held (drop 3 c.args.bytes.now) in
    let view : held_in hold c.append_framed.new.self ≡ all =
    ap (held_in hold) c.append_framed.ensures ∙ ap (λ (b : Buffer). with_newest b.held (drop 3 c.args.bytes.now)) c.self.view_is in
    let low : end_of (held_in hold c.append_framed.new.self) - hold ≡ end_of all - all.hold =
    omega (arith, ap end_of view, ap (λ (h : Held). h.hold) view) in
    trimmed-held _ _ _ hold c.forget_unpinned.ensures.all ∙ c.pass_beyond.ensures.held hold ∙ (λ i. from_least (view i) (low i))

pub returns-clause-of_made : goal.returns-clause-of_made
returns-clause-of_made c = λ made told newest is up_to spelled.
    subst (IsHeldOf (made ++ newest ∷ []) told) (sym (returns-clause-held c)) (kept made told newest (drop 3 c.args.bytes.now) c.args.self.now.held is up_to spelled)

pub returns-clause-readable : goal.returns-clause-readable
returns-clause-readable c =
    let r = c.self.inside in
    let first = c.forget_unpinned.new.store.first in
    let all = passed-all _ _ r.hold c.pass_beyond.ensures.all ∙ ap (all_in r.hold) c.append_framed.ensures ∙ appended-all r.store (drop 3 c.args.bytes.now) (spare_after r.store.spare (length (drop 3 c.args.bytes.now))) r.hold in
    trimmed-all _ _ r.pin r.hold c.forget_unpinned.ensures.all ∙ ap (λ h. from_boundary h (lesser r.pin first)) all
    ∙ ap (λ (b : Buffer). from_boundary (with_newest (readable b) (drop 3 c.args.bytes.now)) (lesser b.pin first)) c.self.view_is

pub returns-clause-end : goal.returns-clause-end
returns-clause-end c =
    let hold = c.self.inside.hold in
    let view = ap (λ (b : Buffer). end_of b.held) c.self.view_is in
    let more = ap (λ v. end_of (held_in hold v)) c.append_framed.ensures in
    let new = ap end_of (trimmed-held _ _ _ hold c.forget_unpinned.ensures.all) in
    omega (arith, view, more, new, c.pass_beyond.ensures.all.end, pos-push length c.self.inside.store.held (drop 3 c.args.bytes.now))

pub returns-clause-spare : goal.returns-clause-spare
returns-clause-spare c =
    let n = length (drop 3 c.args.bytes.now) in
    ap (λ (v : Stored). v.spare) c.forget_unpinned.ensures.all.same ∙ c.pass_beyond.ensures.all.spare ∙ ap (λ (v : Stored). v.spare) c.append_framed.ensures
    ∙ ap (λ (b : Buffer). spare_after b.spare n) c.self.view_is
