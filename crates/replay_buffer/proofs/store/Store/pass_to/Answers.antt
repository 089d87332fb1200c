use Rattle.std.proofs.Common.{◌≡◌, ◌+◌, ◌-◌, ◌≤◌, length, take, drop, refl, sym, ap, subst, ◌∙◌, arith}
use Rattle.std.specs.List.{AllByRecursion}
use Rattle.std.proofs.lemmas.List.{drop-drop, drop_at, length-append, length-take-le}
use Rattle.std.proofs.Math.Seq.{take-add}
use Rattle.position.specs.Boundaries.{frames_from_by, pos_by}
use Rattle.replay_buffer.specs.Storage.{all_of}
use Rattle.replay_buffer.specs.Stored.{Stored, frames_of}
use Rattle.replay_buffer.proofs.Boundaries.{from-taken}
use Rattle.replay_buffer.proofs.Known.{known}
use Rattle.replay_buffer.proofs.Passed.{beyond}
use Rattle.replay_buffer.proofs.Shown.{same_stored}
use Rattle.replay_buffer.proofs.Stored.{all_drop}
use Rattle.replay_buffer.proofs.store.Store.pass_to.Goals as goal

pub returns-clause-passed : goal.returns-clause-passed
returns-clause-passed c =
    let r = c.self.inside in
    let fs = all_of r in
    let i = r.oldest.index in
    let n = c.args.spot.index - length (take r.oldest.index fs) in
    let few = length-take-le i fs c.self.invariant.oldest.within in
    let whole : r.oldest.index + (c.args.spot.index - length (take r.oldest.index fs)) ≡ c.args.spot.index = omega (arith, few, c.requires.later, ap (λ (v : Stored). length v.below) c.self.view_is) in
    rw (← c.self.view_is) (same_stored _ _ refl refl (ap (λ k. take k fs) (sym whole) ∙ take-add i n fs) (sym (drop-drop n i fs ∙ ap (λ k. drop k fs) whole)) refl)

pub returns-clause-first : goal.returns-clause-first
returns-clause-first c =
    let v = c.args.self.now in
    let k = known _ _ c.self.invariant c.self.view_is in
    let whole : length v.below + (c.args.spot.index - length v.below) ≡ c.args.spot.index = omega (arith, c.requires.later) in
    omega (arith, c.requires.at.start, ap (λ m. pos_by length (take m (frames_of v))) whole, beyond v (c.args.spot.index - length v.below), k.within)

pub returns-clause-rest : goal.returns-clause-rest
returns-clause-rest c =
    let v = c.args.self.now in
    let k = known _ _ c.self.invariant c.self.view_is in
    let n = c.args.spot.index - length v.below in
    let few : c.args.spot.index - length v.below ≤ length v.held = omega (arith, c.requires.at.within, length-append v.below v.held) in
    let longer = subst (AllByRecursion (λ f. 6 ≤ length f)) (drop_at v.below v.held (length v.below) refl) (all_drop _ (frames_of v) (length v.below) k.longer) in
    let size : pos_by length (take (c.args.spot.index - length v.below) v.held) ≡ c.args.spot.position - v.first = omega (arith, returns-clause-first c) in
    ap (λ (u : Stored). u.held) (returns-clause-passed c) ∙ sym (from-taken v.held n longer few) ∙ ap (frames_from_by length v.held) size
