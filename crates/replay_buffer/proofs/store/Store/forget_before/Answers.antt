use Rattle.std.proofs.Common.{◌≤◌, length, ap, arith}
use Rattle.std.proofs.lemmas.List.{length-take}
use Rattle.replay_buffer.specs.Storage.{all_of}
use Rattle.replay_buffer.specs.Stored.{Stored, frames_of}
use Rattle.replay_buffer.proofs.Dropped.{Dropped, dropped, without_front}
use Rattle.replay_buffer.proofs.Known.{inside_at, known}
use Rattle.replay_buffer.proofs.Stored.{laid_parts}
use Rattle.replay_buffer.proofs.store.Store.forget_before.Goals as goal

pub drop_front-requires-2 : goal.drop_front-requires-2
drop_front-requires-2 c =
    let k = known _ _ c.self.invariant c.self.view_is in
    omega (arith, c.requires.at.offset, k.base, k.size, laid_parts (frames_of c.args.self.now) c.args.gone.index)

left : (c : goal.After-self-4-1) → Dropped c.self.inside (without_front c.self.inside c.drop_front-2.new.self c.drop_front.new.self c.without_front-self-inside.result c.args.gone) c.args.gone
left c =
    let r = c.self.inside in
    let s = c.self.invariant in
    let there = inside_at _ _ c.args.gone (known _ _ c.self.invariant c.self.view_is) c.requires.at in
    let before : c.args.gone.index ≤ r.oldest.index = omega (arith, c.requires.below, ap (λ (v : Stored). length v.below) c.self.view_is, length-take r.oldest.index (all_of r)) in
    dropped r c.drop_front-2.new.self c.drop_front.new.self c.without_front-self-inside.result c.args.gone s there before c.drop_front-2.ensures c.drop_front.ensures.count
    (c.drop_front.ensures.marked r.floor r.base (all_of r) s.marked) (c.drop_front.ensures.room r.spare_frames s.spare_of_frames)
    (c.without_front-self-inside.ensures r.floor r.base (all_of r) s.near there)

pub invariant_of-self : goal.invariant_of-self
invariant_of-self c = (left c).stored

pub returns-clause-forgotten : goal.returns-clause-forgotten
returns-clause-forgotten c = rw (← c.self.view_is) (left c).same

pub returns-clause-floor : goal.returns-clause-floor
returns-clause-floor c = (left c).floor
