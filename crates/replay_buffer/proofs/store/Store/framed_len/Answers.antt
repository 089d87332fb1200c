use Rattle.std.proofs.Common.{◌≡◌, ◌+◌, ◌-◌, length, take, ◌∙◌, sym, arith}
use Rattle.position.specs.Boundaries.{pos_by}
use Rattle.position.proofs.Boundaries.{boundary-le}
use Rattle.replay_buffer.specs.Stored.{floor_of, frames_of}
use Rattle.replay_buffer.proofs.Found.{framed_size}
use Rattle.replay_buffer.proofs.Known.{known}
use Rattle.replay_buffer.proofs.Walked.{from_held}
use Rattle.replay_buffer.proofs.store.Store.framed_len.Goals as goal

pub overflow_sub-result : goal.overflow_sub-result
overflow_sub-result c =
    let v = c.args.self.now in
    let k = known _ _ c.self.invariant c.self.view_is in
    omega (arith, k.whole, boundary-le length (frames_of v) (c.args.from - floor_of v) c.requires.1, c.requires.0)

pub returns-clause-value : goal.returns-clause-value
returns-clause-value c =
    let v = c.args.self.now in
    let k = known _ _ c.self.invariant c.self.view_is in
    let at = c.find.ensures.at in
    let here : c.args.from ≡ floor_of v + pos_by length (take c.find.result.index (frames_of v)) = sym (c.find.ensures.start c.requires) ∙ at.start in
    let within = boundary-le length (frames_of v) (c.args.from - floor_of v) c.requires.1 in
    omega (arith, framed_size v c.find.result.index c.args.from k.longer at.within here, k.whole, k.many, c.frames.ensures, at.within, within, c.requires.0)

pub returns-clause-held : goal.returns-clause-held
returns-clause-held c =
    let k = known _ _ c.self.invariant c.self.view_is in
    from_held c.args.self.now c.args.from k.longer k.within
