use Rattle.std.proofs.Common.{arith}
use Rattle.replay_buffer.proofs.Boundaries.{none_before}
use Rattle.replay_buffer.proofs.Known.{known}
use Rattle.replay_buffer.proofs.store.Store.floor.Goals as goal

pub returns-clause-within : goal.returns-clause-within
returns-clause-within c = (known _ _ c.self.invariant c.self.view_is).within

pub returns-clause-none : goal.returns-clause-none
returns-clause-none c = λ same.
    let v = c.args.self.now in
    let k = known _ _ c.self.invariant c.self.view_is in
    none_before v.below v.held k.longer (omega (arith, k.floor, k.within, same))
