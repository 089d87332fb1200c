use Rattle.replay_buffer.proofs.Shown.{none}
use Rattle.replay_buffer.proofs.store.Store.new.Goals as goal

pub invariant_of-result : goal.invariant_of-result
invariant_of-result c = none _ _ _ _ c.in_ok-new.ensures c.in_ok-new-2.ensures c.first.ensures c.first-2.ensures
