use Rattle.replay_buffer.proofs.Known.{known}
use Rattle.replay_buffer.proofs.store.Store.reserve.Goals as goal

pub reserve-requires : goal.reserve-requires
reserve-requires c = (known _ _ c.self.invariant c.self.view_is).counts
