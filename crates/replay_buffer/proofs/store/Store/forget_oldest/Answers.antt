use Rattle.replay_buffer.proofs.Known.{first_here, known}
use Rattle.replay_buffer.proofs.store.Store.forget_oldest.Goals as goal

pub next-next-requires-clause-at : goal.next-next-requires-clause-at
next-next-requires-clause-at c = first_here _ _ c.first-oldest.result (known _ _ c.self.invariant c.self.view_is) c.first-oldest.ensures
