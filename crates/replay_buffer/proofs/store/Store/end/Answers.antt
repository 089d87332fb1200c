use Rattle.std.proofs.Common.{sym}
use Rattle.replay_buffer.proofs.Shown.{shows}
use Rattle.replay_buffer.proofs.store.Store.end.Goals as goal

pub returns-clause-value : goal.returns-clause-value
returns-clause-value c = rw (← c.self.view_is) (sym (shows _ c.self.invariant).end)
