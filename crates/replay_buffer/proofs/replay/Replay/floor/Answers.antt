use Rattle.std.proofs.Common.{◌∙◌}
use Rattle.replay_buffer.proofs.replay.Replay.floor.Goals as goal

pub returns-clause-value : goal.returns-clause-value
returns-clause-value c = rw (← c.self.view_is) c.floor.ensures.value

pub returns-clause-lesser : goal.returns-clause-lesser
returns-clause-lesser c = rw (← c.self.view_is) (c.floor.ensures.value ∙ c.self.invariant.floor)
