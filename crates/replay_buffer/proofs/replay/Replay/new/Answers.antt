use Rattle.std.proofs.Common.{[], refl}
use Rattle.replay_buffer.proofs.HeldOf.{held_of_none}
use Rattle.replay_buffer.proofs.replay.Replay.new.Goals as goal

pub returns-clause-of_none : goal.returns-clause-of_none
returns-clause-of_none c = rw c.in_ok-new.ensures (held_of_none [] c.args.hold refl)
