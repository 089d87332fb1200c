use Rattle.std.proofs.Common.{sym, subst}
use Rattle.replay_buffer.specs.Held.{CanReadFrom}
use Rattle.replay_buffer.proofs.Trimmed.{can_start}
use Rattle.replay_buffer.proofs.replay.Replay.copy.Goals as goal

pub copy-requires-clause-boundary : goal.copy-requires-clause-boundary
copy-requires-clause-boundary c = can_start c.self.inside c.args.from c.self.invariant (subst (λ b. CanReadFrom b c.args.from) (sym c.self.view_is) c.requires.boundary)
