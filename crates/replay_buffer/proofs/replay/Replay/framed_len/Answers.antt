use Rattle.std.proofs.Common.{sym, subst}
use Rattle.replay_buffer.specs.Held.{CanReadFrom}
use Rattle.replay_buffer.proofs.Trimmed.{can_start}
use Rattle.replay_buffer.proofs.replay.Replay.framed_len.Goals as goal

pub framed_len-requires : goal.framed_len-requires
framed_len-requires c = can_start c.self.inside c.args.from c.self.invariant (subst (λ b. CanReadFrom b c.args.from) (sym c.self.view_is) c.requires)

pub returns-clause-held : goal.returns-clause-held
returns-clause-held c = rw (← c.self.view_is) (λ held. c.framed_len.ensures.held held.0)
