use Rattle.std.proofs.Common.{sym, subst}
use Rattle.replay_buffer.specs.Held.{IsHeldOf}
use Rattle.outbox.specs.Waiting.{Waiting}
use Rattle.outbox.proofs.outbox.Outbox.keep.Goals as goal

pub returns-clause-of_made : goal.returns-clause-of_made
returns-clause-of_made c = λ made told newest is up_to spelled.
    c.keep.ensures.of_made made told newest (subst (λ (w : Waiting). IsHeldOf made told w.held) (sym c.self.view_is) is) up_to spelled
