use Rattle.std.proofs.Common.{◌≡◌, ap, subst}
use Rattle.conn_lock.specs.Callers.{calls}
use Rattle.conn_shared.specs.Lines.{who_of}
use Rattle.conn_shared.proofs.Lines.{unused_in}
use Rattle.conn_shared.proofs.shared.SharedSession.split.Goals as goal

pub returns-in-Ok-clause-unused : goal.returns-in-Ok-clause-unused
returns-in-Ok-clause-unused g c = subst (λ front. calls who_of c.in-Ok.other.number front ≡ 0) (ap (λ k. k.front) c.into_seat.ensures.known) (unused_in c.into_seat.result.front c.in-Ok.other.number c.in-Ok.ensures.unused)
