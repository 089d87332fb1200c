use Rattle.std.proofs.Common.{ap}
use Rattle.conn_lock.proofs.lock.Lock.split.Goals as goal

pub cut-other-requires-clause-named : goal.cut-other-requires-clause-named
cut-other-requires-clause-named g c = (c.seat.inside.token.me.0.names, ap (λ m. m.0.names) c.in-Some.ensures.name)
