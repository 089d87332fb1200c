use Rattle.std.proofs.Common.{◌≡◌}
use Rattle.conn_shared.specs.Members.{Follows}
use Rattle.conn.proofs.connection.Connection.wait_for.Given as goal

abbrev pub invariant-loop : goal.invariant-loop
invariant-loop g l =
    (l.caller ≡ record l.fn.caller { front = l.caller.front; note = l.caller.note })
    × Follows l.fn.caller.names l.fn.caller.front l.caller.front
