use Rattle.std.proofs.Common.{◌≡◌, true, false}
use Rattle.outside.specs.Links.{Shown}
use Rattle.pump.specs.Turns.{Arrives, GoesOn, HasArrived, HasWaiting, IsKept, has}
use Rattle.pump.proofs.inner.Inner.hear_all.Given as goal

abbrev pub invariant-loop : goal.invariant-loop
invariant-loop g l = l.caller ≡ record l.fn.caller { front = l.caller.front; note = l.caller.note }
    × ((s : Shown) → IsKept l.fn.caller s (has l.fn.self) → IsKept l.caller s (has l.self))
    × GoesOn (Arrives l.fn.self.conn) l.fn.caller l.caller.front
    × l.self.conn ≡ l.fn.self.conn
    × l.self.incoming.max_in ≡ l.fn.self.incoming.max_in
    × l.self.outgoing ≡ l.fn.self.outgoing
    × (l.noted ≡ true → HasArrived l.fn.self.conn l.fn.caller l.caller.front)
    × (l.noted ≡ false → l.caller.front ≡ l.fn.caller.front)
    × (l.noted ≡ false → HasWaiting (has l.fn.self) → HasWaiting (has l.self))
    × (l.fn.self.bad ≡ true → l.self ≡ l.fn.self)
