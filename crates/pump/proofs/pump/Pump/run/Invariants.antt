use Rattle.std.proofs.Common.{◌≡◌}
use Rattle.outside.specs.Links.{NoneFell}
use Rattle.pump.specs.Turns.{GoesOn, IsKept, IsPumped}
use Rattle.pump.specs.Runs.{HasLulled, placed}
use Rattle.pump.proofs.Running.{HasRun}
use Rattle.pump.proofs.pump.Pump.run.Given as goal

abbrev pub invariant-loop : goal.invariant-loop
invariant-loop g l = l.caller ≡ record l.fn.caller { front = l.caller.front; note = l.caller.note }
    × (IsKept l.fn.caller (g.L.Link.shown l.fn.link) l.fn.self → IsKept l.caller (g.L.Link.shown l.link) l.self)
    × GoesOn (IsPumped (g.K.Clock.moments l.fn.clock) l.fn.self.conn) l.fn.caller l.caller.front
    × l.self.conn ≡ l.fn.self.conn
    × l.self.max_in ≡ l.fn.self.max_in
    × NoneFell (g.L.Link.shown l.fn.link).counts (g.L.Link.shown l.link).counts
    × HasLulled (g.L.Link.shown l.fn.link).counts.lulls l.met (g.L.Link.shown l.link).counts.lulls
    × HasRun l.fn.connection.settings (g.K.Clock.moments l.fn.clock) l.fn.lulls (placed l.fn.caller (g.L.Link.shown l.fn.link) l.fn.self) (placed l.caller (g.L.Link.shown l.link) l.self) l.met
