-- The callers of a link, before it is served.
use Rattle.std.specs.Prelude.{◌≡◌, ℕ, List, [], ◌∷◌, map, Option, None}
use Rattle.std.specs.Option.{option_map}
use Rattle.rs_wire.specs.declared.call.Call.{Call}
use Rattle.rs_wire.specs.declared.call.Call.TheVariants as call
use Rattle.conn_lock.specs.Callers.{IsOthers}
use Rattle.conn_shared.specs.Lines.{who_of}
use Rattle.conn_shared.specs.Members.{Knowledge}

-- a caller that has made no entry, and no name but its number
abbrev pub IsNewCaller : Knowledge → Type 0
IsNewCaller me = (me.names ≡ me.number ∷ []) × IsOthers who_of me.names me.front

abbrev pub numbers : List Knowledge → List ℕ
numbers callers = map (λ (k : Knowledge). k.number) callers

-- how many milliseconds a lease lasts that a server grants after an opening
abbrev pub lease_ms : ℕ
lease_ms = 60000

-- the lease that is granted, of so many requests
abbrev pub lease_of : Option ℕ → Option Call
lease_of grant = option_map (λ count. call.Lease lease_ms count None) grant
