-- Leases of both directions after an event and its answer (RSocket 1.0, "Lease Semantics").
use Rattle.std.specs.Prelude.{◌≡◌, ◌+◌, ◌&&◌, nat_lt, ℕ, Bool, true, false, if◌then◌else◌, Option, Some, None}
use Rattle.std.specs.Option.{option_map}
use Rattle.rs_wire.specs.declared.call.Call.TheVariants as call
use Rattle.rs_wire.specs.declared.settings.Settings.{Settings}
use Rattle.rs_frame.specs.declared.frame.Frame.TheVariants as frame
use Rattle.lease.specs.Lease.{HasLeft}
use Rattle.lease.specs.Sum.{Sum}
use Rattle.lease.specs.declared.requester.Terms.{Terms}
use Rattle.tape.specs.declared.event.Event.{Event}
use Rattle.tape.specs.declared.event.Event.TheVariants as event
use Rattle.tape.specs.declared.answer.Answer.{Answer}
use Rattle.tape.specs.declared.answer.Answer.TheVariants as answer
use Rattle.session_model.specs.Leases.{covers}
use Rattle.session_model.specs.Life.{agrees_leases}
use Rattle.session_core.specs.declared.state.State.{State}

-- the next request of the peer's is covered
abbrev pub covers_next : Settings → State → Bool
covers_next g s = covers (agrees_leases g s.setup) s.granted

-- a lease of which one request more is made
abbrev pub used_once : Terms → Terms
used_once l = record { count = l.count; expires = l.expires; used = l.used + 1 }

-- what the peer lets this end ask after an event so answered at a moment, where it was that before
abbrev pub lease_after : Bool → ℕ → Answer → Event → Option Terms → Option Terms
lease_after agreed now (answer.Opened n) e before = None
lease_after agreed now answer.Parted e before = None
lease_after agreed now (answer.Dead last) e before = None
lease_after agreed now answer.Handled (event.Came conn (frame.Lease ttl count metadata)) before = if agreed then Some (record { count = count; expires = now + ttl; used = 0 }) else before
lease_after agreed now (answer.Started id) e before = option_map used_once before
lease_after agreed now a e before = before

-- a request can be started: the lease allows one more, where leases are agreed, and there is none else
abbrev pub MayStart : Bool → Option Terms → Type 0
MayStart true lease = HasLeft lease
MayStart false lease = lease ≡ None

-- a request that is started can be
abbrev pub LetsStart : Bool → Answer → Option Terms → Type 0
LetsStart agreed (answer.Started id) lease = MayStart agreed lease
LetsStart agreed a lease = Unit {0}

-- what this end lets its peer ask after an event so answered: a LEASE lets it ask more, and a request that comes is covered where fewer were than let in sum
abbrev pub sum_after : Bool → Answer → Event → Sum → Sum
sum_after agreed answer.Done (event.Asked (call.Lease ttl count metadata)) s = record s { granted = s.granted + count }
sum_after agreed answer.Handled (event.Came conn (frame.Request r)) s = if agreed && nat_lt s.admitted s.granted then record s { admitted = s.admitted + 1 } else s
sum_after agreed a e s = s
