-- Leases of both directions, over the entries of a session, the newest first (RSocket 1.0, "Lease Semantics").
use Rattle.std.specs.Prelude.{ℕ, ◌+◌, ◌&&◌, ◌||◌, not, nat_lt, Bool, true, false, if◌then◌else◌, List, [], ◌∷◌, Option, Some, None, is_some}
use Rattle.std.specs.Option.{option_map, option_or}
use Rattle.rs_wire.specs.declared.settings.Settings.{Settings}
use Rattle.rs_wire.specs.declared.call.Call.TheVariants as call
use Rattle.rs_frame.specs.declared.frame.Frame.TheVariants as frame
use Rattle.tape.specs.declared.event.Event.{Event}
use Rattle.tape.specs.declared.event.Event.TheVariants as event
use Rattle.tape.specs.declared.answer.Answer.{Answer}
use Rattle.tape.specs.declared.answer.Answer.TheVariants as answer
use Rattle.tape.specs.declared.entry.Entry.{Entry}
use Rattle.lease.specs.declared.requester.Terms.{Terms}
use Rattle.lease.specs.Sum.{Sum}
use Rattle.session_model.specs.Life.{leases_agreed}
use Rattle.session_model.specs.Moments.{moment}

-- ---- what the peer lets this end ask

-- what a LEASE says: how many requests this end may make, and until which moment
pub record Leased : Type 0 where
  pub count : ℕ
  pub expires : ℕ

-- the LEASE that an entry handles at that moment, where it handles one
abbrev pub leases_in : ℕ → Answer → Event → Option Leased
leases_in now answer.Handled (event.Came conn (frame.Lease ttl count metadata)) = Some (record { count = count; expires = now + ttl })
leases_in now a e = None

-- a connection begins or ends, and no LEASE that came before it holds any more
abbrev pub changes_connection : Answer → Bool
changes_connection (answer.Opened n) = true
changes_connection answer.Parted = true
changes_connection (answer.Dead last) = true
changes_connection a = false

-- the last LEASE handled since the live opening
unfoldable pub last_lease : List Entry → Option Leased
last_lease [] = None
last_lease (x ∷ past) = if changes_connection x.answer then None else option_or (leases_in (moment past) x.answer x.event) (last_lease past)

abbrev pub starts_in : Answer → ℕ
starts_in (answer.Started id) = 1
starts_in a = 0

-- how many requests this end made since the last LEASE was handled
unfoldable pub made_since_lease : List Entry → ℕ
made_since_lease [] = 0
made_since_lease (x ∷ past) = if is_some (leases_in (moment past) x.answer x.event) then 0 else made_since_lease past + starts_in x.answer

-- a lease of which so many requests are made
abbrev pub terms_of : ℕ → Leased → Terms
terms_of used l = record { count = l.count; expires = l.expires; used = used }

-- the lease by which this end may make requests, where leases are agreed and a LEASE came on the live connection
abbrev pub lease : Settings → List Entry → Option Terms
lease g past = if leases_agreed g past then option_map (terms_of (made_since_lease past)) (last_lease past) else None

-- ---- what this end lets the peer ask

-- how many requests more an entry lets the peer make
abbrev pub lets_in : Answer → Event → ℕ
lets_in answer.Done (event.Asked (call.Lease ttl count metadata)) = count
lets_in a e = 0

-- how many requests this end lets its peer make, in sum over the session
unfoldable pub let_in_sum : List Entry → ℕ
let_in_sum [] = 0
let_in_sum (x ∷ past) = let_in_sum past + lets_in x.answer x.event

-- a request that is handled is covered or not
abbrev pub covered_in : Bool → Answer → Event → ℕ
covered_in covered answer.Handled (event.Came conn (frame.Request r)) = if covered then 1 else 0
covered_in covered a e = 0

-- how many requests of the peer's were covered: where leases are agreed, each that came while fewer were covered than let in sum
unfoldable pub covered : Settings → List Entry → ℕ
covered g [] = 0
covered g (x ∷ past) = covered g past + covered_in (leases_agreed g past && nat_lt (covered g past) (let_in_sum past)) x.answer x.event

abbrev pub sum : Settings → List Entry → Sum
sum g past = record { granted = let_in_sum past; admitted = covered g past }

-- a request needs no lease where none are agreed, and is covered where fewer were covered than let in sum
abbrev pub covers : Bool → Sum → Bool
covers agreed s = not agreed || nat_lt s.admitted s.granted

-- the next request of the peer's is covered
abbrev pub is_covered : Settings → List Entry → Bool
is_covered g past = covers (leases_agreed g past) (sum g past)
