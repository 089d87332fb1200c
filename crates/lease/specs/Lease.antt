-- The requester's lease (RSocket 1.0, "Lease Semantics"). Moments are in milliseconds.
use Rattle.std.specs.Prelude.{ℕ, ◌<◌, ◌≤◌, ◌==◌, nat_le, Option, Some, None, [], ◌∷◌}
use Rattle.rs_wire.specs.Ranges.{first_true}
use Rattle.lease.specs.declared.requester.Terms.{Terms}
use Rattle.lease.specs.declared.requester.LeaseFault.{LeaseFault}
use Rattle.lease.specs.declared.requester.LeaseFault.TheVariants.{Used, Over}

-- no more requests were made than the lease allows
abbrev pub IsWithin : Option Terms → Type 0
IsWithin None = Unit {0}
IsWithin (Some lease) = lease.used ≤ lease.count

-- there is a lease, and not all of its requests are used
abbrev pub HasLeft : Option Terms → Type 0
HasLeft None = ⊥
HasLeft (Some lease) = lease.used < lease.count

-- a request may be made at the moment: there is a lease with requests left, and it is not over
abbrev pub IsUsable : Option Terms → ℕ → Type 0
IsUsable None now = ⊥
IsUsable (Some lease) now = (lease.used < lease.count) × (now < lease.expires)

-- why no request may be made at the moment: all requests of the lease are used, none where there is
-- no lease; or it is over
abbrev pub lease_fault : Option Terms → ℕ → Option LeaseFault
lease_fault None now = Some (Used 0)
lease_fault (Some lease) now = first_true (
    (lease.used == lease.count, Used lease.count)
    ∷ (nat_le lease.expires now, Over lease.expires)
    ∷ [])
