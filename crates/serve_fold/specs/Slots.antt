-- One slot of a server, from the end of its links to the end of its workers.
use Rattle.std.specs.Prelude.{◌≡◌, ℕ, Bool, List, [], ◌∷◌, ◌++◌, Option, Some, None}
use Rattle.rs_wire.specs.declared.call.Call.TheVariants as call
use Rattle.tape.specs.declared.event.Event.{Event}
use Rattle.tape.specs.declared.event.Event.TheVariants as event
use Rattle.conn_shared.specs.Members.{Knowledge}
use Rattle.pump.specs.Turns.{GoesOn}
use Rattle.workers.specs.declared.job.OpenJob.{OpenJob}
use Rattle.server.specs.Attending.{IsHelped}
use Rattle.serve_slots.specs.Callers.{JoinedAll}

-- the end is asked for, or a connection is cut
abbrev pub IsClosing : Event → Type 0
IsClosing (event.Asked asked) = asked ≡ call.Close
IsClosing (event.Cut conn) = Unit {0}
IsClosing _ = ⊥

-- The last caller of a slot took in those of the links, asked for the end, served the jobs that were left in its work, where it has one, and took in the workers.
pub record EndsSlot (helps : Bool) (own : Knowledge) (others workers : List Knowledge) (mid closed rest last : Knowledge) : Type 0 where
  pub took : JoinedAll own others mid
  pub closed_is : closed ≡ record mid { front = closed.front; note = closed.note }
  pub closes : GoesOn IsClosing mid closed.front
  pub rest_is : rest ≡ record closed { front = rest.front; note = rest.note }
  pub serves : GoesOn (IsHelped helps) closed rest.front
  pub worked : JoinedAll rest workers last

-- the names of these callers
abbrev pub names_in : List Knowledge → List ℕ
names_in [] = []
names_in (k ∷ ks) = k.names ++ names_in ks

-- the jobs in a work, none where there is no work
abbrev pub jobs_in : Option (List OpenJob) → List OpenJob
jobs_in None = []
jobs_in (Some work) = work
