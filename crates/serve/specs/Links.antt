-- How the links of places were served, and what a server answers.
use Rattle.std.specs.Prelude.{◌≡◌, ◌≤◌, ◌+◌, ◌-◌, ◌^◌, ◌⊎◌, ◌≢◌, ◌||◌, ℕ, Bool, true, false, if◌then◌else◌, List, [], ◌∷◌, ◌++◌, length, Option, Some, None, Result, Ok, Err, IfOk}
use Rattle.std.specs.List.{AllByRecursion}
use Rattle.std.specs.Option.{option_map}
use Rattle.rs_wire.specs.declared.settings.Settings.{Settings}
use Rattle.outside.specs.Links.{Shown}
use Rattle.outside.specs.declared.net.Ask.{Ask}
use Rattle.outside.specs.declared.net.Ask.TheVariants as ask
use Rattle.outside.specs.declared.net.NetFault.{NetFault}
use Rattle.outside.specs.declared.net.NetFault.TheVariants as faults
use Rattle.conn_shared.specs.Members.{Knowledge}
use Rattle.handlers.specs.Listed.{Listed}
use Rattle.server.specs.declared.served.Served.{Served}
use Rattle.serve_slots.specs.Tapes.{IsWhole}
use Rattle.serve_threads.specs.Asking.{repeated}
use Rattle.serve_threads.specs.declared.guest.Guest.{Guest}
use Rattle.serve_told.specs.Links.{some_lack}
use Rattle.serve_told.specs.Told.{Tells}
use Rattle.serve.specs.declared.plan.ServeFault.{ServeFault}
use Rattle.serve.specs.declared.plan.ServeFault.TheVariants as serve_fault
use Rattle.serve.specs.declared.plan.ServePlan.{ServePlan}

-- ---- places

abbrev pub is_failed : Option NetFault → Bool
is_failed (Some faults.Failed) = true
is_failed _ = false

-- at some place the net failed
abbrev pub some_failed : {L T : Type 0} → List (Guest L T) → Bool
some_failed [] = false
some_failed (p ∷ places) = is_failed p.missed || some_failed places

-- why a server answers no list
abbrev pub fault_of : {L T : Type 0} → List (Guest L T) → Option ServeFault
fault_of places = if some_lack places then Some serve_fault.OutOfMemory else (if some_failed places then Some serve_fault.Net else None)

abbrev pub fault_in : {A : Type 0} → Result A ServeFault → Option ServeFault
fault_in (Ok list) = None
fault_in (Err fault) = Some fault

-- ---- the net

-- What a net shows.
pub record NetShown : Type 0 where
  -- what it was asked
  pub asked : Option (List Ask)
  -- the links that were put back
  pub back : Option (List Shown)
  -- how many are handed out
  pub out : ℕ
  -- how often it failed
  pub faults : ℕ

abbrev pub net_of : {N : Type 0} → (N → Option (List Ask)) → (N → Option (List Shown)) → (N → ℕ) → (N → ℕ) → N → NetShown
net_of asked back out faults n = record { asked = asked n; back = back n; out = out n; faults = faults n }

-- The net was asked for links alone, at most so many times; the links that it handed out were put back, in the order of acceptance.
pub record LeavesNet (ws : Bool) (many : ℕ) (links : List Shown) (net net' : NetShown) : Type 0 where
  pub accepts : ℕ
  pub few : (length links ≤ accepts) × (accepts ≤ many)
  pub asks : net'.asked ≡ option_map (λ (was : List Ask). was ++ repeated accepts (ask.Accept ws)) net.asked
  pub got_back : net'.back ≡ option_map (λ (was : List Shown). was ++ links) net.back
  -- none is kept, where the count of those that are out did not come to its end
  pub out_is : (net'.out ≡ net.out) ⊎ (2 ^ 64 - 1 ≤ net.out + many)

-- And where no fault is answered there are so many links, each with its answer; and where memory did not run out it is known what the last callers of the
-- slots tell, once all entries of each tape are theirs.
pub record LeavesLinks (g : Settings) (plan : ServePlan) (routes : List Listed) (moments : Option (List ℕ)) (many : ℕ) (net net' : NetShown) (lasts : List Knowledge) (result : Result (List Served) ServeFault) : Type 0 where
  pub links : List Shown
  pub leaves : LeavesNet plan.ws many links net net'
  -- how the links were served
  pub answers : List Served
  pub list : IfOk result (λ (list : List Served). list ≡ answers)
  pub whole : IfOk result (λ (list : List Served). (length links ≡ many) × (length list ≡ many))
  pub told : fault_in result ≢ Some serve_fault.OutOfMemory → AllByRecursion IsWhole lasts → Tells g moments plan.grant routes links answers lasts
