-- Why no client began.
use Rattle.std.proofs.Common.{ℕ, Bool, List, Option, inl, inr, subst, sym}
use Rattle.outside.specs.Links.{Shown}
use Rattle.outside.specs.declared.net.Ask.{Ask}
use Rattle.tape.specs.declared.entry.Entry.{Entry}
use Rattle.conn_shared.specs.Members.{Knowledge}
use Rattle.client.specs.Clients.{FaultFor, Refuses, on}
use Rattle.client.specs.Counting.{HasDialed}
use Rattle.client.specs.declared.fault.BeginFault.{BeginFault}
use Rattle.client.specs.declared.fault.BeginFault.TheVariants as begins
use Rattle.client.proofs.Dialing.{dialed_none, dialed_one}
use Rattle.rsocket_call.specs.Begun.{HasTicked, IsStillTo, came_of}

pub dialed_by : (f : BeginFault) (asks asks' : Option (List Ask)) (back back' : Option (List Shown)) (faults faults' : ℕ) (address : List ℕ) (ws : Bool) → FaultFor f asks back faults asks' back' faults' address ws → HasDialed address ws asks asks'
dialed_by begins.Net asks asks' back back' faults faults' address ws h = dialed_one address ws asks asks asks' (dialed_none address ws asks) h.1
dialed_by (begins.Refused a) asks asks' back back' faults faults' address ws h = dialed_one address ws asks asks asks' (dialed_none address ws asks) h.0
dialed_by begins.OutOfMemory asks asks' back back' faults faults' address ws (inl none) = subst (HasDialed address ws asks) (sym none.0) (dialed_none address ws asks)
dialed_by begins.OutOfMemory asks asks' back back' faults faults' address ws (inr one) = dialed_one address ws asks asks asks' (dialed_none address ws asks) one.0

-- only the tick stands where the net failed
pub still_to : (f : BeginFault) (moments : Option (List ℕ)) (me : Knowledge) (mid new : List Entry) (asks asks' : Option (List Ask)) (back back' : Option (List Shown)) (faults faults' : ℕ) (address : List ℕ) (ws : Bool) → HasTicked moments me mid
    → FaultFor f asks back faults asks' back' faults' address ws → Refuses (on me mid) f new → IsStillTo (came_of f) moments me new back back' faults faults'
still_to begins.Net moments me mid new asks asks' back back' faults faults' address ws ticks h same = (subst (HasTicked moments me) (sym same) ticks, h.2, h.0)
still_to (begins.Refused a) moments me mid new asks asks' back back' faults faults' address ws ticks h same = tt
still_to begins.OutOfMemory moments me mid new asks asks' back back' faults faults' address ws ticks h same = tt
