-- Why nothing was opened.
use Rattle.std.proofs.Common.{◌≡◌, inl, inr, ℕ, Bool, List, Option, Result, Ok, Err, Some, None, IfSome, IfNone, ◌⊎◌, IfErr, OnErr, OnOk, sym, subst}
use Rattle.outside.specs.Links.{IsNew, Shown, and_then_one}
use Rattle.outside.specs.declared.net.Ask.{Ask}
use Rattle.tape.specs.declared.entry.Entry.{Entry}
use Rattle.conn_shared.specs.Members.{Follows}
use Rattle.link_model.specs.Carrying.{Between}
use Rattle.client.specs.Elsewhere.{Changes, GoesElsewhere, IsParted, StopsElsewhere, looking}
use Rattle.client.specs.declared.called.Called.{Called}
use Rattle.client.specs.declared.called.Called.TheVariants as called
use Rattle.client.specs.Clients.{ClientSeen, FaultFor, IsRefusal, dialed}
use Rattle.client.specs.declared.fault.BeginFault.{BeginFault}
use Rattle.client.specs.declared.fault.BeginFault.TheVariants as begins

pub fault_for : (result : Result (Unit {0}) BeginFault) (asks asks' : Option (List Ask)) (back mid back' : Option (List Shown)) (faults faults' : ℕ) (address : List ℕ) (ws : Bool) (link : Shown) → IsNew link → IfErr result IsRefusal → asks' ≡ dialed asks address ws → mid ≡ back → OnErr result (back' ≡ and_then_one mid link) → faults' ≡ faults
    → IfErr result (λ f. FaultFor f asks back faults asks' back' faults' address ws)
fault_for (Ok tt) asks asks' back mid back' faults faults' address ws link new refusal asked at is same = tt
fault_for (Err begins.Net) asks asks' back mid back' faults faults' address ws link new refusal asked at is same = absurd refusal
fault_for (Err (begins.Refused a)) asks asks' back mid back' faults faults' address ws link new refusal asked at is same = (asked, (link, new, subst (λ (b : Option (List Shown)). back' ≡ and_then_one b link) at is), same)
fault_for (Err begins.OutOfMemory) asks asks' back mid back' faults faults' address ws link new refusal asked at is same = inr (asked, (link, new, subst (λ (b : Option (List Shown)). back' ≡ and_then_one b link) at is), same)

pub on_ok : {P : Type 0} → (r : Result (Unit {0}) BeginFault) → r ≡ Ok tt → OnOk r P → P
on_ok {P} r is h = subst (λ (x : Result (Unit {0}) BeginFault). OnOk x P) is h

-- ---- another link

pub goes_as : (moments : Option (List ℕ)) (r : Option Called) (was x now : ClientSeen) (pump : Between) (back back' : Option (List Shown)) (looked : List Entry) → IfNone r (Changes moments x now pump back back') → x ≡ looking was looked → Follows was.caller.names was.caller.front looked → IfNone r (GoesElsewhere moments was now pump back back')
goes_as moments None was x now pump back back' looked changes at follows = record { looked = looked; follows = follows; changes = subst (λ (z : ClientSeen). Changes moments z now pump back back') at changes }
goes_as moments (Some r) was x now pump back back' looked changes at follows = tt

pub stops_as : (r : Option Called) (was x now : ClientSeen) (back back' : Option (List Shown)) (looked : List Entry) → IfSome r (λ c. (c ≡ called.OutOfMemory) ⊎ ((c ≡ called.Net) × IsParted x now back back')) → x ≡ looking was looked → Follows was.caller.names was.caller.front looked → IfSome r (StopsElsewhere was now back back')
stops_as None was x now back back' looked stops at follows = tt
stops_as (Some r) was x now back back' looked (inl is) at follows = subst (StopsElsewhere was now back back') (sym is) tt
stops_as (Some r) was x now back back' looked (inr parted) at follows = subst (StopsElsewhere was now back back') (sym parted.0) (inr (record { looked = looked; follows = follows; parted = subst (λ (z : ClientSeen). IsParted z now back back') at parted.1 }))
