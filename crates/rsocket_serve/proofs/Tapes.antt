-- The tapes that a server puts back.
use Rattle.std.specs.List.{AllByRecursion, slice_get}
use Rattle.std.proofs.Common.{◌≡◌, suc, ℕ, Bool, List, [], ◌∷◌, Option, Some, Result, Ok, Err, refl, subst}
use Rattle.rs_wire.specs.declared.call.Call.{Call}
use Rattle.rs_wire.specs.declared.settings.Settings.{Settings}
use Rattle.handlers.specs.Listed.{Listed}
use Rattle.outside.specs.Links.{Shown}
use Rattle.outside.specs.declared.net.Ask.{Ask}
use Rattle.tape.specs.declared.entry.Entry.{Entry}
use Rattle.server.specs.declared.served.Served.{Served}
use Rattle.serve_slots.specs.Tapes.{AreToldOf}
use Rattle.serve_laws.specs.Serving.{AreTold, HasServed}
use Rattle.serve.specs.Links.{NetShown}
use Rattle.serve.specs.Whole.{IsLawful, Serves}
use Rattle.serve.specs.declared.plan.ServeFault.{ServeFault}
use Rattle.serve.specs.declared.plan.ServeFault.TheVariants as faults
use Rattle.serve.specs.declared.plan.ServePlan.{ServePlan}
use Rattle.rsocket_serve.specs.Served.{GotLegal}

all_from : {A : Type 0} (P : A → Type 0) (xs : List A) → ((j : ℕ) (x : A) → slice_get xs j ≡ Some x → P x) → AllByRecursion P xs
all_from P [] each = tt
all_from P (x ∷ xs) each = (each 0 x refl, all_from P xs (λ j y is. each (suc j) y is))

told_of : (tapes : List (List Entry)) (shown : List (Option (List Entry))) → AreTold tapes shown → AreToldOf tapes shown
told_of [] [] told = tt
told_of [] (x ∷ shown) told = absurd told
told_of (past ∷ tapes) [] told = absurd told
told_of (past ∷ tapes) (x ∷ shown) told = (told.0, told_of tapes shown told.1)

got_served : (g : Settings) (lease : Option Call) (ws : Bool) (many : ℕ) (routes : List Listed) (moments : Option (List ℕ)) (links : List Shown) (shelf shelf' : List (Option (List Entry))) (asked asked' : Option (List Ask)) (back back' : Option (List Shown)) (out out' : ℕ)
    → HasServed g lease ws many routes moments links shelf shelf' asked asked' back back' out out' → GotLegal g shelf shelf'
got_served g lease ws many routes moments links shelf shelf' asked asked' back back' out out' h = record {
  tapes = h.tapes;
  shelved = record { shown = h.shelved.shown; back = h.shelved.back; told = told_of h.tapes h.shelved.shown h.shelved.told };
  legal = all_from (IsLawful g) h.tapes (λ i past at. let one = h.lawful i past at in (one.0.legal, one.0.fair));
}

got : (g : Settings) (plan : ServePlan) (routes : List Listed) (moments : Option (List ℕ)) (shelf shelf' : List (Option (List Entry))) (net net' : NetShown) (r : Result (List Served) ServeFault) → Serves g plan routes moments shelf shelf' net net' r → GotLegal g shelf shelf'
got g plan routes moments shelf shelf' net net' (Ok list) s = got_served g _ plan.ws plan.connections routes moments s.0 shelf shelf' net.asked net'.asked net.back net'.back net.out net'.out s.1
got g plan routes moments shelf shelf' net net' (Err faults.Net) s = got_served g _ plan.ws plan.connections routes moments s.0 shelf shelf' net.asked net'.asked net.back net'.back net.out net'.out s.1
got g plan routes moments shelf shelf' net net' (Err faults.OutOfMemory) s = record { tapes = s.tapes; shelved = s.shelved; legal = s.legal }

pub got_of : (g h : Settings) (plan : ServePlan) (routes : List Listed) (moments : Option (List ℕ)) (shelf shelf' : List (Option (List Entry))) (net net' : NetShown) (r : Result (List Served) ServeFault) → g ≡ h → Serves g plan routes moments shelf shelf' net net' r → GotLegal h shelf shelf'
got_of g h plan routes moments shelf shelf' net net' r same s = subst (λ u. GotLegal u shelf shelf') same (got g plan routes moments shelf shelf' net net' r s)
