-- What a server leaves behind, put together.
use Rattle.std.specs.List.{AllByRecursion}
use Rattle.std.proofs.Common.{◌≡◌, ◌≢◌, ◌≤◌, ◌+◌, ◌-◌, ◌^◌, ◌⊎◌, ◌∙◌, inl, inr, suc, ℕ, List, [], ◌∷◌, ◌++◌, length, Option, Some, None, Result, Ok, Err, OnOk, OnErr, refl, sym, ap, subst, arith, append_assoc, append-nil}
use Rattle.std.specs.Option.{option_map}
use Rattle.rs_wire.specs.declared.settings.Settings.{Settings}
use Rattle.handlers.specs.Listed.{Listed}
use Rattle.tape.specs.declared.entry.Entry.{Entry}
use Rattle.session_model.specs.Legal.{Fair, Legal}
use Rattle.conn_shared.specs.Members.{Knowledge, SharedId}
use Rattle.server.specs.declared.served.Served.{Served}
use Rattle.serve_slots.specs.Callers.{AreCallersOf, AreFirst, HaveSettings}
use Rattle.serve_slots.specs.Tapes.{AreToldOf, AreUnused, GotBackAs, HasAll, IsWhole, fronts_of}
use Rattle.serve_slots.proofs.Lists.{all_append, pair_long}
use Rattle.serve_slots.proofs.Parts.{first_all, none_left}
use Rattle.serve_laws.specs.Serving.{HasServed}
use Rattle.serve_links.specs.Callers.{lease_of}
use Rattle.serve_told.specs.Answers.{AreAnswered}
use Rattle.serve_told.proofs.Whole.{served}
use Rattle.serve.specs.Links.{LeavesLinks, LeavesNet, NetShown, fault_in}
use Rattle.serve.specs.Whole.{IsLawful, Leaves, Serves}
use Rattle.serve.specs.declared.plan.ServeFault.{ServeFault}
use Rattle.serve.specs.declared.plan.ServePlan.{ServePlan}
use Rattle.serve.specs.declared.plan.ServeFault.TheVariants as serve_fault

pub first_parts : (ids : List SharedId) (ms : List Knowledge) → AreFirst ids ms → AllByRecursion HasAll ms
first_parts ids ms f = none_left ms (first_all ids ms f)

append_none : {A : Type 0} (o : Option (List A)) → o ≡ option_map (λ (was : List A). was ++ []) o
append_none None = refl
append_none (Some was) = ap Some (sym (append-nil was))

-- nothing was asked
pub nothing_left : (g : Settings) (plan : ServePlan) (routes : List Listed) (moments : Option (List ℕ)) (many : ℕ) (net : NetShown) (lasts : List Knowledge) → LeavesLinks g plan routes moments many net net lasts (Err serve_fault.OutOfMemory)
nothing_left g plan routes moments many net lasts = record {
  links = [];
  leaves = record { accepts = 0; few = (omega arith, omega arith); asks = append_none net.asked; got_back = append_none net.back; out_is = inl refl };
  answers = [];
  list = tt;
  whole = tt;
  told = λ none. absurd (none refl);
}

told_both : (xs ys : List (List Entry)) (a b : List (Option (List Entry))) → AreToldOf xs a → AreToldOf ys b → AreToldOf (xs ++ ys) (a ++ b)
told_both [] ys [] b s t = t
told_both [] ys (x ∷ a) b s t = absurd s
told_both (x ∷ xs) ys [] b s t = absurd s
told_both (x ∷ xs) ys (o ∷ a) b s t = (s.0, told_both xs ys a b s.1 t)

got_both : (xs ys : List (List Entry)) (a b c : List (Option (List Entry))) → GotBackAs xs a b → GotBackAs ys b c → GotBackAs (xs ++ ys) a c
got_both xs ys a b c s t = record {
  shown = s.shown ++ t.shown;
  back = t.back ∙ (ap (λ (l : List (Option (List Entry))). l ++ t.shown) s.back ∙ append_assoc a s.shown t.shown);
  told = told_both xs ys s.shown t.shown s.told t.told;
}

lawful_fronts : (g : Settings) (ids : List SharedId) (ms : List Knowledge) → AreCallersOf ids ms → HaveSettings g ids → AllByRecursion IsWhole ms → AllByRecursion (IsLawful g) (fronts_of ms)
lawful_fronts g [] [] of s w = tt
lawful_fronts g [] (m ∷ ms) of s w = absurd of
lawful_fronts g (id ∷ ids) [] of s w = absurd of
lawful_fronts g (id ∷ ids) (m ∷ ms) of s w =
    let is : m.of.settings ≡ g = ap (λ (x : SharedId). x.settings) of.0 ∙ s.0 in
    (subst (λ (h : Settings). IsLawful h m.front) is (w.0.legal, w.0.fair), lawful_fronts g ids ms of.1 s.1 w.1)

lawful_none : (g : Settings) (tapes : List (List Entry)) → AllByRecursion (λ (past : List Entry). past ≡ []) tapes → AllByRecursion (IsLawful g) tapes
unfolding Legal Fair
lawful_none g [] all = tt
lawful_none g (past ∷ tapes) all = (subst (IsLawful g) (sym all.0) (tt, tt), lawful_none g tapes all.1)

fronts_long : (ms : List Knowledge) → length (fronts_of ms) ≡ length ms
fronts_long [] = refl
fronts_long (m ∷ ms) = ap suc (fronts_long ms)

module _ (g : Settings) (plan : ServePlan) (routes : List Listed) (moments : Option (List ℕ)) (ids : List SharedId) (ms : List Knowledge) (shelf shelf' shelf'' : List (Option (List Entry))) (net net' : NetShown) (result : Result (List Served) ServeFault)
    (of : AreCallersOf ids ms) (settings : HaveSettings g ids) (few : length ids ≤ plan.connections) (got : GotBackAs (fronts_of ms) shelf' shelf'') (whole : AllByRecursion IsWhole ms)
    (links : LeavesLinks g plan routes moments (length ids) net net' ms result) where
  each_last : length ms ≡ length ids
  each_last = sym (pair_long (λ (id : SharedId) (k : Knowledge). k.of ≡ id) ids ms of)

  left : LeavesNet plan.ws plan.connections links.links net net'
  left = let n = links.leaves in record {
    accepts = n.accepts;
    few = (n.few.0, let a = n.few.1 in omega arith);
    asks = n.asks;
    got_back = n.got_back;
    out_is = wider n.out_is;
  }
    where
      wider : (net'.out ≡ net.out) ⊎ (2 ^ 64 - 1 ≤ net.out + length ids) → (net'.out ≡ net.out) ⊎ (2 ^ 64 - 1 ≤ net.out + plan.connections)
      wider (inl is) = inl is
      wider (inr top) = inr (omega (arith, top, few))

  -- where all connections were made, and memory did not run out
  pub has_served : length ids ≡ plan.connections → shelf' ≡ shelf → fault_in result ≢ Some serve_fault.OutOfMemory
      → (has : HasServed g (lease_of plan.grant) plan.ws plan.connections routes moments links.links shelf shelf'' net.asked net'.asked net.back net'.back net.out net'.out)
      × AreAnswered g moments plan.grant has.tapes has.rows links.links links.answers
  has_served each same none =
      let n = left in
      served g moments plan.grant plan.ws plan.connections routes links.links links.answers ms shelf shelf'' net.asked net'.asked net.back net'.back net.out net'.out (links.told none whole) (each_last ∙ each)
      (subst (λ (l : List (Option (List Entry))). GotBackAs (fronts_of ms) l shelf'') same got) n.accepts n.few n.asks n.got_back n.out_is

  leaves_all : shelf' ≡ shelf → Leaves g plan shelf shelf'' net net'
  leaves_all same = record {
    tapes = fronts_of ms;
    shelved = subst (λ (l : List (Option (List Entry))). GotBackAs (fronts_of ms) l shelf'') same got;
    legal = lawful_fronts g ids ms of settings whole;
    links = links.links;
    leaves = left;
  }

  leaves_some : AreUnused shelf shelf' → Leaves g plan shelf shelf'' net net'
  leaves_some unused = record {
    tapes = unused.0 ++ fronts_of ms;
    shelved = got_both unused.0 (fronts_of ms) shelf shelf' shelf'' unused.2 got;
    legal = all_append (IsLawful g) unused.0 (fronts_of ms) (lawful_none g unused.0 unused.1) (lawful_fronts g ids ms of settings whole);
    links = links.links;
    leaves = left;
  }

-- what a server does, by what it answers
serves_made : (g : Settings) (plan : ServePlan) (routes : List Listed) (moments : Option (List ℕ)) (ids : List SharedId) (ms : List Knowledge) (shelf shelf' shelf'' : List (Option (List Entry))) (net net' : NetShown) (result : Result (List Served) ServeFault)
    → AreCallersOf ids ms → HaveSettings g ids → length ids ≤ plan.connections → GotBackAs (fronts_of ms) shelf' shelf'' → AllByRecursion IsWhole ms → LeavesLinks g plan routes moments (length ids) net net' ms result
    → length ids ≡ plan.connections → shelf' ≡ shelf → Serves g plan routes moments shelf shelf'' net net' result
serves_made g plan routes moments ids ms shelf shelf' shelf'' net net' (Ok list) of settings few got whole links each same =
    let has = has_served g plan routes moments ids ms shelf shelf' shelf'' net net' (Ok list) of settings few got whole links each same (λ is. cc) in
    (links.links, has.0, links.whole.0 ∙ each, links.whole.1 ∙ each, subst (λ (l : List Served). AreAnswered g moments plan.grant has.0.tapes has.0.rows links.links l) (sym links.list) has.1)
serves_made g plan routes moments ids ms shelf shelf' shelf'' net net' (Err serve_fault.Net) of settings few got whole links each same =
    (links.links, (has_served g plan routes moments ids ms shelf shelf' shelf'' net net' (Err serve_fault.Net) of settings few got whole links each same (λ is. cc)).0)
serves_made g plan routes moments ids ms shelf shelf' shelf'' net net' (Err serve_fault.OutOfMemory) of settings few got whole links each same =
    leaves_all g plan routes moments ids ms shelf shelf' shelf'' net net' (Err serve_fault.OutOfMemory) of settings few got whole links same

pub serves : {A E : Type 0} (g : Settings) (plan : ServePlan) (routes : List Listed) (moments : Option (List ℕ)) (ids : List SharedId) (ms : List Knowledge) (made : Result A E)
    (shelf shelf' shelf'' : List (Option (List Entry))) (net net' : NetShown) (result : Result (List Served) ServeFault)
    → AreCallersOf ids ms → HaveSettings g ids → length ids ≤ plan.connections → OnOk made (length ids ≡ plan.connections) → OnOk made (shelf' ≡ shelf) → OnErr made (AreUnused shelf shelf')
    → GotBackAs (fronts_of ms) shelf' shelf'' → AllByRecursion IsWhole ms → LeavesLinks g plan routes moments (length ids) net net' ms result → OnErr made (result ≡ Err serve_fault.OutOfMemory)
    → Serves g plan routes moments shelf shelf'' net net' result
serves g plan routes moments ids ms (Ok x) shelf shelf' shelf'' net net' result of settings few each same unused got whole links none =
    serves_made g plan routes moments ids ms shelf shelf' shelf'' net net' result of settings few got whole links each same
serves g plan routes moments ids ms (Err x) shelf shelf' shelf'' net net' result of settings few each same unused got whole links none =
    subst (Serves g plan routes moments shelf shelf'' net net') (sym none) (leaves_some g plan routes moments ids ms shelf shelf' shelf'' net net' result of settings few got whole links unused)
