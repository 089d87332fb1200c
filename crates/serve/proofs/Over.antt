-- What is left once all callers are taken in.
use Rattle.std.specs.List.{AllByRecursion}
use Rattle.std.proofs.Common.{◌≡◌, ◌≤◌, ◌+◌, ◌-◌, ◌∙◌, ◌||◌, if◌then◌else◌, ℕ, Bool, true, false, List, [], ◌∷◌, ◌++◌, length, slice_get, Option, Some, None, Result, Ok, Err, IfOk, refl, sym, ap, subst, arith, append-nil, take, drop}
use Rattle.std.proofs.lemmas.List.{drop_all, take_all}
use Rattle.std.specs.Option.{option_map}
use Rattle.rs_wire.specs.declared.settings.Settings.{Settings}
use Rattle.outside.specs.Causes.{Rose}
use Rattle.outside.specs.Links.{Shown}
use Rattle.outside.specs.declared.net.Ask.{Ask}
use Rattle.outside.specs.declared.net.NetFault.{NetFault}
use Rattle.conn_shared.specs.Members.{Knowledge, SharedId}
use Rattle.crew.specs.Places.{AreServed, Pairwise}
use Rattle.handlers.specs.Listed.{Listed}
use Rattle.server.specs.Serving.{Outcome}
use Rattle.server.specs.declared.served.Served.{Served}
use Rattle.serve_slots.specs.Callers.{AreCallersOf, HaveAll, IsAtSlot, Placed, TookIn, all_placed, held, placed}
use Rattle.serve_slots.specs.Tapes.{HasAll, IsWhole}
use Rattle.serve_slots.proofs.Lists.{all_first, all_second, all_snoc, of_at, of_set, pair_long}
use Rattle.serve_slots.proofs.Parts.{held_append, none_left, took_all}
use Rattle.serve_threads.specs.Asking.{AreAccepted}
use Rattle.serve_threads.specs.Ending.{AllServeRest, CanEnd, HasEnded, HaveCome, rows_of}
use Rattle.serve_told.specs.Told.{Tells}
use Rattle.serve_told.proofs.Whole.{told}
use Rattle.serve_told.specs.Links.{answer_in, answers_of, lacks_memory, link_in, links_of, some_lack, is_memory, ran_out}
use Rattle.serve.specs.Links.{LeavesLinks, NetShown, net_of, fault_in, fault_of, is_failed, some_failed}
use Rattle.serve_threads.specs.Making.{AreInOrder, AreMade, HaveWorkers, IsRow, working}
use Rattle.serve_threads.specs.Threads.{IsDone, IsMissed, IsReady, IsServed, IsVacant}
use Rattle.serve_threads.specs.declared.guest.Guest.{Guest}
use Rattle.serve_threads.specs.declared.worker.Worker.{Worker}
use Rattle.serve_threads.proofs.Closing.{ends_of, own_of}
use Rattle.serve_threads.proofs.Left.{can_end}
use Rattle.serve.specs.declared.plan.ServeFault.{ServeFault}
use Rattle.serve.specs.declared.plan.ServeFault.TheVariants as serve_fault
use Rattle.serve.specs.declared.plan.ServePlan.{ServePlan}
use Rattle.serve.proofs.Came.{HasCome, come_parts, has_come, left_long}
use Rattle.serve.proofs.Counting.{out_back, out_enough}
use Rattle.serve.proofs.Ended.{AreAlike, ended_all, ended_alike, workers_parts}

-- the others have the same parts
same_held : (ms : List Knowledge) (xs ys : List Placed) → ((i : ℕ) → held i ys ≡ held i xs) → HaveAll ms xs → HaveAll ms ys
unfolding HaveAll
same_held ms xs ys same all i lt = let a = same i in let b = all i lt in omega arith

-- all others were taken in, and each main caller has all parts
pub all_in : (ids : List SharedId) (ms mid news : List Knowledge) (first rest : List Placed) → AreMade ids ms (first ++ rest) → TookIn ms first mid → TookIn mid rest news → AllByRecursion HasAll news
all_in ids ms mid news first rest m a b =
    let h = took_all ms mid first rest m.all a in
    none_left news (took_all mid news rest [] (subst (HaveAll mid) (sym (append-nil rest)) h) b)

-- the same over the threads
pub over_parts : {N L T : Type 0} (shown : L → Shown) (g : Settings) (ids : List SharedId) (moments : Option (List ℕ)) (grant : Option ℕ) (routes : List Listed)
    (asked : N → Option (List Ask)) (back : N → Option (List Shown)) (out faults : N → ℕ) (ws : Bool)
    (places left now : List (Guest L T)) (n m : N) (ms mid news : List Knowledge) (vs us : List (Worker T))
    → AreMade ids ms (all_placed (rows_of places) ++ working vs)
    → AreServed (AreAccepted asked back out faults ws) (IsServed shown g moments grant routes) (IsMissed asked back out faults ws) n m places left
    → HasEnded routes ms left mid now → Pairwise (IsDone g routes) vs us → TookIn mid (working us) news → AllByRecursion HasAll news
over_parts shown g ids moments grant routes asked back out faults ws places left now n m ms mid news vs us made served ended done took =
    let a : HaveAll ms (all_placed (rows_of left) ++ working us) = same_held ms (all_placed (rows_of places) ++ working vs) (all_placed (rows_of left) ++ working us)
    (λ i.
    let x = come_parts shown g ids moments grant routes asked back out faults ws i places left n m served in
    let y = workers_parts g routes i vs us done in
    let z = held_append i (all_placed (rows_of places)) (working vs) in
    let w = held_append i (all_placed (rows_of left)) (working us) in
    omega arith) made.all in
    let b = ended_all routes ms left mid now (working us) ended a in
    none_left news (took_all mid news (working us) [] (subst (HaveAll mid) (sym (append-nil (working us))) b) took)

-- ---- places that are alike

module _ {L T : Type 0} where
  pub alike_links : (shown : L → Shown) (ps qs : List (Guest L T)) → AreAlike ps qs → links_of shown qs ≡ links_of shown ps
  alike_links shown [] [] a = refl
  alike_links shown [] (q ∷ qs) a = absurd a
  alike_links shown (p ∷ ps) [] a = absurd a
  alike_links shown (p ∷ ps) (q ∷ qs) a = ap (λ (o : Option L). link_in shown o ++ links_of shown qs) a.0.0 ∙ ap (λ (l : List Shown). link_in shown p.link ++ l) (alike_links shown ps qs a.1)

  pub alike_answers : (ps qs : List (Guest L T)) → AreAlike ps qs → answers_of qs ≡ answers_of ps
  alike_answers [] [] a = refl
  alike_answers [] (q ∷ qs) a = absurd a
  alike_answers (p ∷ ps) [] a = absurd a
  alike_answers (p ∷ ps) (q ∷ qs) a = ap (λ (o : Option Outcome). answer_in o ++ answers_of qs) a.0.1 ∙ ap (λ (l : List Served). answer_in p.answer ++ l) (alike_answers ps qs a.1)

  alike_failed : (ps qs : List (Guest L T)) → AreAlike ps qs → some_failed qs ≡ some_failed ps
  alike_failed [] [] a = refl
  alike_failed [] (q ∷ qs) a = absurd a
  alike_failed (p ∷ ps) [] a = absurd a
  alike_failed (p ∷ ps) (q ∷ qs) a = ap (λ (o : Option NetFault). is_failed o || some_failed qs) a.0.2 ∙ ap (λ (b : Bool). is_failed p.missed || b) (alike_failed ps qs a.1)

  alike_lack : (ps qs : List (Guest L T)) → AreAlike ps qs → some_lack qs ≡ some_lack ps
  alike_lack [] [] a = refl
  alike_lack [] (q ∷ qs) a = absurd a
  alike_lack (p ∷ ps) [] a = absurd a
  alike_lack (p ∷ ps) (q ∷ qs) a =
      ap (λ (o : Option NetFault). (is_memory o || ran_out q.answer) || some_lack qs) a.0.2
      ∙ (ap (λ (o : Option Outcome). (is_memory p.missed || ran_out o) || some_lack qs) a.0.1 ∙ ap (λ (b : Bool). lacks_memory p || b) (alike_lack ps qs a.1))

  pub alike_fault : (ps qs : List (Guest L T)) → AreAlike ps qs → fault_of qs ≡ fault_of ps
  alike_fault ps qs a = ap (λ (b : Bool). if b then Some serve_fault.OutOfMemory else (if some_failed qs then Some serve_fault.Net else None)) (alike_lack ps qs a)
      ∙ ap (λ (b : Bool). if some_lack ps then Some serve_fault.OutOfMemory else (if b then Some serve_fault.Net else None)) (alike_failed ps qs a)

-- where the net's fault is answered, it failed
pub net_failed : {L T : Type 0} (places : List (Guest L T)) → fault_of places ≡ Some serve_fault.Net → some_failed places ≡ true
net_failed places is = by (some_lack places) (some_failed places) is
  where
    by : (a b : Bool) → (if a then Some serve_fault.OutOfMemory else (if b then Some serve_fault.Net else None)) ≡ Some serve_fault.Net → b ≡ true
    by true b e = absurd (cc)
    by false true e = refl
    by false false e = absurd (cc)

-- where it is not answered that memory ran out, it did not
lack_none : {L T : Type 0} (places : List (Guest L T)) → (fault_of places ≡ Some serve_fault.OutOfMemory → ⊥) → some_lack places ≡ false
lack_none places never = by (some_lack places) never
  where
    by : (a : Bool) → ((if a then Some serve_fault.OutOfMemory else (if some_failed places then Some serve_fault.Net else None)) ≡ Some serve_fault.OutOfMemory → ⊥) → a ≡ false
    by true never = absurd (never refl)
    by false never = refl

-- ---- callers of the connections

-- a row of callers at their slots
pub rows_at : {L T : Type 0} (ids : List SharedId) (ps : List (Guest L T)) → AllByRecursion (IsAtSlot ids) (all_placed (rows_of ps)) → AllByRecursion (IsRow ids) ps
rows_at ids [] all = tt
rows_at ids (p ∷ ps) all =
    (all_first (IsAtSlot ids) (placed 0 p.row.items) (all_placed (rows_of ps)) all, rows_at ids ps (all_second (IsAtSlot ids) (placed 0 p.row.items) (all_placed (rows_of ps)) all))

-- the workers that are done are at their slots
pub workers_at : {T : Type 0} (g : Settings) (ids : List SharedId) (routes : List Listed) (vs us : List (Worker T)) → AllByRecursion (IsReady g ids) vs → Pairwise (IsDone g routes) vs us → AllByRecursion (IsAtSlot ids) (working us)
workers_at g ids routes [] [] r d = tt
workers_at g ids routes [] (u ∷ us) r d = absurd d
workers_at g ids routes (v ∷ vs) [] r d = absurd d
workers_at g ids routes (v ∷ vs) (u ∷ us) r d =
    all_snoc (IsAtSlot ids) (working us) (u.slot, u.caller) (workers_at g ids routes vs us r.1 d.1)
    (subst (λ (n : ℕ). slice_get ids n ≡ Some u.caller.of) (sym d.0.slot) (r.0.at ∙ ap Some (sym (ap (λ (k : Knowledge). k.of) d.0.off.same))))

took_of : (ids : List SharedId) (olds : List Knowledge) (others : List Placed) (news : List Knowledge) → TookIn olds others news → AreCallersOf ids olds → AreCallersOf ids news
took_of ids olds [] news t of = subst (AreCallersOf ids) (sym t) of
took_of ids olds ((slot, k) ∷ others) news t of =
    let j = t.1 in
    took_of ids t.0 others news t.2 (subst (AreCallersOf ids) (sym j.is) (of_set ids olds slot j.new of (of_at ids olds slot j.old of j.was ∙ ap Some (sym j.joined.of))))

rest_of : {L T : Type 0} (ids : List SharedId) (routes : List Listed) (ms : List Knowledge) (ps : List (Guest L T)) (ns : List Knowledge) (qs : List (Guest L T)) → AllServeRest routes ms ps ns qs → AreCallersOf ids ms → AreCallersOf ids ns
rest_of [] routes [] [] [] [] s of = tt
rest_of (id ∷ ids) routes [] [] [] [] s of = absurd of
rest_of ids routes [] [] [] (q ∷ qs) s of = absurd s
rest_of ids routes [] [] (n ∷ ns) qs s of = absurd s
rest_of ids routes [] (p ∷ ps) ns qs s of = absurd s
rest_of ids routes (m ∷ ms) [] ns qs s of = absurd s
rest_of ids routes (m ∷ ms) (p ∷ ps) [] qs s of = absurd s
rest_of ids routes (m ∷ ms) (p ∷ ps) (n ∷ ns) [] s of = absurd s
rest_of [] routes (m ∷ ms) (p ∷ ps) (n ∷ ns) (q ∷ qs) s of = absurd of
rest_of (id ∷ ids) routes (m ∷ ms) (p ∷ ps) (n ∷ ns) (q ∷ qs) s of = (ap (λ (k : Knowledge). k.of) s.0.same ∙ of.0, rest_of ids routes ms ps ns qs s.1 of.1)

-- once all is ended the main callers are of the connections
ended_of : {L T : Type 0} (ids : List SharedId) (routes : List Listed) (ms : List Knowledge) (ps : List (Guest L T)) (ns : List Knowledge) (qs : List (Guest L T)) → CanEnd ids routes ms ps → HasEnded routes ms ps ns qs → AreCallersOf ids ns
ended_of ids routes ms ps ns qs c h =
    let own = own_of ids routes ms ps c h.own h.given h.swapped in
    let mid = took_of ids h.own (all_placed (rows_of h.given)) h.mid h.took own in
    rest_of ids routes h.closed h.empty ns qs h.served (ends_of ids h.mid h.closed h.ends mid)

-- ---- the net

module _ {N L T : Type 0} (shown : L → Shown) (g : Settings) (ids : List SharedId) (plan : ServePlan) (routes : List Listed) (moments : Option (List ℕ))
    (asked : N → Option (List Ask)) (back : N → Option (List Shown)) (out faults : N → ℕ) (places left now : List (Guest L T)) (n m : N) (ms mid : List Knowledge)
    (vacant : AllByRecursion (IsVacant g ids) places)
    (served : AreServed (AreAccepted asked back out faults plan.ws) (IsServed shown g moments plan.grant routes) (IsMissed asked back out faults plan.ws) n m places left)
    (ended : HasEnded routes ms left mid now) where
  come : HasCome shown asked back out faults plan.ws (length places) n m left
  come = has_come shown g ids moments plan.grant routes asked back out faults plan.ws places left n m vacant served

  alike : AreAlike left now
  alike = ended_alike routes ms left mid now ended

  -- the main callers that are left are of the connections
  pub threads_of : AreCallersOf ids ms → length places ≡ length ids → AreCallersOf ids mid
  threads_of of each = ended_of ids routes ms left mid now ((can_end shown g ids moments plan.grant routes asked back out faults plan.ws ms places n of each vacant).after m left served) ended

  pub places_long : length now ≡ length places
  places_long =
      let a = pair_long (λ (p q : Guest L T). (q.link ≡ p.link) × (q.answer ≡ p.answer) × (q.missed ≡ p.missed)) left now alike in
      let b = left_long shown g ids moments plan.grant routes asked back out faults plan.ws places left n m served in
      omega arith

  -- as many links are out as are put back
  pub enough_out : length places ≤ 64 → length (links_of shown now) ≤ out m
  enough_out few =
      let a : length (links_of shown now) ≡ length (links_of shown left) = ap length (alike_links shown left now alike) in
      let b = come.links in
      let c = come.few in
      let d = out_enough come.came (out n) (omega arith) in
      let e = come.out_is in
      omega arith

  pub links_left : (many : ℕ) (net' : NetShown) (result : Result (List Served) ServeFault) → length places ≡ many
      → net'.asked ≡ asked m → net'.back ≡ option_map (λ (was : List Shown). was ++ links_of shown now) (back m) → net'.out + length (links_of shown now) ≡ out m
      → IfOk result (λ (list : List Served). list ≡ answers_of now) → fault_in result ≡ fault_of now
      → (lasts : List Knowledge) → (some_lack now ≡ false → AllByRecursion IsWhole lasts → Tells g moments plan.grant routes (links_of shown now) (answers_of now) lasts)
      → LeavesLinks g plan routes moments many (net_of asked back out faults n) net' lasts result
  links_left many net' result each asks backs outs list fault lasts tells = record {
    links = links_of shown now;
    leaves = record {
      accepts = come.accepts;
      few = (let a : length (links_of shown now) ≡ length (links_of shown left) = ap length (alike_links shown left now alike) in let b = come.links in let c = come.few in omega arith, let c = come.few in omega arith);
      asks = asks ∙ come.asks;
      got_back = backs ∙ ap (option_map (λ (was : List Shown). was ++ links_of shown now)) come.back_is;
      out_is = out_back come.came many (out n) net'.out (let c = come.few in omega arith)
          (let a : length (links_of shown now) ≡ length (links_of shown left) = ap length (alike_links shown left now alike) in let b = come.links in let e = come.out_is in omega arith);
    };
    answers = answers_of now;
    list = list;
    whole = by result list fault;
    told = λ none. tells (lack_none now (λ out. none (fault ∙ out)));
  }
    where
      by : (r : Result (List Served) ServeFault) → IfOk r (λ (list : List Served). list ≡ answers_of now) → fault_in r ≡ fault_of now → IfOk r (λ (list : List Served). (length (links_of shown now) ≡ many) × (length list ≡ many))
      by (Ok l) list fault =
          let none : fault_of left ≡ None = sym (alike_fault left now alike) ∙ sym fault in
          let w = come.whole none in
          let a : length (links_of shown now) ≡ length (links_of shown left) = ap length (alike_links shown left now alike) in
          let b = come.links in
          let c : length l ≡ length (answers_of left) = ap length (list ∙ alike_answers left now alike) in
          (omega arith, omega arith)
      by (Err f) list fault = tt

  pub links_cause : (result : Result (List Served) ServeFault) → fault_in result ≡ fault_of now → result ≡ Err serve_fault.Net → Rose (faults n) (faults m)
  links_cause result fault is =
      let a : fault_of left ≡ Some serve_fault.Net = sym (alike_fault left now alike) ∙ (sym fault ∙ ap fault_in is) in
      come.cause (net_failed left a)

  pub links_counted : faults n ≤ faults m
  links_counted = come.counted

-- ---- all of it

-- The threads ran over these places, with these workers beside.
pub record Ran {N L T : Type 0} (shown : L → Shown) (g : Settings) (ids : List SharedId) (plan : ServePlan) (routes : List Listed) (moments : Option (List ℕ)) (asked : N → Option (List Ask)) (back : N → Option (List Shown)) (out faults : N → ℕ)
    (n m : N) (ms mid : List Knowledge) (places now : List (Guest L T)) (vs us : List (Worker T)) : Type 0 where
  pub of : AreCallersOf ids ms
  pub few : length ids ≤ 64
  pub made : AreMade ids ms (all_placed (rows_of places) ++ working vs)
  pub vacant : AllByRecursion (IsVacant g ids) places
  pub each : length places ≡ length ids
  pub order : AreInOrder 0 places
  pub ready : AllByRecursion (IsReady g ids) vs
  pub have : HaveWorkers (length ids) vs
  pub come : HaveCome shown g moments plan.grant routes asked back out faults plan.ws n m ms places mid now
  pub done : Pairwise (IsDone g routes) vs us

-- where they were lent these
pub ran_from : {N L T : Type 0} {shown : L → Shown} {g : Settings} {ids : List SharedId} {routes : List Listed} {moments : Option (List ℕ)} {asked : N → Option (List Ask)} {back : N → Option (List Shown)} {out faults : N → ℕ} {n m : N} {ms mid : List Knowledge} {lent places now : List (Guest L T)}
    (plan : ServePlan) (lent_workers vs us : List (Worker T)) → lent ≡ places → lent_workers ≡ vs
    → AreCallersOf ids ms → length ids ≤ 64 → AreMade ids ms (all_placed (rows_of places) ++ working vs) → AllByRecursion (IsVacant g ids) places → length places ≡ length ids → AreInOrder 0 places
    → AllByRecursion (IsReady g ids) vs → HaveWorkers (length ids) vs → HaveCome shown g moments plan.grant routes asked back out faults plan.ws n m ms lent mid now → Pairwise (IsDone g routes) lent_workers us
    → Ran shown g ids plan routes moments asked back out faults n m ms mid places now vs us
ran_from {shown = shown} {g = g} {routes = routes} {moments = moments} {asked = asked} {back = back} {out = out} {faults = faults} {n = n} {m = m} {ms = ms} {mid = mid} {now = now} plan lent_workers vs us same same_workers of few made vacant each order ready have come done = record {
  of = of;
  few = few;
  made = made;
  vacant = vacant;
  each = each;
  order = order;
  ready = ready;
  have = have;
  come = subst (λ ps. HaveCome shown g moments plan.grant routes asked back out faults plan.ws n m ms ps mid now) same come;
  done = subst (λ ws. Pairwise (IsDone g routes) ws us) same_workers done;
}

pub ran_of : {N L T : Type 0} {shown : L → Shown} {g : Settings} {ids : List SharedId} {plan : ServePlan} {routes : List Listed} {moments : Option (List ℕ)} {asked : N → Option (List Ask)} {back : N → Option (List Shown)} {out faults : N → ℕ} {n m : N} {ms mid : List Knowledge} {places now : List (Guest L T)} {vs us : List (Worker T)}
    → Ran shown g ids plan routes moments asked back out faults n m ms mid places now vs us → AreCallersOf ids mid
ran_of {shown = shown} {g = g} {ids = ids} {plan = plan} {routes = routes} {moments = moments} {asked = asked} {back = back} {out = out} {faults = faults} {n = n} {m = m} {ms = ms} {mid = mid} {places = places} {now = now} r =
    threads_of shown g ids plan routes moments asked back out faults places r.come.left now n m ms mid r.vacant r.come.served r.come.ended r.of r.each

pub ran_at : {N L T : Type 0} {shown : L → Shown} {g : Settings} {ids : List SharedId} {plan : ServePlan} {routes : List Listed} {moments : Option (List ℕ)} {asked : N → Option (List Ask)} {back : N → Option (List Shown)} {out faults : N → ℕ} {n m : N} {ms mid : List Knowledge} {places now : List (Guest L T)} {vs us : List (Worker T)}
    → Ran shown g ids plan routes moments asked back out faults n m ms mid places now vs us → AllByRecursion (IsAtSlot ids) (working us)
ran_at {g = g} {ids = ids} {routes = routes} {vs = vs} {us = us} r = workers_at g ids routes vs us r.ready r.done

pub ran_workers : {N L T : Type 0} {shown : L → Shown} {g : Settings} {ids : List SharedId} {plan : ServePlan} {routes : List Listed} {moments : Option (List ℕ)} {asked : N → Option (List Ask)} {back : N → Option (List Shown)} {out faults : N → ℕ} {n m : N} {ms mid : List Knowledge} {places now : List (Guest L T)} {vs us : List (Worker T)}
    → Ran shown g ids plan routes moments asked back out faults n m ms mid places now vs us → length us ≡ length vs
ran_workers {g = g} {routes = routes} {vs = vs} {us = us} r = sym (pair_long (IsDone g routes) vs us r.done)

pub ran_long : {N L T : Type 0} {shown : L → Shown} {g : Settings} {ids : List SharedId} {plan : ServePlan} {routes : List Listed} {moments : Option (List ℕ)} {asked : N → Option (List Ask)} {back : N → Option (List Shown)} {out faults : N → ℕ} {n m : N} {ms mid : List Knowledge} {places now : List (Guest L T)} {vs us : List (Worker T)}
    → Ran shown g ids plan routes moments asked back out faults n m ms mid places now vs us → length now ≡ length places
ran_long {shown = shown} {g = g} {ids = ids} {plan = plan} {routes = routes} {moments = moments} {asked = asked} {back = back} {out = out} {faults = faults} {n = n} {m = m} {ms = ms} {mid = mid} {places = places} {now = now} r =
    places_long shown g ids plan routes moments asked back out faults places r.come.left now n m ms mid r.vacant r.come.served r.come.ended

pub ran_enough : {N L T : Type 0} {shown : L → Shown} {g : Settings} {ids : List SharedId} {plan : ServePlan} {routes : List Listed} {moments : Option (List ℕ)} {asked : N → Option (List Ask)} {back : N → Option (List Shown)} {out faults : N → ℕ} {n m : N} {ms mid : List Knowledge} {places now : List (Guest L T)} {vs us : List (Worker T)}
    → Ran shown g ids plan routes moments asked back out faults n m ms mid places now vs us → length (links_of shown now) ≤ out m
ran_enough {shown = shown} {g = g} {ids = ids} {plan = plan} {routes = routes} {moments = moments} {asked = asked} {back = back} {out = out} {faults = faults} {n = n} {m = m} {ms = ms} {mid = mid} {places = places} {now = now} r =
    enough_out shown g ids plan routes moments asked back out faults places r.come.left now n m ms mid r.vacant r.come.served r.come.ended (let a = r.each in let b = r.few in omega arith)

pub ran_parts : {N L T : Type 0} {shown : L → Shown} {g : Settings} {ids : List SharedId} {plan : ServePlan} {routes : List Listed} {moments : Option (List ℕ)} {asked : N → Option (List Ask)} {back : N → Option (List Shown)} {out faults : N → ℕ} {n m : N} {ms mid : List Knowledge} {places now : List (Guest L T)} {vs us : List (Worker T)}
    → Ran shown g ids plan routes moments asked back out faults n m ms mid places now vs us → (lasts : List Knowledge) → TookIn mid (working us) lasts → AllByRecursion HasAll lasts
ran_parts {shown = shown} {g = g} {ids = ids} {plan = plan} {routes = routes} {moments = moments} {asked = asked} {back = back} {out = out} {faults = faults} {n = n} {m = m} {ms = ms} {mid = mid} {places = places} {now = now} {vs = vs} {us = us} r lasts took =
    over_parts shown g ids moments plan.grant routes asked back out faults plan.ws places r.come.left now n m ms mid lasts vs us r.made r.come.served r.come.ended r.done took

pub ran_links : {N L T : Type 0} {shown : L → Shown} {g : Settings} {ids : List SharedId} {plan : ServePlan} {routes : List Listed} {moments : Option (List ℕ)} {asked : N → Option (List Ask)} {back : N → Option (List Shown)} {out faults : N → ℕ} {n m : N} {ms mid : List Knowledge} {places now : List (Guest L T)} {vs us : List (Worker T)}
    → Ran shown g ids plan routes moments asked back out faults n m ms mid places now vs us → (lasts : List Knowledge) → TookIn mid (working us) lasts → AreCallersOf ids lasts → (net' : NetShown) (result : Result (List Served) ServeFault)
    → net'.asked ≡ asked m → net'.back ≡ option_map (λ (was : List Shown). was ++ links_of shown now) (back m) → net'.out + length (links_of shown now) ≡ out m
    → IfOk result (λ (list : List Served). list ≡ answers_of now) → fault_in result ≡ fault_of now
    → LeavesLinks g plan routes moments (length ids) (net_of asked back out faults n) net' lasts result
ran_links {shown = shown} {g = g} {ids = ids} {plan = plan} {routes = routes} {moments = moments} {asked = asked} {back = back} {out = out} {faults = faults} {n = n} {m = m} {ms = ms} {mid = mid} {places = places} {now = now} {vs = vs} {us = us} r lasts took of_lasts net' result asks backs outs list fault =
    links_left shown g ids plan routes moments asked back out faults places r.come.left now n m ms mid r.vacant r.come.served r.come.ended (length ids) net' result r.each asks backs outs list fault lasts
    (λ memory whole.
    told shown g ids moments plan.grant routes asked back out faults plan.ws n m ms places mid now vs us lasts r.made.fronts r.vacant r.each r.order r.ready r.have r.come r.done took of_lasts memory whole)

pub ran_cause : {N L T : Type 0} {shown : L → Shown} {g : Settings} {ids : List SharedId} {plan : ServePlan} {routes : List Listed} {moments : Option (List ℕ)} {asked : N → Option (List Ask)} {back : N → Option (List Shown)} {out faults : N → ℕ} {n m : N} {ms mid : List Knowledge} {places now : List (Guest L T)} {vs us : List (Worker T)}
    → Ran shown g ids plan routes moments asked back out faults n m ms mid places now vs us → (result : Result (List Served) ServeFault) → fault_in result ≡ fault_of now → result ≡ Err serve_fault.Net → Rose (faults n) (faults m)
ran_cause {shown = shown} {g = g} {ids = ids} {plan = plan} {routes = routes} {moments = moments} {asked = asked} {back = back} {out = out} {faults = faults} {n = n} {m = m} {ms = ms} {mid = mid} {places = places} {now = now} r result fault is =
    links_cause shown g ids plan routes moments asked back out faults places r.come.left now n m ms mid r.vacant r.come.served r.come.ended result fault is

pub ran_counted : {N L T : Type 0} {shown : L → Shown} {g : Settings} {ids : List SharedId} {plan : ServePlan} {routes : List Listed} {moments : Option (List ℕ)} {asked : N → Option (List Ask)} {back : N → Option (List Shown)} {out faults : N → ℕ} {n m : N} {ms mid : List Knowledge} {places now : List (Guest L T)} {vs us : List (Worker T)}
    → Ran shown g ids plan routes moments asked back out faults n m ms mid places now vs us → faults n ≤ faults m
ran_counted {shown = shown} {g = g} {ids = ids} {plan = plan} {routes = routes} {moments = moments} {asked = asked} {back = back} {out = out} {faults = faults} {n = n} {m = m} {ms = ms} {mid = mid} {places = places} {now = now} r =
    links_counted shown g ids plan routes moments asked back out faults places r.come.left now n m ms mid r.vacant r.come.served r.come.ended

-- a slice that was lent whole comes back whole
pub lent_whole : {A : Type 0} (len : ℕ) (olds news : List A) → length olds ≡ len → length news ≡ len → take len (news ++ drop (length news) olds) ≡ news
lent_whole {A = A} len olds news old_is new_is =
    ap (λ (l : List A). take len (news ++ l)) (drop_all (length news) olds (omega arith)) ∙ (ap (take len) (append-nil news) ∙ take_all len news (omega arith))
