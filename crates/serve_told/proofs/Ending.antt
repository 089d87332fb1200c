-- One slot, from the end of its links to the end of its workers.
use Rattle.std.specs.List.{AllByRecursion}
use Rattle.std.proofs.lemmas.Bool.Decides.{nat_tests}
use Rattle.std.proofs.Common.{◌≡◌, ◌≢◌, ◌<◌, ◌+◌, ◌==◌, ◌∙◌, ◌⊎◌, inl, inr, ℕ, zero, suc, Bool, true, false, List, [], ◌∷◌, ◌++◌, length, set, slice_get, if◌then◌else◌, Option, Some, None, is_some, IfSome, refl, sym, ap, subst, arith, append-nil, length-append}
use Rattle.rs_wire.specs.declared.settings.Settings.{Settings}
use Rattle.tape.specs.declared.event.Event.{Event}
use Rattle.tape.specs.declared.event.Event.TheVariants as event
use Rattle.tape.specs.declared.entry.Entry.{Entry}
use Rattle.conn_lock.specs.Callers.{times}
use Rattle.conn_shared.specs.Members.{Knowledge, SharedId}
use Rattle.crew.specs.Places.{Pairwise}
use Rattle.handlers.specs.Listed.{Listed}
use Rattle.pump.specs.Turns.{GoesOn}
use Rattle.workers.specs.declared.job.OpenJob.{OpenJob}
use Rattle.workers.specs.Serving.{Serving}
use Rattle.server.specs.Attending.{IsHelped, KeepsWork}
use Rattle.server.proofs.Places.{same_got, set_at, set_beside}
use Rattle.serve_model.specs.Names.{Under}
use Rattle.serve_model.proofs.Names.{under_as}
use Rattle.serve_slots.specs.Callers.{JoinedAll, TookIn, all_placed, at_slot}
use Rattle.serve_slots.proofs.Lists.{long_set}
use Rattle.serve_laws.specs.Knowing.{HasNoMore, IsWorkersEvent, KnowsWork}
use Rattle.serve_laws.proofs.Events.{one_name}
use Rattle.serve_fold.specs.Slots.{EndsSlot, IsClosing}
use Rattle.serve_fold.proofs.Columns.{at_append, column, column_is}
use Rattle.serve_fold.proofs.Joined.{took_slot}
use Rattle.serve_ended.specs.Ended.{IsAt}
use Rattle.serve_threads.specs.Ending.{AllServeRest, Ends, HasEnded, IsEmptied, IsEnding, ServesRest, Swapped, rows_of as callers_of}
use Rattle.serve_threads.specs.Making.{working}
use Rattle.serve_threads.specs.Threads.{IsDone, IsReady}
use Rattle.serve_threads.specs.declared.guest.Guest.{Guest}
use Rattle.serve_threads.specs.declared.worker.Worker.{Worker}
use Rattle.serve_told.proofs.Lists.{all_from, column_at, pair_at, place_in, same_in, within}
use Rattle.serve_told.proofs.Places.{row_at, row_from}

-- ---- whoever closes

module _ {L T : Type 0} where
  -- at one place
  pub record SwapsAt (at : ℕ) (m : Knowledge) (p : Guest L T) (n : Knowledge) (q : Guest L T) : Type 0 where
    pub own : slice_get p.row.items at ≡ Some n
    pub row : q.row.items ≡ set p.row.items at m
    pub rest : q ≡ record p { row = q.row }

  pub record SwapsIn (at k : ℕ) (ms : List Knowledge) (ps : List (Guest L T)) (ns : List Knowledge) (qs : List (Guest L T)) : Type 0 where
    pub m : Knowledge
    pub p : Guest L T
    pub n : Knowledge
    pub q : Guest L T
    pub was : slice_get ms k ≡ Some m
    pub place : slice_get ps k ≡ Some p
    pub is : slice_get ns k ≡ Some n
    pub given : slice_get qs k ≡ Some q
    pub swaps : SwapsAt at m p n q

  pub swapped_at : (slot at k : ℕ) (ms : List Knowledge) (ps : List (Guest L T)) (ns : List Knowledge) (qs : List (Guest L T)) → Swapped slot ms ps ns qs → at ≡ slot + k → k < length ps → SwapsIn at k ms ps ns qs
  swapped_at slot at k [] [] [] [] s is lt = absurd (omega (arith, lt))
  swapped_at slot at k [] [] [] (q ∷ qs) s is lt = absurd s
  swapped_at slot at k [] [] (n ∷ ns) qs s is lt = absurd s
  swapped_at slot at k [] (p ∷ ps) ns qs s is lt = absurd s
  swapped_at slot at k (m ∷ ms) [] ns qs s is lt = absurd s
  swapped_at slot at k (m ∷ ms) (p ∷ ps) [] qs s is lt = absurd s
  swapped_at slot at k (m ∷ ms) (p ∷ ps) (n ∷ ns) [] s is lt = absurd s
  swapped_at slot at zero (m ∷ ms) (p ∷ ps) (n ∷ ns) (q ∷ qs) s is lt =
      let e : slot ≡ at = omega (arith, is) in
      record { m = m; p = p; n = n; q = q; was = refl; place = refl; is = refl; given = refl; swaps = subst (λ (i : ℕ). SwapsAt i m p n q) e (record { own = s.0; row = s.1; rest = s.2 }) }
  swapped_at slot at (suc k) (m ∷ ms) (p ∷ ps) (n ∷ ns) (q ∷ qs) s is lt =
      let h = swapped_at (slot + 1) at k ms ps ns qs s.3 (omega (arith, is)) (omega (arith, lt)) in
      record { m = h.m; p = h.p; n = h.n; q = h.q; was = h.was; place = h.place; is = h.is; given = h.given; swaps = h.swaps }

  pub swapped_long : (slot : ℕ) (ms : List Knowledge) (ps : List (Guest L T)) (ns : List Knowledge) (qs : List (Guest L T)) → Swapped slot ms ps ns qs → length qs ≡ length ps
  swapped_long slot [] [] [] [] s = refl
  swapped_long slot [] [] [] (q ∷ qs) s = absurd s
  swapped_long slot [] [] (n ∷ ns) qs s = absurd s
  swapped_long slot [] (p ∷ ps) ns qs s = absurd s
  swapped_long slot (m ∷ ms) [] ns qs s = absurd s
  swapped_long slot (m ∷ ms) (p ∷ ps) [] qs s = absurd s
  swapped_long slot (m ∷ ms) (p ∷ ps) (n ∷ ns) [] s = absurd s
  swapped_long slot (m ∷ ms) (p ∷ ps) (n ∷ ns) (q ∷ qs) s = ap suc (swapped_long (slot + 1) ms ps ns qs s.3)

  -- ---- jobs that are left

  pub record RestAt (routes : List Listed) (k : ℕ) (m : Knowledge) (p : Guest L T) (ns : List Knowledge) : Type 0 where
    pub new : Knowledge
    pub left : Guest L T
    pub is : slice_get ns k ≡ Some new
    pub serves : ServesRest routes m p new left

  pub rest_at : (routes : List Listed) (ms : List Knowledge) (ps : List (Guest L T)) (ns : List Knowledge) (qs : List (Guest L T)) (k : ℕ) (m : Knowledge) (p : Guest L T) → AllServeRest routes ms ps ns qs
      → slice_get ms k ≡ Some m → slice_get ps k ≡ Some p → RestAt routes k m p ns
  rest_at routes [] [] [] [] k m p s was place = absurd (cc)
  rest_at routes [] [] [] (y ∷ qs) k m p s was place = absurd s
  rest_at routes [] [] (x ∷ ns) qs k m p s was place = absurd s
  rest_at routes [] (b ∷ ps) ns qs k m p s was place = absurd s
  rest_at routes (a ∷ ms) [] ns qs k m p s was place = absurd s
  rest_at routes (a ∷ ms) (b ∷ ps) [] qs k m p s was place = absurd s
  rest_at routes (a ∷ ms) (b ∷ ps) (x ∷ ns) [] k m p s was place = absurd s
  rest_at routes (a ∷ ms) (b ∷ ps) (x ∷ ns) (y ∷ qs) zero m p s was place =
      let e : a ≡ m = cc in
      let f : b ≡ p = cc in
      record { new = x; left = y; is = refl; serves = subst (λ (z : Knowledge). ServesRest routes z p x y) e (subst (λ (z : Guest L T). ServesRest routes a z x y) f s.0) }
  rest_at routes (a ∷ ms) (b ∷ ps) (x ∷ ns) (y ∷ qs) (suc k) m p s was place =
      let h = rest_at routes ms ps ns qs k m p s.1 was place in
      record { new = h.new; left = h.left; is = h.is; serves = h.serves }

-- ---- kinds of events

ending_closes : (e : Event) → IsEnding e → IsClosing e
ending_closes (event.Asked asked) is = is
ending_closes (event.Cut conn) is = tt
ending_closes e is = absurd is

pub ends_closes : (m n : Knowledge) → Ends m n → GoesOn IsClosing m n.front
ends_closes m n e = record {
  more = e.goes.more;
  on = e.goes.on;
  own = under_as m.names (λ x. (x.who ≡ m.number) × IsEnding x.event) (λ x. (x.who ≡ m.number) × IsClosing x.event) (λ x h. (h.0, ending_closes x.event h.1)) e.goes.more e.goes.own;
}

helped_works : (e : Event) → IsHelped true e → IsWorkersEvent e
helped_works (event.Asked asked) is = is
helped_works e is = absurd is

-- ---- the workers

-- a worker that is done knows its work, and that no more jobs come
abbrev pub HasWorked : Settings → List Listed → Knowledge → Type 0
HasWorked g routes k = KnowsWork routes k.names k.front × HasNoMore g k.front

has_worked : {T : Type 0} (g : Settings) (ids : List SharedId) (routes : List Listed) (v w : Worker T) → IsReady g ids v → IsDone g routes v w → HasWorked g routes w.caller
has_worked g ids routes v w ready done = (record { works = works; served = served }, (done.off.no_more.number, done.off.no_more.old, done.off.no_more.met, done.off.no_more.no_more))
  where
    names : w.caller.names ≡ v.caller.number ∷ []
    names = ap (λ (k : Knowledge). k.names) done.off.same ∙ ready.new.names

    front : w.caller.front ≡ done.off.goes.more
    front = done.off.goes.on ∙ (ap (λ (l : List Entry). done.off.goes.more ++ l) ready.new.front ∙ append-nil done.off.goes.more)

    works : Under w.caller.names (λ x. IsWorkersEvent x.event) w.caller.front
    works = subst (λ (l : List Entry). Under w.caller.names (λ x. IsWorkersEvent x.event) l) (sym front)
        (subst (λ (ns : List ℕ). Under ns (λ x. IsWorkersEvent x.event) done.off.goes.more) (sym (ap (λ (k : Knowledge). k.names) done.off.same))
        (under_as v.caller.names (λ x. (x.who ≡ v.caller.number) × IsHelped true x.event) (λ x. IsWorkersEvent x.event) (λ x h. helped_works x.event h.1) done.off.goes.more done.off.goes.own))

    served : (m : ℕ) → 0 < times m w.caller.names → Serving (m ∷ []) w.caller.front routes []
    served m some =
        let same : m ≡ v.caller.number = one_name v.caller.number m (subst (λ (ns : List ℕ). 0 < times m ns) names some) in
        subst (λ (n : ℕ). Serving (n ∷ []) w.caller.front routes []) (sym same) (subst (λ (ns : List ℕ). Serving ns w.caller.front routes []) names done.serving)

pub all_worked : {T : Type 0} (g : Settings) (ids : List SharedId) (routes : List Listed) (vs ws : List (Worker T)) → AllByRecursion (IsReady g ids) vs → Pairwise (IsDone g routes) vs ws → AllByRecursion (λ (w : Worker T). HasWorked g routes w.caller) ws
all_worked g ids routes [] [] ready done = tt
all_worked g ids routes [] (w ∷ ws) ready done = absurd done
all_worked g ids routes (v ∷ vs) [] ready done = absurd done
all_worked g ids routes (v ∷ vs) (w ∷ ws) ready done = (has_worked g ids routes v w ready.0 done.0, all_worked g ids routes vs ws ready.1 done.1)

all_two : {A : Type 0} (P : A → Type 0) (xs ys : List A) → AllByRecursion P xs → AllByRecursion P ys → AllByRecursion P (xs ++ ys)
all_two P [] ys a b = b
all_two P (x ∷ xs) ys a b = (a.0, all_two P xs ys a.1 b)

-- what holds of all workers' callers holds of those of one slot
pub working_at : {T : Type 0} (P : Knowledge → Type 0) (i : ℕ) (ws : List (Worker T)) → AllByRecursion (λ (w : Worker T). P w.caller) ws → AllByRecursion P (at_slot i (working ws))
working_at P i [] all = tt
working_at P i (w ∷ ws) all = subst (AllByRecursion P) (sym (at_append i (working ws) ((w.slot, w.caller) ∷ []))) (all_two P (at_slot i (working ws)) (at_slot i ((w.slot, w.caller) ∷ [])) (working_at P i ws all.1) (one (w.slot == i)))
  where
    one : (b : Bool) → AllByRecursion P (if b then w.caller ∷ [] else [])
    one true = (all.0, tt)
    one false = tt

-- there is one of a slot
pub works_at : {T : Type 0} (i : ℕ) (ws : List (Worker T)) (j : ℕ) (w : Worker T) → slice_get ws j ≡ Some w → w.slot ≡ i → 0 < length (at_slot i (working ws))
works_at i [] j w is at = absurd (cc)
works_at {T = T} i (v ∷ ws) zero w is at =
    let e : v ≡ w = cc in
    let here : (v.slot == i) ≡ true = (let s : v.slot ≡ i = ap (λ (x : Worker T). x.slot) e ∙ at in grind (arith, nat_tests)) in
    let split : length (at_slot i (working (v ∷ ws))) ≡ length (at_slot i (working ws)) + 1 = ap length (at_append i (working ws) ((v.slot, v.caller) ∷ [])) ∙ (length-append (at_slot i (working ws)) (at_slot i ((v.slot, v.caller) ∷ [])) ∙ rw here refl) in
    omega (arith, split)
works_at i (v ∷ ws) (suc j) w is at =
    let h = works_at i ws j w is at in
    let split : length (at_slot i (working (v ∷ ws))) ≡ length (at_slot i (working ws)) + length (at_slot i ((v.slot, v.caller) ∷ [])) = ap length (at_append i (working ws) ((v.slot, v.caller) ∷ [])) ∙ length-append (at_slot i (working ws)) (at_slot i ((v.slot, v.caller) ∷ [])) in
    omega (arith, split, h)

-- ---- the callers of the other places

same_or_not : (i j : ℕ) → (i ≡ j) ⊎ (i ≢ j)
same_or_not i j = elim (i == j) as (λ v. (i == j) ≡ v → (i ≡ j) ⊎ (i ≢ j)) [
  | true ↦ λ is. inl (grind (arith, nat_tests))
  | false ↦ λ is. inr (grind (arith, nat_tests))
] refl

placed_some : (i : ℕ) (o : Option (List Knowledge)) (c : Knowledge) → place_in i o ≡ Some c → (row : List Knowledge) × (o ≡ Some row) × (slice_get row i ≡ Some c)
placed_some i None c is = absurd (cc)
placed_some i (Some row) c is = (row, refl, is)

module _ {L T : Type 0} (many : ℕ) (mains : List Knowledge) (left : List (Guest L T)) (own : List Knowledge) (given : List (Guest L T)) (swapped : Swapped 0 mains left own given)
    (long : (k : ℕ) (p : Guest L T) → slice_get left k ≡ Some p → length p.row.items ≡ many) (i : ℕ) (main : Knowledge) (lt : i < many) (main_is : slice_get mains i ≡ Some main) where
  at : (k : ℕ) → k < length left → SwapsIn k k mains left own given
  at k few = swapped_at 0 k k mains left own given swapped (omega arith) few

  given_long : (k : ℕ) (row : List Knowledge) → slice_get (callers_of given) k ≡ Some row → i < length row
  given_long k row is =
      let r = row_from given k row is in
      let few : k < length left = let h = within given k r.0 r.1 in let e = swapped_long 0 mains left own given swapped in omega (arith, h, e) in
      let s = at k few in
      let same : s.q ≡ r.0 = same_in s.q r.0 (slice_get given k) s.given r.1 in
      let a : length row ≡ length s.p.row.items = ap length (sym r.2 ∙ (sym (ap (λ (x : Guest L T). x.row.items) same) ∙ s.swaps.row)) ∙ long_set s.p.row.items k s.m in
      let b = long k s.p s.place in
      omega (arith, a, b, lt)

  column_given : (k : ℕ) → slice_get (column i (callers_of given)) k ≡ place_in i (slice_get (callers_of given) k)
  column_given k = column_at i (callers_of given) k (all_from (λ (row : List Knowledge). i < length row) (callers_of given) given_long)

  -- what the row of a given place has at this slot
  row_has : (k : ℕ) (s : SwapsIn k k mains left own given) → place_in i (slice_get (callers_of given) k) ≡ slice_get (set s.p.row.items k s.m) i
  row_has k s = ap (place_in i) (row_at given k s.q s.given) ∙ ap (λ (row : List Knowledge). slice_get row i) s.swaps.row

  pub others_from : (k : ℕ) (c : Knowledge) → slice_get (column i (callers_of given)) k ≡ Some c → ((k ≡ i) × (c ≡ main)) ⊎ ((k ≢ i) × IsAt (callers_of left) k i c)
  others_from k c is =
      let o = placed_some i (slice_get (callers_of given) k) c (sym (column_given k) ∙ is) in
      let r = row_from given k o.0 o.1 in
      let few : k < length left = let h = within given k r.0 r.1 in let e = swapped_long 0 mains left own given swapped in omega (arith, h, e) in
      let s = at k few in
      by s (has s) (same_or_not k i)
    where
      has : (s : SwapsIn k k mains left own given) → slice_get (set s.p.row.items k s.m) i ≡ Some c
      has s = sym (row_has k s) ∙ (sym (column_given k) ∙ is)

      by : (s : SwapsIn k k mains left own given) → slice_get (set s.p.row.items k s.m) i ≡ Some c → (k ≡ i) ⊎ (k ≢ i) → ((k ≡ i) × (c ≡ main)) ⊎ ((k ≢ i) × IsAt (callers_of left) k i c)
      by s has (inl here) =
          let fits : k < length s.p.row.items = (let e = long k s.p s.place in omega (arith, e, lt, here)) in
          let a : slice_get (set s.p.row.items k s.m) i ≡ Some s.m = subst (λ (j : ℕ). slice_get (set s.p.row.items k s.m) j ≡ Some s.m) here (set_at s.p.row.items k s.m fits) in
          let b : c ≡ s.m = same_got c s.m (slice_get (set s.p.row.items k s.m) i) has a in
          let d : s.m ≡ main = same_got s.m main (slice_get mains i) (subst (λ (j : ℕ). slice_get mains j ≡ Some s.m) here s.was) main_is in
          inl (here, b ∙ d)
      by s has (inr apart) = inr (apart, (s.p.row.items, row_at left k s.p s.place, sym (set_beside s.p.row.items k i s.m (λ same. apart (sym same))) ∙ has))

  pub others_in : (k : ℕ) (c : Knowledge) → k ≢ i → IsAt (callers_of left) k i c → slice_get (column i (callers_of given)) k ≡ Some c
  others_in k c apart (row, is, has) =
      let r = row_from left k row is in
      let s = at k (within left k r.0 r.1) in
      let same : s.p ≡ r.0 = same_in s.p r.0 (slice_get left k) s.place r.1 in
      let a : slice_get s.p.row.items i ≡ Some c = subst (λ (l : List Knowledge). slice_get l i ≡ Some c) (sym (ap (λ (x : Guest L T). x.row.items) same ∙ r.2)) has in
      column_given k ∙ (row_has k s ∙ (set_beside s.p.row.items k i s.m (λ same. apart (sym same)) ∙ a))

-- ---- the slot

-- How a slot ended, by its place as its link left it.
pub record SlotEnds {L T : Type 0} (routes : List Listed) (many : ℕ) (mains : List Knowledge) (left : List (Guest L T)) (workers : List (Worker T)) (i : ℕ) (last : Knowledge) : Type 0 where
  pub place : Guest L T
  pub place_is : slice_get left i ≡ Some place
  pub own : Knowledge
  pub own_is : slice_get place.row.items i ≡ Some own
  pub main : Knowledge
  pub main_is : slice_get mains i ≡ Some main
  pub others : List Knowledge
  pub others_are : (k : ℕ) (c : Knowledge) → slice_get others k ≡ Some c → ((k ≡ i) × (c ≡ main)) ⊎ ((k ≢ i) × IsAt (callers_of left) k i c)
  pub all_in : (k : ℕ) (c : Knowledge) → k ≢ i → IsAt (callers_of left) k i c → slice_get others k ≡ Some c
  pub mid : Knowledge
  pub closed : Knowledge
  pub rest : Knowledge
  pub ends : EndsSlot (is_some place.work) own others (at_slot i (working workers)) mid closed rest last
  -- the jobs in the place's work, in the end
  pub over : Option (List OpenJob)
  pub keeps : KeepsWork closed.names routes closed.front rest.front place.work over
  pub empty : IfSome over (λ work. work ≡ [])

pub slot_ends : {L T : Type 0} (routes : List Listed) (many : ℕ) (mains : List Knowledge) (left : List (Guest L T)) (mains' : List Knowledge) (places' : List (Guest L T)) (workers : List (Worker T)) (lasts : List Knowledge)
    → HasEnded routes mains left mains' places' → TookIn mains' (working workers) lasts → length left ≡ many → ((k : ℕ) (p : Guest L T) → slice_get left k ≡ Some p → length p.row.items ≡ many)
    → (i : ℕ) (last : Knowledge) → i < many → slice_get lasts i ≡ Some last → SlotEnds routes many mains left workers i last
slot_ends {L = L} {T = T} routes many mains left mains' places' workers lasts ended took each long i last lt is =
    let s = swapped_at 0 i i mains left ended.own ended.given ended.swapped (omega arith) (omega (arith, lt, each)) in
    let mid = took_slot ended.own (all_placed (callers_of ended.given)) ended.mid i s.n ended.took s.is in
    let emptied = pair_at IsEmptied ended.given ended.empty i s.q ended.emptied s.given in
    let closed = pair_at Ends ended.mid ended.closed i mid.0 ended.ends mid.1 in
    let rest = rest_at routes ended.closed ended.empty mains' places' i closed.0 emptied.0 ended.served closed.1 emptied.1 in
    let end = took_slot mains' (working workers) lasts i rest.new took rest.is in
    let work : emptied.0.work ≡ s.p.work = ap (λ (x : Guest L T). x.work) emptied.2.1 ∙ ap (λ (x : Guest L T). x.work) s.swaps.rest in
    record {
      place = s.p;
      place_is = s.place;
      own = s.n;
      own_is = s.swaps.own;
      main = s.m;
      main_is = s.was;
      others = column i (callers_of ended.given);
      others_are = others_from many mains left ended.own ended.given ended.swapped long i s.m lt s.was;
      all_in = others_in many mains left ended.own ended.given ended.swapped long i s.m lt s.was;
      mid = mid.0;
      closed = closed.0;
      rest = rest.new;
      ends = record {
        took = subst (λ (l : List Knowledge). JoinedAll s.n l mid.0) (column_is i (callers_of ended.given)) mid.2;
        closed_is = closed.2.same;
        closes = ends_closes mid.0 closed.0 closed.2;
        rest_is = rest.serves.same;
        serves = subst (λ (w : Option (List OpenJob)). GoesOn (IsHelped (is_some w)) closed.0 rest.new.front) work rest.serves.goes;
        worked = subst (λ (k : Knowledge). JoinedAll rest.new (at_slot i (working workers)) k) (same_got end.0 last (slice_get lasts i) end.1 is) end.2;
      };
      over = rest.left.work;
      keeps = subst (λ (w : Option (List OpenJob)). KeepsWork closed.0.names routes closed.0.front rest.new.front w rest.left.work) work rest.serves.kept;
      empty = rest.serves.empty;
    }
