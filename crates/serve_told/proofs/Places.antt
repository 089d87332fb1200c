-- How the links left their places.
use Rattle.std.specs.List.{AllByRecursion}
use Rattle.std.proofs.Common.{◌≡◌, ◌≢◌, ◌≤◌, ◌+◌, ◌∙◌, ◌⊎◌, inl, inr, ◌||◌, ℕ, zero, suc, Bool, true, false, List, [], ◌∷◌, ◌++◌, length, slice_get, Option, Some, None, refl, sym, ap, subst, arith, length-append}
use Rattle.rs_wire.specs.declared.settings.Settings.{Settings}
use Rattle.outside.specs.Links.{Shown}
use Rattle.outside.specs.declared.net.Ask.{Ask}
use Rattle.outside.specs.declared.net.NetFault.{NetFault}
use Rattle.conn_lock.specs.Callers.{calls}
use Rattle.conn_shared.specs.Lines.{who_of}
use Rattle.conn_shared.specs.Members.{Knowledge, SharedId}
use Rattle.crew.specs.Places.{AreServed, Pairwise}
use Rattle.handlers.specs.Listed.{Listed}
use Rattle.server.specs.Opening.{AreBack}
use Rattle.server.specs.Serving.{Outcome}
use Rattle.server.specs.declared.served.Served.{Served}
use Rattle.server.specs.declared.served.Served.TheVariants as served
use Rattle.serve_slots.proofs.Lists.{all_second, pair_long}
use Rattle.serve_links.specs.Callers.{IsNewCaller}
use Rattle.serve_threads.specs.Asking.{AreAccepted}
use Rattle.serve_threads.specs.Ending.{AllServeRest, HasEnded, IsEmptied, Swapped, rows_of as callers_of}
use Rattle.serve_threads.specs.Making.{AreInOrder}
use Rattle.serve_threads.specs.Threads.{IsMissed, IsNewCaller as IsUnused, IsServed as WasServed, IsVacant}
use Rattle.serve_threads.specs.declared.guest.Guest.{Guest}
use Rattle.serve_told.specs.Links.{answer_in, answers_of, is_memory, is_out_of_memory, lacks_memory, link_in, links_of, ran_out, some_lack}

-- ---- callers

-- a caller that has seen nothing made no entry
pub is_new : (k : Knowledge) → IsUnused k → IsNewCaller k
is_new k u = (u.names, λ n some. ap (calls who_of n) u.front)

-- it keeps its names
pub back_from : (olds news : List Knowledge) (i : ℕ) (n : Knowledge) → AreBack olds news → slice_get news i ≡ Some n → (o : Knowledge) × (slice_get olds i ≡ Some o) × (n ≡ record o { front = n.front; note = n.note })
back_from [] [] i n back is = absurd (cc)
back_from [] (y ∷ news) i n back is = absurd back
back_from (x ∷ olds) [] i n back is = absurd back
back_from (x ∷ olds) (y ∷ news) zero n back is = (x, refl, subst (λ (k : Knowledge). k ≡ record x { front = k.front; note = k.note }) (let e : y ≡ n = cc in e) back.0)
back_from (x ∷ olds) (y ∷ news) (suc i) n back is = back_from olds news i n back.1 is

-- ---- places

or_none : (a b : Bool) → (a || b) ≡ false → (a ≡ false) × (b ≡ false)
or_none true b is = absurd (cc)
or_none false b is = (refl, is)

module _ {L T : Type 0} where
  -- the callers of a place
  pub row_from : (ps : List (Guest L T)) (k : ℕ) (row : List Knowledge) → slice_get (callers_of ps) k ≡ Some row → (p : Guest L T) × (slice_get ps k ≡ Some p) × (p.row.items ≡ row)
  row_from [] k row is = absurd (cc)
  row_from (p ∷ ps) zero row is = (p, refl, cc)
  row_from (p ∷ ps) (suc k) row is = row_from ps k row is

  pub row_at : (ps : List (Guest L T)) (k : ℕ) (p : Guest L T) → slice_get ps k ≡ Some p → slice_get (callers_of ps) k ≡ Some p.row.items
  row_at [] k p is = absurd (cc)
  row_at (q ∷ ps) zero p is = ap (λ (x : Guest L T). Some x.row.items) (let e : q ≡ p = cc in e)
  row_at (q ∷ ps) (suc k) p is = row_at ps k p is

  pub rows_long : (ps : List (Guest L T)) → length (callers_of ps) ≡ length ps
  rows_long [] = refl
  rows_long (p ∷ ps) = ap suc (rows_long ps)

  pub order_at : (slot : ℕ) (ps : List (Guest L T)) (k : ℕ) (p : Guest L T) → AreInOrder slot ps → slice_get ps k ≡ Some p → p.slot ≡ slot + k
  order_at slot [] k p order is = absurd (cc)
  order_at slot (q ∷ ps) zero p order is = let e : q ≡ p = cc in sym (ap (λ (x : Guest L T). x.slot) e) ∙ (order.0 ∙ omega arith)
  order_at slot (q ∷ ps) (suc k) p order is = let h = order_at (slot + 1) ps k p order.1 is in omega (arith, h)

  -- ---- memory

  pub lack_at : (ps : List (Guest L T)) (k : ℕ) (p : Guest L T) → some_lack ps ≡ false → slice_get ps k ≡ Some p → lacks_memory p ≡ false
  lack_at [] k p none is = absurd (cc)
  lack_at (q ∷ ps) zero p none is = subst (λ (x : Guest L T). lacks_memory x ≡ false) (let e : q ≡ p = cc in e) (or_none (lacks_memory q) (some_lack ps) none).0
  lack_at (q ∷ ps) (suc k) p none is = lack_at ps k p (or_none (lacks_memory q) (some_lack ps) none).1 is

  -- a link was not answered that memory ran out
  pub had_memory : (p : Guest L T) (outcome : Outcome) → lacks_memory p ≡ false → p.answer ≡ Some outcome → outcome.0 ≢ served.OutOfMemory
  had_memory p outcome none is out =
      let a : ran_out (Some outcome) ≡ false = subst (λ (o : Option Outcome). ran_out o ≡ false) is (or_none (is_memory p.missed) (ran_out p.answer) none).1 in
      let b : is_out_of_memory served.OutOfMemory ≡ false = subst (λ (s : Served). is_out_of_memory s ≡ false) out a in
      cc

  -- ---- how a place is left

  -- a link was served there, which is the one at that place of the list, as its answer is, or none came, and then no more did
  abbrev pub WasLeft : (L → Shown) → Settings → Option (List ℕ) → Option ℕ → List Listed → List Shown → List Served → ℕ → Guest L T → Guest L T → Type 0
  WasLeft shown g moments grant routes links answers k p q =
      ((s : WasServed shown g moments grant routes p q) × (slice_get links k ≡ Some (shown s.link)) × (slice_get answers k ≡ Some s.outcome.0))
      ⊎ ((slice_get links k ≡ None) × (q.row ≡ p.row) × (q.work ≡ p.work))

  module _ (shown : L → Shown) (g : Settings) (ids : List SharedId) (moments : Option (List ℕ)) (grant : Option ℕ) (routes : List Listed) where
    left_next : (x : Shown) (y : Served) (links : List Shown) (answers : List Served) (k : ℕ) (p q : Guest L T) → WasLeft shown g moments grant routes links answers k p q → WasLeft shown g moments grant routes (x ∷ links) (y ∷ answers) (suc k) p q
    left_next x y links answers k p q (inl s) = inl s
    left_next x y links answers k p q (inr s) = inr s

    left_later : (a b : Guest L T) (s : WasServed shown g moments grant routes a b) (links : List Shown) (answers : List Served) (k : ℕ) (p q : Guest L T) → WasLeft shown g moments grant routes links answers k p q
        → WasLeft shown g moments grant routes (link_in shown b.link ++ links) (answer_in b.answer ++ answers) (suc k) p q
    left_later a b s links answers k p q left =
        subst (λ (x : Option L). WasLeft shown g moments grant routes (link_in shown x ++ links) (answer_in b.answer ++ answers) (suc k) p q) (sym s.link_is)
        (subst (λ (y : Option Outcome). WasLeft shown g moments grant routes (shown s.link ∷ links) (answer_in y ++ answers) (suc k) p q) (sym s.answer_is) (left_next (shown s.link) s.outcome.0 links answers k p q left))

    left_here : (links : List Shown) (answers : List Served) (p q : Guest L T) (s : WasServed shown g moments grant routes p q) → WasLeft shown g moments grant routes (link_in shown q.link ++ links) (answer_in q.answer ++ answers) 0 p q
    left_here links answers p q s =
        inl (s, ap (λ (o : Option L). slice_get (link_in shown o ++ links) 0) s.link_is, ap (λ (o : Option Outcome). slice_get (answer_in o ++ answers) 0) s.answer_is)

    vacant_links : (ps : List (Guest L T)) → AllByRecursion (IsVacant g ids) ps → links_of shown ps ≡ []
    vacant_links [] v = refl
    vacant_links (p ∷ ps) v = ap (λ (o : Option L). link_in shown o ++ links_of shown ps) v.0.none ∙ vacant_links ps v.1

    all_left_at : (ps qs : List (Guest L T)) (k : ℕ) (q : Guest L T) → Pairwise (WasServed shown g moments grant routes) ps qs → slice_get qs k ≡ Some q → (p : Guest L T) × (slice_get ps k ≡ Some p) × WasLeft shown g moments grant routes (links_of shown qs) (answers_of qs) k p q
    all_left_at [] [] k q d is = absurd (cc)
    all_left_at [] (b ∷ qs) k q d is = absurd d
    all_left_at (a ∷ ps) [] k q d is = absurd d
    all_left_at (a ∷ ps) (b ∷ qs) zero q d is = (a, refl, subst (λ (x : Guest L T). WasLeft shown g moments grant routes (links_of shown (b ∷ qs)) (answers_of (b ∷ qs)) 0 a x) (let e : b ≡ q = cc in e) (left_here (links_of shown qs) (answers_of qs) a b d.0))
    all_left_at (a ∷ ps) (b ∷ qs) (suc k) q d is =
        let h = all_left_at ps qs k q d.1 is in
        (h.0, h.1, left_later a b d.0 (links_of shown qs) (answers_of qs) k h.0 q h.2)

    some_left_at : (ps qs : List (Guest L T)) (place place' : Guest L T) (rest : List (Guest L T)) (k : ℕ) (q : Guest L T) → Pairwise (WasServed shown g moments grant routes) ps qs → AllByRecursion (IsVacant g ids) rest
        → place'.link ≡ None → place'.row ≡ place.row → place'.work ≡ place.work → slice_get (qs ++ place' ∷ rest) k ≡ Some q
        → (p : Guest L T) × (slice_get (ps ++ place ∷ rest) k ≡ Some p) × WasLeft shown g moments grant routes (links_of shown (qs ++ place' ∷ rest)) (answers_of (qs ++ place' ∷ rest)) k p q
    some_left_at [] [] place place' rest k q d v none row work is = by k is
      where
        no_links : links_of shown (place' ∷ rest) ≡ []
        no_links = ap (λ (o : Option L). link_in shown o ++ links_of shown rest) none ∙ vacant_links rest v

        nothing : (j : ℕ) → slice_get (links_of shown (place' ∷ rest)) j ≡ None
        nothing j = ap (λ (l : List Shown). slice_get l j) no_links

        by : (j : ℕ) → slice_get (place' ∷ rest) j ≡ Some q → (p : Guest L T) × (slice_get (place ∷ rest) j ≡ Some p) × WasLeft shown g moments grant routes (links_of shown (place' ∷ rest)) (answers_of (place' ∷ rest)) j p q
        by zero here = let e : place' ≡ q = cc in (place, refl, inr (nothing 0, sym (ap (λ (x : Guest L T). x.row) e) ∙ row, sym (ap (λ (x : Guest L T). x.work) e) ∙ work))
        by (suc j) there = (q, there, inr (nothing (suc j), refl, refl))
    some_left_at [] (b ∷ qs) place place' rest k q d v none row work is = absurd d
    some_left_at (a ∷ ps) [] place place' rest k q d v none row work is = absurd d
    some_left_at (a ∷ ps) (b ∷ qs) place place' rest zero q d v none row work is =
        (a, refl, subst (λ (x : Guest L T). WasLeft shown g moments grant routes (links_of shown (b ∷ qs ++ place' ∷ rest)) (answers_of (b ∷ qs ++ place' ∷ rest)) 0 a x) (let e : b ≡ q = cc in e) (left_here (links_of shown (qs ++ place' ∷ rest)) (answers_of (qs ++ place' ∷ rest)) a b d.0))
    some_left_at (a ∷ ps) (b ∷ qs) place place' rest (suc k) q d v none row work is =
        let h = some_left_at ps qs place place' rest k q d.1 v none row work is in
        (h.0, h.1, left_later a b d.0 (links_of shown (qs ++ place' ∷ rest)) (answers_of (qs ++ place' ∷ rest)) k h.0 q h.2)

    module _ {N : Type 0} (asked : N → Option (List Ask)) (back : N → Option (List Shown)) (out faults : N → ℕ) (ws : Bool) (n m : N) (places left : List (Guest L T)) (vacant : AllByRecursion (IsVacant g ids) places)
        (done : AreServed (AreAccepted asked back out faults ws) (WasServed shown g moments grant routes) (IsMissed asked back out faults ws) n m places left) where
      pub left_at : (k : ℕ) (q : Guest L T) → slice_get left k ≡ Some q → (p : Guest L T) × (slice_get places k ≡ Some p) × WasLeft shown g moments grant routes (links_of shown left) (answers_of left) k p q
      left_at k q is = by done
        where
          by : AreServed (AreAccepted asked back out faults ws) (WasServed shown g moments grant routes) (IsMissed asked back out faults ws) n m places left
              → (p : Guest L T) × (slice_get places k ≡ Some p) × WasLeft shown g moments grant routes (links_of shown left) (answers_of left) k p q
          by (inl a) = all_left_at places left k q a.each is
          by (inr u) =
              let rest = all_second (IsVacant g ids) u.before (u.place ∷ u.rest) (subst (AllByRecursion (IsVacant g ids)) u.were vacant) in
              let h = some_left_at u.before u.before' u.place u.place' u.rest k q u.each rest.1
              (ap (λ (x : Guest L T). x.link) u.misses.missed ∙ rest.0.none) (ap (λ (x : Guest L T). x.row) u.misses.missed) (ap (λ (x : Guest L T). x.work) u.misses.missed)
              (subst (λ (l : List (Guest L T)). slice_get l k ≡ Some q) u.are is) in
              (h.0, subst (λ (l : List (Guest L T)). slice_get l k ≡ Some h.0) (sym u.were) h.1, subst (λ (l : List (Guest L T)). WasLeft shown g moments grant routes (links_of shown l) (answers_of l) k h.0 q) (sym u.are) h.2)

      pub left_long : length left ≡ length places
      left_long = by done
        where
          by : AreServed (AreAccepted asked back out faults ws) (WasServed shown g moments grant routes) (IsMissed asked back out faults ws) n m places left → length left ≡ length places
          by (inl a) = sym (pair_long (WasServed shown g moments grant routes) places left a.each)
          by (inr u) =
              let a = pair_long (WasServed shown g moments grant routes) u.before u.before' u.each in
              let b = ap length u.were ∙ length-append u.before (u.place ∷ u.rest) in
              let c = ap length u.are ∙ length-append u.before' (u.place' ∷ u.rest) in
              omega (arith, a, b, c)

  -- there are at most as many links as places
  pub few_links : (shown : L → Shown) (ps : List (Guest L T)) → length (links_of shown ps) ≤ length ps
  few_links shown [] = omega arith
  few_links shown (p ∷ ps) = by p.link (few_links shown ps)
    where
      by : (o : Option L) → length (links_of shown ps) ≤ length ps → length (link_in shown o ++ links_of shown ps) ≤ suc (length ps)
      by None h = omega (arith, h)
      by (Some link) h = omega (arith, h)

  -- ---- at the end the places have the links and the answers that they had

  abbrev AreAlike : List (Guest L T) → List (Guest L T) → Type 0
  AreAlike ps qs = Pairwise (λ p q. (q.link ≡ p.link) × (q.answer ≡ p.answer) × (q.missed ≡ p.missed)) ps qs

  alike_swapped : (slot : ℕ) (ms : List Knowledge) (ps : List (Guest L T)) (ns : List Knowledge) (qs : List (Guest L T)) → Swapped slot ms ps ns qs → AreAlike ps qs
  alike_swapped slot [] [] [] [] s = tt
  alike_swapped slot [] [] [] (q ∷ qs) s = absurd s
  alike_swapped slot [] [] (n ∷ ns) qs s = absurd s
  alike_swapped slot [] (p ∷ ps) ns qs s = absurd s
  alike_swapped slot (m ∷ ms) [] ns qs s = absurd s
  alike_swapped slot (m ∷ ms) (p ∷ ps) [] qs s = absurd s
  alike_swapped slot (m ∷ ms) (p ∷ ps) (n ∷ ns) [] s = absurd s
  alike_swapped slot (m ∷ ms) (p ∷ ps) (n ∷ ns) (q ∷ qs) s =
      ((ap (λ (x : Guest L T). x.link) s.2, ap (λ (x : Guest L T). x.answer) s.2, ap (λ (x : Guest L T). x.missed) s.2), alike_swapped (slot + 1) ms ps ns qs s.3)

  alike_emptied : (ps qs : List (Guest L T)) → Pairwise IsEmptied ps qs → AreAlike ps qs
  alike_emptied [] [] e = tt
  alike_emptied [] (q ∷ qs) e = absurd e
  alike_emptied (p ∷ ps) [] e = absurd e
  alike_emptied (p ∷ ps) (q ∷ qs) e =
      ((ap (λ (x : Guest L T). x.link) e.0.1, ap (λ (x : Guest L T). x.answer) e.0.1, ap (λ (x : Guest L T). x.missed) e.0.1), alike_emptied ps qs e.1)

  alike_rest : (routes : List Listed) (ms : List Knowledge) (ps : List (Guest L T)) (ns : List Knowledge) (qs : List (Guest L T)) → AllServeRest routes ms ps ns qs → AreAlike ps qs
  alike_rest routes [] [] [] [] s = tt
  alike_rest routes [] [] [] (q ∷ qs) s = absurd s
  alike_rest routes [] [] (n ∷ ns) qs s = absurd s
  alike_rest routes [] (p ∷ ps) ns qs s = absurd s
  alike_rest routes (m ∷ ms) [] ns qs s = absurd s
  alike_rest routes (m ∷ ms) (p ∷ ps) [] qs s = absurd s
  alike_rest routes (m ∷ ms) (p ∷ ps) (n ∷ ns) [] s = absurd s
  alike_rest routes (m ∷ ms) (p ∷ ps) (n ∷ ns) (q ∷ qs) s =
      ((ap (λ (x : Guest L T). x.link) s.0.rest, ap (λ (x : Guest L T). x.answer) s.0.rest, ap (λ (x : Guest L T). x.missed) s.0.rest), alike_rest routes ms ps ns qs s.1)

  alike_links : (shown : L → Shown) (ps qs : List (Guest L T)) → AreAlike ps qs → links_of shown qs ≡ links_of shown ps
  alike_links shown [] [] a = refl
  alike_links shown [] (q ∷ qs) a = absurd a
  alike_links shown (p ∷ ps) [] a = absurd a
  alike_links shown (p ∷ ps) (q ∷ qs) a = ap (λ (o : Option L). link_in shown o ++ links_of shown qs) a.0.0 ∙ ap (λ (l : List Shown). link_in shown p.link ++ l) (alike_links shown ps qs a.1)

  alike_answers : (ps qs : List (Guest L T)) → AreAlike ps qs → answers_of qs ≡ answers_of ps
  alike_answers [] [] a = refl
  alike_answers [] (q ∷ qs) a = absurd a
  alike_answers (p ∷ ps) [] a = absurd a
  alike_answers (p ∷ ps) (q ∷ qs) a = ap (λ (o : Option Outcome). answer_in o ++ answers_of qs) a.0.1 ∙ ap (λ (l : List Served). answer_in p.answer ++ l) (alike_answers ps qs a.1)

  alike_lack : (ps qs : List (Guest L T)) → AreAlike ps qs → some_lack qs ≡ some_lack ps
  alike_lack [] [] a = refl
  alike_lack [] (q ∷ qs) a = absurd a
  alike_lack (p ∷ ps) [] a = absurd a
  alike_lack (p ∷ ps) (q ∷ qs) a =
      ap (λ (o : Option NetFault). (is_memory o || ran_out q.answer) || some_lack qs) a.0.2
      ∙ (ap (λ (o : Option Outcome). (is_memory p.missed || ran_out o) || some_lack qs) a.0.1 ∙ ap (λ (b : Bool). lacks_memory p || b) (alike_lack ps qs a.1))

  module _ (routes : List Listed) (ms : List Knowledge) (ps : List (Guest L T)) (ns : List Knowledge) (qs : List (Guest L T)) (ended : HasEnded routes ms ps ns qs) where
    pub ended_links : (shown : L → Shown) → links_of shown qs ≡ links_of shown ps
    ended_links shown = alike_links shown ended.empty qs (alike_rest routes ended.closed ended.empty ns qs ended.served)
        ∙ (alike_links shown ended.given ended.empty (alike_emptied ended.given ended.empty ended.emptied) ∙ alike_links shown ps ended.given (alike_swapped 0 ms ps ended.own ended.given ended.swapped))

    pub ended_answers : answers_of qs ≡ answers_of ps
    ended_answers = alike_answers ended.empty qs (alike_rest routes ended.closed ended.empty ns qs ended.served)
        ∙ (alike_answers ended.given ended.empty (alike_emptied ended.given ended.empty ended.emptied) ∙ alike_answers ps ended.given (alike_swapped 0 ms ps ended.own ended.given ended.swapped))

    pub ended_lack : some_lack qs ≡ some_lack ps
    ended_lack = alike_lack ended.empty qs (alike_rest routes ended.closed ended.empty ns qs ended.served)
        ∙ (alike_lack ended.given ended.empty (alike_emptied ended.given ended.empty ended.emptied) ∙ alike_lack ps ended.given (alike_swapped 0 ms ps ended.own ended.given ended.swapped))
