-- How all is left once all links have ended.
use Rattle.std.proofs.Common.{◌≡◌, ◌<◌, ◌+◌, ◌∙◌, ℕ, zero, suc, List, [], ◌∷◌, ◌++◌, length, set, Some, slice_get, refl, ap, subst, arith}
use Rattle.conn_shared.specs.Members.{Knowledge}
use Rattle.crew.specs.Places.{Pairwise}
use Rattle.handlers.specs.Listed.{Listed}
use Rattle.rs_wire.specs.declared.settings.Settings.{Settings}
use Rattle.serve_slots.specs.Callers.{HaveAll, Placed, all_placed, held, parts_at, parts_if, placed}
use Rattle.serve_slots.proofs.Parts.{held_append, held_row, parts_after, parts_before, parts_same, parts_set, took_all}
use Rattle.serve_threads.specs.Ending.{AllServeRest, Ends, HasEnded, IsEmptied, Swapped, rows_of}
use Rattle.serve_threads.specs.Making.{working}
use Rattle.serve_threads.specs.Threads.{IsDone}
use Rattle.serve_threads.specs.declared.guest.Guest.{Guest}
use Rattle.serve_threads.specs.declared.worker.Worker.{Worker}

-- one caller of a row goes for another
parts_row_set : (i at : ℕ) (row : List Knowledge) (m n : Knowledge) → slice_get row at ≡ Some n → parts_at i (set row at m) + parts_if at i n.parts ≡ parts_at i row + parts_if at i m.parts
parts_row_set i at row m n was = parts_set i at row n m was

-- these have the same links, answers and faults
abbrev pub AreAlike : {L T : Type 0} → List (Guest L T) → List (Guest L T) → Type 0
AreAlike ps qs = Pairwise (λ p q. (q.link ≡ p.link) × (q.answer ≡ p.answer) × (q.missed ≡ p.missed)) ps qs

-- ---- the callers that close

-- the callers have the same parts, and so they have all
same_all : (ms ns : List Knowledge) (others : List Placed) → ((i : ℕ) → parts_at i ns ≡ parts_at i ms) → length ns ≡ length ms → HaveAll ms others → HaveAll ns others
unfolding HaveAll
same_all ms ns others same long all i lt = let a = same i in let b = all i (subst (λ (n : ℕ). i < n) long lt) in omega arith

ends_parts : (i : ℕ) (ms ns : List Knowledge) → Pairwise Ends ms ns → parts_at i ns ≡ parts_at i ms
ends_parts i [] [] e = refl
ends_parts i [] (n ∷ ns) e = absurd e
ends_parts i (m ∷ ms) [] e = absurd e
ends_parts zero (m ∷ ms) (n ∷ ns) e = ap (λ (k : Knowledge). k.parts) e.0.same
ends_parts (suc i) (m ∷ ms) (n ∷ ns) e = ends_parts i ms ns e.1

ends_long : (ms ns : List Knowledge) → Pairwise Ends ms ns → length ns ≡ length ms
ends_long [] [] e = refl
ends_long [] (n ∷ ns) e = absurd e
ends_long (m ∷ ms) [] e = absurd e
ends_long (m ∷ ms) (n ∷ ns) e = ap suc (ends_long ms ns e.1)

module _ {L T : Type 0} where
  swapped_long : (slot : ℕ) (ms : List Knowledge) (ps : List (Guest L T)) (ns : List Knowledge) (qs : List (Guest L T)) → Swapped slot ms ps ns qs → length ns ≡ length ms
  swapped_long slot [] [] [] [] s = refl
  swapped_long slot [] [] [] (q ∷ qs) s = absurd s
  swapped_long slot [] [] (n ∷ ns) qs s = absurd s
  swapped_long slot [] (p ∷ ps) ns qs s = absurd s
  swapped_long slot (m ∷ ms) [] ns qs s = absurd s
  swapped_long slot (m ∷ ms) (p ∷ ps) [] qs s = absurd s
  swapped_long slot (m ∷ ms) (p ∷ ps) (n ∷ ns) [] s = absurd s
  swapped_long slot (m ∷ ms) (p ∷ ps) (n ∷ ns) (q ∷ qs) s = ap suc (swapped_long (slot + 1) ms ps ns qs s.3)

  -- a slot before them is as it was
  swapped_before : (i slot : ℕ) (ms : List Knowledge) (ps : List (Guest L T)) (ns : List Knowledge) (qs : List (Guest L T)) → Swapped slot ms ps ns qs → i < slot → held i (all_placed (rows_of qs)) ≡ held i (all_placed (rows_of ps))
  swapped_before i slot [] [] [] [] s lt = refl
  swapped_before i slot [] [] [] (q ∷ qs) s lt = absurd s
  swapped_before i slot [] [] (n ∷ ns) qs s lt = absurd s
  swapped_before i slot [] (p ∷ ps) ns qs s lt = absurd s
  swapped_before i slot (m ∷ ms) [] ns qs s lt = absurd s
  swapped_before i slot (m ∷ ms) (p ∷ ps) [] qs s lt = absurd s
  swapped_before i slot (m ∷ ms) (p ∷ ps) (n ∷ ns) [] s lt = absurd s
  swapped_before i slot (m ∷ ms) (p ∷ ps) (n ∷ ns) (q ∷ qs) s lt =
      let a = held_append i (placed 0 p.row.items) (all_placed (rows_of ps)) in
      let b = held_append i (placed 0 q.row.items) (all_placed (rows_of qs)) in
      let c = held_row i p.row.items in
      let d = held_row i q.row.items in
      let e = ap (parts_at i) s.1 in
      let f = parts_row_set i slot p.row.items m n s.0 in
      let h = swapped_before i (slot + 1) ms ps ns qs s.3 (omega (arith, lt)) in
      let x = parts_after i slot n.parts lt in
      let y = parts_after i slot m.parts lt in
      omega arith

  swapped_parts : (i slot at : ℕ) (ms : List Knowledge) (ps : List (Guest L T)) (ns : List Knowledge) (qs : List (Guest L T)) → Swapped slot ms ps ns qs → at ≡ slot + i
      → parts_at i ns + held at (all_placed (rows_of qs)) ≡ parts_at i ms + held at (all_placed (rows_of ps))
  swapped_parts i slot at [] [] [] [] s is = refl
  swapped_parts i slot at [] [] [] (q ∷ qs) s is = absurd s
  swapped_parts i slot at [] [] (n ∷ ns) qs s is = absurd s
  swapped_parts i slot at [] (p ∷ ps) ns qs s is = absurd s
  swapped_parts i slot at (m ∷ ms) [] ns qs s is = absurd s
  swapped_parts i slot at (m ∷ ms) (p ∷ ps) [] qs s is = absurd s
  swapped_parts i slot at (m ∷ ms) (p ∷ ps) (n ∷ ns) [] s is = absurd s
  swapped_parts zero slot at (m ∷ ms) (p ∷ ps) (n ∷ ns) (q ∷ qs) s is =
      let a = held_append at (placed 0 p.row.items) (all_placed (rows_of ps)) in
      let b = held_append at (placed 0 q.row.items) (all_placed (rows_of qs)) in
      let c = held_row at p.row.items in
      let d = held_row at q.row.items in
      let e = ap (parts_at at) s.1 in
      let f = parts_row_set at slot p.row.items m n s.0 in
      let h = swapped_before at (slot + 1) ms ps ns qs s.3 (omega (arith, is)) in
      let here : at ≡ slot = omega (arith, is) in
      let x : parts_if slot at n.parts ≡ n.parts = ap (λ (k : ℕ). parts_if slot k n.parts) here ∙ parts_same slot n.parts in
      let y : parts_if slot at m.parts ≡ m.parts = ap (λ (k : ℕ). parts_if slot k m.parts) here ∙ parts_same slot m.parts in
      omega arith
  swapped_parts (suc i) slot at (m ∷ ms) (p ∷ ps) (n ∷ ns) (q ∷ qs) s is =
      let a = held_append at (placed 0 p.row.items) (all_placed (rows_of ps)) in
      let b = held_append at (placed 0 q.row.items) (all_placed (rows_of qs)) in
      let c = held_row at p.row.items in
      let d = held_row at q.row.items in
      let e = ap (parts_at at) s.1 in
      let f = parts_row_set at slot p.row.items m n s.0 in
      let h = swapped_parts i (slot + 1) at ms ps ns qs s.3 (omega (arith, is)) in
      let x = parts_before slot at n.parts (omega (arith, is)) in
      let y = parts_before slot at m.parts (omega (arith, is)) in
      omega arith

  swapped_all : (ms : List Knowledge) (ps : List (Guest L T)) (ns : List Knowledge) (qs : List (Guest L T)) (others : List Placed) → Swapped 0 ms ps ns qs → HaveAll ms (all_placed (rows_of ps) ++ others) → HaveAll ns (all_placed (rows_of qs) ++ others)
  unfolding HaveAll
  swapped_all ms ps ns qs others s all i lt =
      let a = swapped_parts i 0 i ms ps ns qs s (omega arith) in
      let b = held_append i (all_placed (rows_of ps)) others in
      let c = held_append i (all_placed (rows_of qs)) others in
      let d = all i (subst (λ (n : ℕ). i < n) (swapped_long 0 ms ps ns qs s) lt) in
      omega arith

  rest_parts : (routes : List Listed) (i : ℕ) (ms : List Knowledge) (ps : List (Guest L T)) (ns : List Knowledge) (qs : List (Guest L T)) → AllServeRest routes ms ps ns qs → parts_at i ns ≡ parts_at i ms
  rest_parts routes i [] [] [] [] s = refl
  rest_parts routes i [] [] [] (q ∷ qs) s = absurd s
  rest_parts routes i [] [] (n ∷ ns) qs s = absurd s
  rest_parts routes i [] (p ∷ ps) ns qs s = absurd s
  rest_parts routes i (m ∷ ms) [] ns qs s = absurd s
  rest_parts routes i (m ∷ ms) (p ∷ ps) [] qs s = absurd s
  rest_parts routes i (m ∷ ms) (p ∷ ps) (n ∷ ns) [] s = absurd s
  rest_parts routes zero (m ∷ ms) (p ∷ ps) (n ∷ ns) (q ∷ qs) s = ap (λ (k : Knowledge). k.parts) s.0.same
  rest_parts routes (suc i) (m ∷ ms) (p ∷ ps) (n ∷ ns) (q ∷ qs) s = rest_parts routes i ms ps ns qs s.1

  rest_long : (routes : List Listed) (ms : List Knowledge) (ps : List (Guest L T)) (ns : List Knowledge) (qs : List (Guest L T)) → AllServeRest routes ms ps ns qs → length ns ≡ length ms
  rest_long routes [] [] [] [] s = refl
  rest_long routes [] [] [] (q ∷ qs) s = absurd s
  rest_long routes [] [] (n ∷ ns) qs s = absurd s
  rest_long routes [] (p ∷ ps) ns qs s = absurd s
  rest_long routes (m ∷ ms) [] ns qs s = absurd s
  rest_long routes (m ∷ ms) (p ∷ ps) [] qs s = absurd s
  rest_long routes (m ∷ ms) (p ∷ ps) (n ∷ ns) [] s = absurd s
  rest_long routes (m ∷ ms) (p ∷ ps) (n ∷ ns) (q ∷ qs) s = ap suc (rest_long routes ms ps ns qs s.1)

  -- nothing but the workers' callers is left to be taken in
  pub ended_all : (routes : List Listed) (ms : List Knowledge) (ps : List (Guest L T)) (ns : List Knowledge) (qs : List (Guest L T)) (others : List Placed) → HasEnded routes ms ps ns qs → HaveAll ms (all_placed (rows_of ps) ++ others) → HaveAll ns others
  ended_all routes ms ps ns qs others h all =
      let a = swapped_all ms ps h.own h.given others h.swapped all in
      let b = took_all h.own h.mid (all_placed (rows_of h.given)) others a h.took in
      let c = same_all h.mid h.closed others (λ i. ends_parts i h.mid h.closed h.ends) (ends_long h.mid h.closed h.ends) b in
      same_all h.closed ns others (λ i. rest_parts routes i h.closed h.empty ns qs h.served) (rest_long routes h.closed h.empty ns qs h.served) c

  -- ---- links and answers stay

  alike_swapped : (slot : ℕ) (ms : List Knowledge) (ps : List (Guest L T)) (ns : List Knowledge) (qs : List (Guest L T)) → Swapped slot ms ps ns qs → AreAlike ps qs
  alike_swapped slot [] [] [] [] s = tt
  alike_swapped slot [] [] [] (q ∷ qs) s = absurd s
  alike_swapped slot [] [] (n ∷ ns) qs s = absurd s
  alike_swapped slot [] (p ∷ ps) ns qs s = absurd s
  alike_swapped slot (m ∷ ms) [] ns qs s = absurd s
  alike_swapped slot (m ∷ ms) (p ∷ ps) [] qs s = absurd s
  alike_swapped slot (m ∷ ms) (p ∷ ps) (n ∷ ns) [] s = absurd s
  alike_swapped slot (m ∷ ms) (p ∷ ps) (n ∷ ns) (q ∷ qs) s =
      ((ap (λ (x : Guest L T). x.link) s.2, ap (λ (x : Guest L T). x.answer) s.2, ap (λ (x : Guest L T). x.missed) s.2), alike_swapped (slot + 1) ms ps ns qs s.3)

  alike_emptied : (ps qs : List (Guest L T)) → Pairwise IsEmptied ps qs → AreAlike ps qs
  alike_emptied [] [] e = tt
  alike_emptied [] (q ∷ qs) e = absurd e
  alike_emptied (p ∷ ps) [] e = absurd e
  alike_emptied (p ∷ ps) (q ∷ qs) e =
      ((ap (λ (x : Guest L T). x.link) e.0.1, ap (λ (x : Guest L T). x.answer) e.0.1, ap (λ (x : Guest L T). x.missed) e.0.1), alike_emptied ps qs e.1)

  alike_rest : (routes : List Listed) (ms : List Knowledge) (ps : List (Guest L T)) (ns : List Knowledge) (qs : List (Guest L T)) → AllServeRest routes ms ps ns qs → AreAlike ps qs
  alike_rest routes [] [] [] [] s = tt
  alike_rest routes [] [] [] (q ∷ qs) s = absurd s
  alike_rest routes [] [] (n ∷ ns) qs s = absurd s
  alike_rest routes [] (p ∷ ps) ns qs s = absurd s
  alike_rest routes (m ∷ ms) [] ns qs s = absurd s
  alike_rest routes (m ∷ ms) (p ∷ ps) [] qs s = absurd s
  alike_rest routes (m ∷ ms) (p ∷ ps) (n ∷ ns) [] s = absurd s
  alike_rest routes (m ∷ ms) (p ∷ ps) (n ∷ ns) (q ∷ qs) s =
      ((ap (λ (x : Guest L T). x.link) s.0.rest, ap (λ (x : Guest L T). x.answer) s.0.rest, ap (λ (x : Guest L T). x.missed) s.0.rest), alike_rest routes ms ps ns qs s.1)

  alike_both : (ps qs rs : List (Guest L T)) → AreAlike ps qs → AreAlike qs rs → AreAlike ps rs
  alike_both [] [] [] a b = tt
  alike_both [] [] (r ∷ rs) a b = absurd b
  alike_both [] (q ∷ qs) rs a b = absurd a
  alike_both (p ∷ ps) [] rs a b = absurd a
  alike_both (p ∷ ps) (q ∷ qs) [] a b = absurd b
  alike_both (p ∷ ps) (q ∷ qs) (r ∷ rs) a b = ((b.0.0 ∙ a.0.0, b.0.1 ∙ a.0.1, b.0.2 ∙ a.0.2), alike_both ps qs rs a.1 b.1)

  pub ended_alike : (routes : List Listed) (ms : List Knowledge) (ps : List (Guest L T)) (ns : List Knowledge) (qs : List (Guest L T)) → HasEnded routes ms ps ns qs → AreAlike ps qs
  ended_alike routes ms ps ns qs h = alike_both ps h.given qs (alike_swapped 0 ms ps h.own h.given h.swapped) (alike_both h.given h.empty qs (alike_emptied h.given h.empty h.emptied) (alike_rest routes h.closed h.empty ns qs h.served))

-- ---- the workers

pub workers_parts : {T : Type 0} (g : Settings) (routes : List Listed) (i : ℕ) (vs ws : List (Worker T)) → Pairwise (IsDone g routes) vs ws → held i (working ws) ≡ held i (working vs)
workers_parts g routes i [] [] d = refl
workers_parts g routes i [] (w ∷ ws) d = absurd d
workers_parts g routes i (v ∷ vs) [] d = absurd d
workers_parts g routes i (v ∷ vs) (w ∷ ws) d =
    let a = workers_parts g routes i vs ws d.1 in
    let b = held_append i (working vs) ((v.slot, v.caller) ∷ []) in
    let c = held_append i (working ws) ((w.slot, w.caller) ∷ []) in
    let e : w.caller.parts ≡ v.caller.parts = ap (λ (k : Knowledge). k.parts) d.0.off.same in
    let f : parts_if w.slot i w.caller.parts ≡ parts_if v.slot i v.caller.parts = ap (λ (n : ℕ). parts_if n i w.caller.parts) d.0.slot ∙ ap (λ (p : ℕ). parts_if v.slot i p) e in
    omega arith
