-- What the last task needs at each of its steps.
use Rattle.std.specs.List.{AllByRecursion}
use Rattle.std.proofs.Common.{◌≡◌, ◌≤◌, ◌+◌, ◌∙◌, ℕ, suc, List, [], ◌∷◌, ◌++◌, length, Some, slice_get, refl, sym, ap, subst, arith, append_assoc, length-append}
use Rattle.conn_shared.specs.Members.{Knowledge, SharedId}
use Rattle.crew.specs.Places.{Pairwise}
use Rattle.handlers.specs.Listed.{Listed}
use Rattle.server.specs.Attending.{AreRoutedIn}
use Rattle.serve_slots.specs.Callers.{AreCallersOf}
use Rattle.serve_slots.proofs.Lists.{of_at, of_set, pair_long, row_placed}
use Rattle.serve_threads.specs.Ending.{CanEnd, Ends, IsEmptied, IsLeft, Swapped}
use Rattle.serve_threads.specs.Making.{IsRow}
use Rattle.serve_threads.specs.declared.guest.Guest.{Guest}

-- each place has a caller of each connection
abbrev pub HaveRows : {L T : Type 0} → List SharedId → List (Guest L T) → Type 0
HaveRows ids places = AllByRecursion (λ p. AreCallersOf ids p.row.items) places

all_under : {A : Type 0} (P Q : A → Type 0) → ((x : A) → P x → Q x) → (xs : List A) → AllByRecursion P xs → AllByRecursion Q xs
all_under P Q f [] all = tt
all_under P Q f (x ∷ xs) all = (f x all.0, all_under P Q f xs all.1)

module _ {L T : Type 0} (ids : List SharedId) (routes : List Listed) where
  pub left_rows : (ps : List (Guest L T)) → AllByRecursion (IsLeft ids routes) ps → HaveRows ids ps
  left_rows ps all = all_under (IsLeft ids routes) (λ p. AreCallersOf ids p.row.items) (λ p l. l.of) ps all

  pub left_works : (ps : List (Guest L T)) → AllByRecursion (IsLeft ids routes) ps → AllByRecursion (λ (p : Guest L T). AreRoutedIn routes p.work) ps
  left_works ps all = all_under (IsLeft ids routes) (λ (p : Guest L T). AreRoutedIn routes p.work) (λ p l. l.routed) ps all

  -- a row is as long as the main callers are many
  pub rows_long : (mains : List Knowledge) (ps : List (Guest L T)) → AreCallersOf ids mains → HaveRows ids ps → AllByRecursion (λ (p : Guest L T). 0 + length mains ≤ length p.row.items) ps
  rows_long mains ps of rows = all_under (λ p. AreCallersOf ids p.row.items) (λ (p : Guest L T). 0 + length mains ≤ length p.row.items)
      (λ p row. let a = pair_long (λ (id : SharedId) (k : Knowledge). k.of ≡ id) ids mains of in let b = pair_long (λ (id : SharedId) (k : Knowledge). k.of ≡ id) ids p.row.items row in omega arith) ps rows

  pub rows_placed : (ps : List (Guest L T)) → HaveRows ids ps → AllByRecursion (IsRow ids) ps
  rows_placed ps rows = all_under (λ p. AreCallersOf ids p.row.items) (IsRow ids) (λ p row. row_placed [] ids p.row.items row) ps rows

  pub swapped_works : (slot : ℕ) (ms : List Knowledge) (ps : List (Guest L T)) (ns : List Knowledge) (qs : List (Guest L T)) → Swapped slot ms ps ns qs → AllByRecursion (λ (p : Guest L T). AreRoutedIn routes p.work) ps → AllByRecursion (λ (p : Guest L T). AreRoutedIn routes p.work) qs
  swapped_works slot [] [] [] [] s all = tt
  swapped_works slot [] [] [] (q ∷ qs) s all = absurd s
  swapped_works slot [] [] (n ∷ ns) qs s all = absurd s
  swapped_works slot [] (p ∷ ps) ns qs s all = absurd s
  swapped_works slot (m ∷ ms) [] ns qs s all = absurd s
  swapped_works slot (m ∷ ms) (p ∷ ps) [] qs s all = absurd s
  swapped_works slot (m ∷ ms) (p ∷ ps) (n ∷ ns) [] s all = absurd s
  swapped_works slot (m ∷ ms) (p ∷ ps) (n ∷ ns) (q ∷ qs) s all = (subst (AreRoutedIn routes) (sym (ap (λ (x : Guest L T). x.work) s.2)) all.0, swapped_works (slot + 1) ms ps ns qs s.3 all.1)

  pub emptied_works : (ps qs : List (Guest L T)) → Pairwise IsEmptied ps qs → AllByRecursion (λ (p : Guest L T). AreRoutedIn routes p.work) ps → AllByRecursion (λ (p : Guest L T). AreRoutedIn routes p.work) qs
  emptied_works [] [] e all = tt
  emptied_works [] (q ∷ qs) e all = absurd e
  emptied_works (p ∷ ps) [] e all = absurd e
  emptied_works (p ∷ ps) (q ∷ qs) e all = (subst (AreRoutedIn routes) (sym (ap (λ (x : Guest L T). x.work) e.0.1)) all.0, emptied_works ps qs e.1 all.1)

module _ {L T : Type 0} where
  -- the callers that close are of the connections, and so are those that the places are left with
  pub swapped_of : (before ids : List SharedId) (ms : List Knowledge) (ps : List (Guest L T)) (ns : List Knowledge) (qs : List (Guest L T)) → Swapped (length before) ms ps ns qs → AreCallersOf ids ms → HaveRows (before ++ ids) ps → AreCallersOf ids ns
  swapped_of before [] [] [] [] [] s of rows = tt
  swapped_of before [] [] [] [] (q ∷ qs) s of rows = absurd s
  swapped_of before [] [] [] (n ∷ ns) qs s of rows = absurd s
  swapped_of before [] [] (p ∷ ps) ns qs s of rows = absurd s
  swapped_of before [] (m ∷ ms) ps ns qs s of rows = absurd of
  swapped_of before (id ∷ ids) [] ps ns qs s of rows = absurd of
  swapped_of before (id ∷ ids) (m ∷ ms) [] ns qs s of rows = absurd s
  swapped_of before (id ∷ ids) (m ∷ ms) (p ∷ ps) [] qs s of rows = absurd s
  swapped_of before (id ∷ ids) (m ∷ ms) (p ∷ ps) (n ∷ ns) [] s of rows = absurd s
  swapped_of before (id ∷ ids) (m ∷ ms) (p ∷ ps) (n ∷ ns) (q ∷ qs) s of rows =
      let same : (before ++ id ∷ []) ++ ids ≡ before ++ id ∷ ids = append_assoc before (id ∷ []) ids in
      let long : length before + 1 ≡ length (before ++ id ∷ []) = let a = length-append before (id ∷ []) in omega arith in
      let at : slice_get (before ++ id ∷ ids) (length before) ≡ Some n.of = of_at (before ++ id ∷ ids) p.row.items (length before) n rows.0 s.0 in (
        sym (there before id ids n.of at),
        swapped_of (before ++ id ∷ []) ids ms ps ns qs (subst (λ (k : ℕ). Swapped k ms ps ns qs) long s.3) of.1 (subst (λ (xs : List SharedId). HaveRows xs ps) (sym same) rows.1),
      )
    where
      there : (before : List SharedId) (id : SharedId) (ids : List SharedId) (x : SharedId) → slice_get (before ++ id ∷ ids) (length before) ≡ Some x → id ≡ x
      there [] id ids x is = cc
      there (b ∷ before) id ids x is = there before id ids x is

  pub swapped_rows : (slot : ℕ) (ids : List SharedId) (ms : List Knowledge) (ps : List (Guest L T)) (ns : List Knowledge) (qs : List (Guest L T)) → Swapped slot ms ps ns qs
      → ((i : ℕ) (m : Knowledge) → slice_get ms i ≡ Some m → slice_get ids (slot + i) ≡ Some m.of) → HaveRows ids ps → HaveRows ids qs
  swapped_rows slot ids [] [] [] [] s of rows = tt
  swapped_rows slot ids [] [] [] (q ∷ qs) s of rows = absurd s
  swapped_rows slot ids [] [] (n ∷ ns) qs s of rows = absurd s
  swapped_rows slot ids [] (p ∷ ps) ns qs s of rows = absurd s
  swapped_rows slot ids (m ∷ ms) [] ns qs s of rows = absurd s
  swapped_rows slot ids (m ∷ ms) (p ∷ ps) [] qs s of rows = absurd s
  swapped_rows slot ids (m ∷ ms) (p ∷ ps) (n ∷ ns) [] s of rows = absurd s
  swapped_rows slot ids (m ∷ ms) (p ∷ ps) (n ∷ ns) (q ∷ qs) s of rows = (
    subst (AreCallersOf ids) (sym s.1) (of_set ids p.row.items slot m rows.0 (subst (λ (k : ℕ). slice_get ids k ≡ Some m.of) (let e : slot + 0 ≡ slot = omega arith in e) (of 0 m refl))),
    swapped_rows (slot + 1) ids ms ps ns qs s.3 (λ i k is. subst (λ (n : ℕ). slice_get ids n ≡ Some k.of) (let e : slot + suc i ≡ slot + 1 + i = omega arith in e) (of (suc i) k is)) rows.1,
  )

  pub swapped_row : (ids : List SharedId) (ms : List Knowledge) (ps : List (Guest L T)) (ns : List Knowledge) (qs : List (Guest L T)) → Swapped 0 ms ps ns qs → AreCallersOf ids ms → HaveRows ids ps → HaveRows ids qs
  swapped_row ids ms ps ns qs s of rows = swapped_rows 0 ids ms ps ns qs s (λ i m is. subst (λ (n : ℕ). slice_get ids n ≡ Some m.of) (let e : i ≡ 0 + i = omega arith in e) (of_at ids ms i m of is)) rows

  pub swapped_each : (slot : ℕ) (ms : List Knowledge) (ps : List (Guest L T)) (ns : List Knowledge) (qs : List (Guest L T)) → Swapped slot ms ps ns qs → length qs ≡ length ps
  swapped_each slot [] [] [] [] s = refl
  swapped_each slot [] [] [] (q ∷ qs) s = absurd s
  swapped_each slot [] [] (n ∷ ns) qs s = absurd s
  swapped_each slot [] (p ∷ ps) ns qs s = absurd s
  swapped_each slot (m ∷ ms) [] ns qs s = absurd s
  swapped_each slot (m ∷ ms) (p ∷ ps) [] qs s = absurd s
  swapped_each slot (m ∷ ms) (p ∷ ps) (n ∷ ns) [] s = absurd s
  swapped_each slot (m ∷ ms) (p ∷ ps) (n ∷ ns) (q ∷ qs) s = ap suc (swapped_each (slot + 1) ms ps ns qs s.3)

pub ends_of : (ids : List SharedId) (ms ns : List Knowledge) → Pairwise Ends ms ns → AreCallersOf ids ms → AreCallersOf ids ns
ends_of [] [] [] e of = tt
ends_of [] [] (n ∷ ns) e of = absurd e
ends_of [] (m ∷ ms) ns e of = absurd of
ends_of (id ∷ ids) [] ns e of = absurd of
ends_of (id ∷ ids) (m ∷ ms) [] e of = absurd e
ends_of (id ∷ ids) (m ∷ ms) (n ∷ ns) e of = (ap (λ (k : Knowledge). k.of) e.0.same ∙ of.0, ends_of ids ms ns e.1 of.1)

-- ---- the last task

module _ {L T : Type 0} (ids : List SharedId) (routes : List Listed) (ms : List Knowledge) (ps : List (Guest L T)) (c : CanEnd ids routes ms ps) where
  pub can_each : length ms ≡ length ps
  can_each = let a = pair_long (λ (id : SharedId) (k : Knowledge). k.of ≡ id) ids ms c.mains_of in let b = c.each in omega arith

  pub can_rows : AllByRecursion (λ (p : Guest L T). 0 + length ms ≤ length p.row.items) ps
  can_rows = rows_long ids routes ms ps c.mains_of (left_rows ids routes ps c.all)

  module _ (ns : List Knowledge) (qs : List (Guest L T)) (s : Swapped 0 ms ps ns qs) where
    pub own_of : AreCallersOf ids ns
    own_of = swapped_of [] ids ms ps ns qs s c.mains_of (left_rows ids routes ps c.all)

    pub own_rows : AllByRecursion (IsRow ids) qs
    own_rows = rows_placed ids routes qs (swapped_row ids ms ps ns qs s c.mains_of (left_rows ids routes ps c.all))

    pub own_works : (rs : List (Guest L T)) → Pairwise IsEmptied qs rs → AllByRecursion (λ (p : Guest L T). AreRoutedIn routes p.work) rs
    own_works rs e = emptied_works ids routes qs rs e (swapped_works ids routes 0 ms ps ns qs s (left_works ids routes ps c.all))

    pub own_each : (rs : List (Guest L T)) (ks : List Knowledge) → Pairwise IsEmptied qs rs → AreCallersOf ids ks → length rs ≡ length ks
    own_each rs ks e of =
        let a = pair_long (λ (id : SharedId) (k : Knowledge). k.of ≡ id) ids ks of in
        let b = pair_long IsEmptied qs rs e in
        let d = swapped_each 0 ms ps ns qs s in
        let f = c.each in
        omega arith
