-- What the threads of a server tell, once all callers are taken in.
use Rattle.std.specs.List.{AllByRecursion}
use Rattle.std.specs.Option.{option_map}
use Rattle.std.proofs.Common.{◌≡◌, ◌≢◌, ◌<◌, ◌≤◌, ◌+◌, ◌-◌, ◌^◌, ◌∙◌, ◌⊎◌, inl, inr, ℕ, zero, suc, Bool, false, List, [], ◌∷◌, ◌++◌, length, slice_get, Option, Some, None, is_some, refl, sym, ap, subst, arith, append_assoc}
use Rattle.rs_wire.specs.declared.settings.Settings.{Settings}
use Rattle.outside.specs.Links.{Shown}
use Rattle.outside.specs.declared.net.Ask.{Ask}
use Rattle.outside.specs.declared.net.Ask.TheVariants as ask
use Rattle.tape.specs.declared.entry.Entry.{Entry}
use Rattle.session_model.specs.Legal.{Fair, Legal}
use Rattle.conn_shared.specs.Members.{Knowledge, SharedId}
use Rattle.crew.specs.Places.{Pairwise}
use Rattle.handlers.specs.Listed.{Listed}
use Rattle.workers.specs.declared.job.OpenJob.{OpenJob}
use Rattle.workers.specs.Courses.{IsNoWork}
use Rattle.workers.specs.Serving.{Serving}
use Rattle.workers.proofs.Calling.{serving_begins}
use Rattle.server.specs.Opening.{AreOf, fronts}
use Rattle.server.proofs.Places.{of_back, same_got, same_length}
use Rattle.server.specs.declared.served.Served.{Served}
use Rattle.serve_model.specs.Names.{Under}
use Rattle.serve_model.proofs.Names.{all_as}
use Rattle.serve_slots.specs.Callers.{AreCallersOf, TookIn, at_slot}
use Rattle.serve_slots.specs.Tapes.{AreToldOf, GotBackAs, IsWhole, fronts_of}
use Rattle.serve_slots.proofs.Lists.{of_at, pair_long}
use Rattle.serve_laws.specs.Knowing.{KnowsRow, KnowsWork}
use Rattle.serve_laws.specs.Serving.{AreShelved, AreTold, HasServed, accepts_of}
use Rattle.serve_laws.proofs.Taking.{under_others}
use Rattle.serve_links.specs.Callers.{IsNewCaller, lease_of, numbers}
use Rattle.serve_links.proofs.Linking.{link_known, works_at_home}
use Rattle.serve_fold.specs.Slots.{EndsSlot, jobs_in}
use Rattle.serve_fold.proofs.Joined.{joined_each, joined_first}
use Rattle.serve_ended.specs.Ended.{IsAt, LinksEnded, SlotEnded, rows_of}
use Rattle.serve_ended.proofs.Whole.{is_row, links_are, tapes_are}
use Rattle.serve_threads.specs.Asking.{repeated}
use Rattle.serve_threads.specs.Ending.{HaveCome, rows_of as callers_of}
use Rattle.serve_threads.specs.Making.{AreInOrder, HaveWorkers, working}
use Rattle.serve_threads.specs.Threads.{IsDone, IsNewCaller as IsUnused, IsReady, IsVacant}
use Rattle.serve_threads.specs.declared.guest.Guest.{Guest}
use Rattle.serve_threads.specs.declared.worker.Worker.{Worker}
use Rattle.serve_told.specs.Answers.{AreAnswered, GoOnFrom, IsAnswered}
use Rattle.serve_told.specs.Links.{answers_of, lacks_memory, links_of, some_lack}
use Rattle.serve_told.specs.Told.{Tells}
use Rattle.serve_told.proofs.Ending.{HasWorked, SlotEnds, all_worked, slot_ends, working_at, works_at}
use Rattle.serve_told.proofs.Lists.{all_at, all_from, got, pair_at, same_in, within}
use Rattle.serve_told.proofs.Own.{begins, front_of, legal_earlier, none_in, number_of, same_or_not}
use Rattle.serve_told.proofs.Places.{WasLeft, back_from, ended_answers, ended_lack, ended_links, few_links, had_memory, is_new, lack_at, left_at, left_long, order_at, row_at, row_from, rows_long}

-- ---- settings

settings_at : (g : Settings) (ids : List SharedId) (ks : List Knowledge) (i : ℕ) (id : SharedId) → AreOf g ids ks → slice_get ids i ≡ Some id → id.settings ≡ g
settings_at g [] [] i id of is = absurd (cc)
settings_at g [] (k ∷ ks) i id of is = absurd of
settings_at g (x ∷ ids) [] i id of is = absurd of
settings_at g (x ∷ ids) (k ∷ ks) zero id of is = let e : x ≡ id = cc in sym (ap (λ (y : SharedId). y.settings) e) ∙ of.1
settings_at g (x ∷ ids) (k ∷ ks) (suc i) id of is = settings_at g ids ks i id of.2 is

-- the list went on until the slot had ended
slot_on : (helps : Bool) (own : Knowledge) (others workers : List Knowledge) (mid closed rest last : Knowledge) → EndsSlot helps own others workers mid closed rest last → (more : List Entry) × (last.front ≡ more ++ mid.front)
slot_on helps own others workers mid closed rest last e =
    let on = joined_first rest workers last e.worked in (
      on.0 ++ (e.serves.more ++ e.closes.more),
      on.1 ∙ (ap (λ (l : List Entry). on.0 ++ l) (e.serves.on ∙ (ap (λ (l : List Entry). e.serves.more ++ l) e.closes.on ∙ sym (append_assoc e.serves.more e.closes.more mid.front))) ∙ sym (append_assoc on.0 (e.serves.more ++ e.closes.more) mid.front)),
    )

-- ---- tapes

fronts_same : (lasts : List Knowledge) → fronts_of lasts ≡ fronts lasts
fronts_same [] = refl
fronts_same (k ∷ lasts) = ap (λ (l : List (List Entry)). k.front ∷ l) (fronts_same lasts)

fronts_long : (lasts : List Knowledge) → length (fronts lasts) ≡ length lasts
fronts_long [] = refl
fronts_long (k ∷ lasts) = ap suc (fronts_long lasts)

-- a tape is what the last caller of its slot has seen
last_at : (lasts : List Knowledge) (i : ℕ) (past : List Entry) → slice_get (fronts lasts) i ≡ Some past → (k : Knowledge) × (slice_get lasts i ≡ Some k) × (past ≡ k.front)
last_at [] i past is = absurd (cc)
last_at (k ∷ lasts) zero past is = (k, refl, cc)
last_at (k ∷ lasts) (suc i) past is = last_at lasts i past is

all_on : (row : List Knowledge) (tapes : List (List Entry)) → length row ≡ length tapes
    → ((i : ℕ) (c : Knowledge) (past : List Entry) → slice_get row i ≡ Some c → slice_get tapes i ≡ Some past → (more : List Entry) × (past ≡ more ++ c.front)) → GoOnFrom row tapes
all_on [] [] same each = tt
all_on [] (past ∷ tapes) same each = absurd (omega (arith, same))
all_on (c ∷ row) [] same each = absurd (omega (arith, same))
all_on (c ∷ row) (past ∷ tapes) same each = (each 0 c past refl refl, all_on row tapes (omega (arith, same)) (λ i d rest at is. each (suc i) d rest at is))

-- ---- all of it

module _ {N L T : Type 0} (shown : L → Shown) (g : Settings) (ids : List SharedId) (moments : Option (List ℕ)) (grant : Option ℕ) (routes : List Listed) (asked : N → Option (List Ask)) (back : N → Option (List Shown)) (out faults : N → ℕ) (ws : Bool)
    (n m : N) (mains : List Knowledge) (places : List (Guest L T)) (mains' : List Knowledge) (places' : List (Guest L T)) (workers workers' : List (Worker T)) (lasts : List Knowledge)
    (unused : AllByRecursion IsUnused mains) (vacant : AllByRecursion (IsVacant g ids) places) (each : length places ≡ length ids) (order : AreInOrder 0 places)
    (ready : AllByRecursion (IsReady g ids) workers) (have : HaveWorkers (length ids) workers)
    (come : HaveCome shown g moments grant routes asked back out faults ws n m mains places mains' places') (done : Pairwise (IsDone g routes) workers workers')
    (took : TookIn mains' (working workers') lasts) (of : AreCallersOf ids lasts) (memory : some_lack places' ≡ false) (whole : AllByRecursion IsWhole lasts) where
  left_each : length come.left ≡ length ids
  left_each = left_long shown g ids moments grant routes asked back out faults ws n m places come.left vacant come.served ∙ each

  lasts_each : length lasts ≡ length ids
  lasts_each = sym (pair_long (λ (id : SharedId) (k : Knowledge). k.of ≡ id) ids lasts of)

  -- a place, before and after its link
  record LeftAt (k : ℕ) (q : Guest L T) : Type 0 where
    p : Guest L T
    was : slice_get places k ≡ Some p
    vacant_is : IsVacant g ids p
    slot : p.slot ≡ k
    how : WasLeft shown g moments grant routes (links_of shown come.left) (answers_of come.left) k p q
    had : lacks_memory q ≡ false

  place : (k : ℕ) (q : Guest L T) → slice_get come.left k ≡ Some q → LeftAt k q
  place k q is =
      let h = left_at shown g ids moments grant routes asked back out faults ws n m places come.left vacant come.served k q is in
      record {
        p = h.0;
        was = h.1;
        vacant_is = all_at (IsVacant g ids) places k h.0 vacant h.1;
        slot = order_at 0 places k h.0 order h.1 ∙ omega arith;
        how = h.2;
        had = lack_at come.left k q (sym (ended_lack routes mains come.left mains' places' come.ended) ∙ memory) is;
      }

  row_long : (k : ℕ) (q : Guest L T) → slice_get come.left k ≡ Some q → length q.row.items ≡ length ids
  row_long k q is = let l = place k q is in by l.p l.vacant_is l.how
    where
      by : (p : Guest L T) → IsVacant g ids p → WasLeft shown g moments grant routes (links_of shown come.left) (answers_of come.left) k p q → length q.row.items ≡ length ids
      by p v (inl s) = same_length g ids q.row.items (of_back g ids p.row.items q.row.items v.of s.0.back)
      by p v (inr s) = ap (λ r. length r.items) s.1 ∙ same_length g ids p.row.items v.of

  -- ---- the slots

  fits : (i : ℕ) (last : Knowledge) → slice_get lasts i ≡ Some last → i < length ids
  fits i last is = within ids i last.of (of_at ids lasts i last of is)

  slot : (i : ℕ) (last : Knowledge) → slice_get lasts i ≡ Some last → SlotEnds routes (length ids) mains come.left workers' i last
  slot i last is = slot_ends routes (length ids) mains come.left mains' places' workers' lasts come.ended took left_each row_long i last (fits i last is) is

  settings : (i : ℕ) (last : Knowledge) → slice_get lasts i ≡ Some last → last.of.settings ≡ g
  settings i last is =
      let s = slot i last is in
      let l = place i s.place s.place_is in
      settings_at g ids l.p.row.items i last.of l.vacant_is.of (of_at ids lasts i last of is)

  legal : (i : ℕ) (last : Knowledge) → slice_get lasts i ≡ Some last → Legal g last.front
  legal i last is = subst (λ (s : Settings). Legal s last.front) (settings i last is) (all_at IsWhole lasts i last whole is).legal

  -- the tape of a slot went on from what each caller had seen when it was taken in
  goes_on : (k i : ℕ) (c last : Knowledge) → IsAt (callers_of come.left) k i c → slice_get lasts i ≡ Some last → (more : List Entry) × (last.front ≡ more ++ c.front)
  goes_on k i c last at is = by (slot i last is) (same_or_not k i)
    where
      placed : (s : SlotEnds routes (length ids) mains come.left workers' i last) → k ≡ i → slice_get s.place.row.items i ≡ Some c
      placed s here =
          let row : slice_get (callers_of come.left) i ≡ Some at.0 = subst (λ (j : ℕ). slice_get (callers_of come.left) j ≡ Some at.0) here at.1 in
          let e : s.place.row.items ≡ at.0 = same_in s.place.row.items at.0 (slice_get (callers_of come.left) i) (row_at come.left i s.place s.place_is) row in
          subst (λ (l : List Knowledge). slice_get l i ≡ Some c) (sym e) at.2

      mid_on : (s : SlotEnds routes (length ids) mains come.left workers' i last) → (more : List Entry) × (last.front ≡ more ++ s.mid.front)
      mid_on s = slot_on (is_some s.place.work) s.own s.others (at_slot i (working workers')) s.mid s.closed s.rest last s.ends

      both : (mid : List Entry) (on : (more : List Entry) × (last.front ≡ more ++ mid)) (more : List Entry) → mid ≡ more ++ c.front → (all : List Entry) × (last.front ≡ all ++ c.front)
      both mid on more follows = (on.0 ++ more, on.1 ∙ (ap (λ (l : List Entry). on.0 ++ l) follows ∙ sym (append_assoc on.0 more c.front)))

      by : SlotEnds routes (length ids) mains come.left workers' i last → (k ≡ i) ⊎ (k ≢ i) → (more : List Entry) × (last.front ≡ more ++ c.front)
      by s (inl here) =
          let e : c ≡ s.own = same_got c s.own (slice_get s.place.row.items i) (placed s here) s.own_is in
          let follows = joined_first s.own s.others s.mid s.ends.took in
          both s.mid.front (mid_on s) follows.0 (follows.1 ∙ ap (λ (x : Knowledge). follows.0 ++ x.front) (sym e))
      by s (inr apart) =
          let follows = joined_each s.own s.others s.mid k c s.ends.took (s.all_in k c apart at) in
          both s.mid.front (mid_on s) follows.0 follows.1

  -- so it is legal
  legal_of : (k i : ℕ) (c : Knowledge) → IsAt (callers_of come.left) k i c → Legal g c.front
  legal_of k i c at =
      let r = row_from come.left k at.0 at.1 in
      let few : i < length lasts = (let a = within at.0 i c at.2 in let b : length r.0.row.items ≡ length at.0 = ap length r.2 in let d = row_long k r.0 r.1 in let e = lasts_each in omega (arith, a, b, d, e)) in
      let last = got lasts i few in
      let on = goes_on k i c last.0 at last.1 in
      legal_earlier g on.0 c.front (subst (Legal g) on.1 (legal i last.0 last.1))

  -- ---- the links

  all_legal : (k : ℕ) (q : Guest L T) → slice_get come.left k ≡ Some q → AllByRecursion (λ (me : Knowledge). Legal g me.front) q.row.items
  all_legal k q is = all_from (λ (me : Knowledge). Legal g me.front) q.row.items (λ i c at. legal_of k i c (q.row.items, row_at come.left k q is, at))

  fresh : (p : Guest L T) → IsVacant g ids p → AllByRecursion IsNewCaller p.row.items
  fresh p v = all_as IsUnused IsNewCaller is_new p.row.items v.callers

  link_at : (k : ℕ) (q : Guest L T) (link : Shown) → slice_get come.left k ≡ Some q → slice_get (links_of shown come.left) k ≡ Some link → KnowsRow g moments (lease_of grant) k (numbers q.row.items) (fronts q.row.items) link
  link_at k q link is came = let l = place k q is in by l.p l.vacant_is l.slot l.had l.how
    where
      by : (p : Guest L T) → IsVacant g ids p → p.slot ≡ k → lacks_memory q ≡ false → WasLeft shown g moments grant routes (links_of shown come.left) (answers_of come.left) k p q → KnowsRow g moments (lease_of grant) k (numbers q.row.items) (fronts q.row.items) link
      by p v slot had (inl s) =
          let same : shown s.0.link ≡ link = same_in (shown s.0.link) link (slice_get (links_of shown come.left) k) s.1 came in
          subst (λ (x : Shown). KnowsRow g moments (lease_of grant) k (numbers q.row.items) (fronts q.row.items) x) same
          (subst (λ (j : ℕ). KnowsRow g moments (lease_of grant) j (numbers q.row.items) (fronts q.row.items) (shown s.0.link)) slot
          (link_known g moments (is_some p.work) grant p.slot p.row.items q.row.items (shown s.0.link) s.0.outcome.0 s.0.outcome.1 (fresh p v) s.0.back (had_memory q s.0.outcome had s.0.answer_is) s.0.added s.0.carried s.0.left s.0.unopened))
      by p v slot had (inr s) = absurd (let both : Some link ≡ None = sym came ∙ s.0 in cc)

  vacant_at : (k : ℕ) (q : Guest L T) → slice_get come.left k ≡ Some q → slice_get (links_of shown come.left) k ≡ None → AllByRecursion IsNewCaller q.row.items
  vacant_at k q is none = let l = place k q is in by l.p l.vacant_is l.how
    where
      by : (p : Guest L T) → IsVacant g ids p → WasLeft shown g moments grant routes (links_of shown come.left) (answers_of come.left) k p q → AllByRecursion IsNewCaller q.row.items
      by p v (inl s) = absurd (let both : None ≡ Some (shown s.0.link) = sym none ∙ s.1 in cc)
      by p v (inr s) = subst (λ r. AllByRecursion IsNewCaller r.items) (sym s.1) (fresh p v)

  named_at : (k i : ℕ) (q : Guest L T) (c : Knowledge) → slice_get come.left k ≡ Some q → slice_get q.row.items i ≡ Some c → c.names ≡ c.number ∷ []
  named_at k i q c is at = let l = place k q is in by l.p l.vacant_is l.how
    where
      by : (p : Guest L T) → IsVacant g ids p → WasLeft shown g moments grant routes (links_of shown come.left) (answers_of come.left) k p q → c.names ≡ c.number ∷ []
      by p v (inl s) =
          let o = back_from p.row.items q.row.items i c s.0.back at in
          ap (λ (x : Knowledge). x.names) o.2 ∙ ((all_at IsUnused p.row.items i o.0 v.callers o.1).names ∙ ap (λ (x : Knowledge). x.number ∷ []) (sym o.2))
      by p v (inr s) = (all_at IsUnused p.row.items i c v.callers (subst (λ r. slice_get r.items i ≡ Some c) s.1 at)).names

  idle_at : (k i : ℕ) (q : Guest L T) (c : Knowledge) → k ≢ i → slice_get come.left k ≡ Some q → slice_get q.row.items i ≡ Some c → Under c.names (λ x. IsNoWork x.event) c.front
  idle_at k i q c apart is at = let l = place k q is in by l.p l.vacant_is l.slot l.had l.how
    where
      by : (p : Guest L T) → IsVacant g ids p → p.slot ≡ k → lacks_memory q ≡ false → WasLeft shown g moments grant routes (links_of shown come.left) (answers_of come.left) k p q → Under c.names (λ x. IsNoWork x.event) c.front
      by p v slot had (inl s) =
          subst (λ (ns : List ℕ). Under ns (λ x. IsNoWork x.event) c.front) (sym (named_at k i q c is at))
          (works_at_home g moments (is_some p.work) grant p.slot p.row.items q.row.items (shown s.0.link) s.0.outcome.0 (fresh p v) s.0.back (all_legal k q is) v.works (had_memory q s.0.outcome had s.0.answer_is) s.0.outcome.1 s.0.added
          i c.number c.front (λ works same. apart (sym (same ∙ slot))) (number_of q.row.items i c at) (front_of q.row.items i c at))
      by p v slot had (inr s) =
          let u = all_at IsUnused p.row.items i c v.callers (subst (λ r. slice_get r.items i ≡ Some c) s.1 at) in
          under_others (λ x. IsNoWork x.event) c.names c.front (is_new c u).1

  links_ended : LinksEnded g moments (lease_of grant) (length ids) (callers_of come.left) (links_of shown come.left)
  links_ended = record {
    each = rows_long come.left ∙ left_each;
    rows = λ k row is. let r = row_from come.left k row is in ap length (sym r.2) ∙ row_long k r.0 r.1;
    few = let a = few_links shown come.left in let b = left_each in omega (arith, a, b);
    served = λ k row link is came.
        let r = row_from come.left k row is in
        subst (λ (l : List Knowledge). KnowsRow g moments (lease_of grant) k (numbers l) (fronts l) link) r.2 (link_at k r.0 link r.1 came);
    vacant = λ k row is none. let r = row_from come.left k row is in subst (AllByRecursion IsNewCaller) r.2 (vacant_at k r.0 r.1 none);
    named = λ k i c at. let r = row_from come.left k at.0 at.1 in named_at k i r.0 c r.1 (subst (λ (l : List Knowledge). slice_get l i ≡ Some c) (sym r.2) at.2);
    idle = λ k i c apart at. let r = row_from come.left k at.0 at.1 in idle_at k i r.0 c apart r.1 (subst (λ (l : List Knowledge). slice_get l i ≡ Some c) (sym r.2) at.2);
  }

  -- ---- the answers

  go_on : (k : ℕ) (q : Guest L T) → slice_get come.left k ≡ Some q → GoOnFrom q.row.items (fronts lasts)
  go_on k q is = all_on q.row.items (fronts lasts) (row_long k q is ∙ sym (fronts_long lasts ∙ lasts_each)) (λ i c past at tape.
      let l = last_at lasts i past tape in
      let on = goes_on k i c l.0 (q.row.items, row_at come.left k q is, at) l.1 in (on.0, l.2 ∙ on.1))

  answered_at : (k : ℕ) (row : List ℕ) (link : Shown) (said : Served) → slice_get (rows_of (links_of shown come.left) (callers_of come.left)) k ≡ Some row → slice_get (links_of shown come.left) k ≡ Some link
      → slice_get (answers_of come.left) k ≡ Some said → IsAnswered g moments grant (fronts lasts) k row link said
  answered_at k row link said named came told =
      let few : k < length come.left = (let a = within (links_of shown come.left) k link came in let b = few_links shown come.left in omega (arith, a, b)) in
      let q = got come.left k few in
      let l = place k q.0 q.1 in
      by q.0 q.1 l.p l.vacant_is l.slot l.had l.how
    where
      by : (q : Guest L T) → slice_get come.left k ≡ Some q → (p : Guest L T) → IsVacant g ids p → p.slot ≡ k → lacks_memory q ≡ false → WasLeft shown g moments grant routes (links_of shown come.left) (answers_of come.left) k p q
          → IsAnswered g moments grant (fronts lasts) k row link said
      by q is p v slot had (inl s) =
          let same : shown s.0.link ≡ link = same_in (shown s.0.link) link (slice_get (links_of shown come.left) k) s.1 came in
          let says : s.0.outcome.0 ≡ said = same_in s.0.outcome.0 said (slice_get (answers_of come.left) k) s.2 told in
          let numbered : numbers q.row.items ≡ row = same_in (numbers q.row.items) row (slice_get (rows_of (links_of shown come.left) (callers_of come.left)) k) (is_row (links_of shown come.left) (callers_of come.left) k link q.row.items came (row_at come.left k q is)) named in
          subst (λ (x : Shown). IsAnswered g moments grant (fronts lasts) k row x said) same
          (subst (λ (y : Served). IsAnswered g moments grant (fronts lasts) k row (shown s.0.link) y) says
          (subst (λ (j : ℕ). IsAnswered g moments grant (fronts lasts) j row (shown s.0.link) s.0.outcome.0) slot (record {
            opened = s.0.outcome.1;
            olds = p.row.items;
            news = q.row.items;
            new = fresh p v;
            back = s.0.back;
            named = numbered;
            on = go_on k q is;
            helps = is_some p.work;
            added = s.0.added;
            cause = s.0.cause;
            memory = had_memory q s.0.outcome had s.0.answer_is;
          })))
      by q is p v slot had (inr s) = absurd (let both : Some link ≡ None = sym came ∙ s.0 in cc)

  -- ---- the jobs of a slot

  begun : (i : ℕ) (q : Guest L T) (c : Knowledge) → slice_get come.left i ≡ Some q → slice_get q.row.items i ≡ Some c → Serving c.names c.front routes (jobs_in q.work)
  begun i q c is at = let l = place i q is in by l.p l.vacant_is l.slot l.had l.how
    where
      by : (p : Guest L T) → IsVacant g ids p → p.slot ≡ i → lacks_memory q ≡ false → WasLeft shown g moments grant routes (links_of shown come.left) (answers_of come.left) i p q → Serving c.names c.front routes (jobs_in q.work)
      by p v slot had (inl s) =
          begins g moments grant routes p.slot p.row.items q.row.items (shown s.0.link) s.0.outcome.0 (fresh p v) s.0.back (all_legal i q is) (had_memory q s.0.outcome had s.0.answer_is) c (subst (λ (j : ℕ). slice_get q.row.items j ≡ Some c) (sym slot) at)
          s.0.outcome.1 p.work q.work s.0.added s.0.work v.idle v.works
      by p v slot had (inr s) =
          let u = all_at IsUnused p.row.items i c v.callers (subst (λ r. slice_get r.items i ≡ Some c) s.1 at) in
          let none : jobs_in q.work ≡ [] = ap jobs_in s.2 ∙ none_in p.work v.idle in
          subst (λ (w : List OpenJob). Serving c.names c.front routes w) (sym none) (serving_begins c.names c.front routes (is_new c u).1)

  worked : (i : ℕ) → AllByRecursion (HasWorked g routes) (at_slot i (working workers'))
  worked i = working_at (HasWorked g routes) i workers' (all_worked g ids routes workers workers' ready done)

  a_worker : (i : ℕ) → i < length ids → (k : Knowledge) × (slice_get (at_slot i (working workers')) 0 ≡ Some k)
  a_worker i lt =
      let h = have i lt in
      let w = pair_at (IsDone g routes) workers workers' h.place h.worker done h.is in
      got (at_slot i (working workers')) 0 (works_at i workers' h.place w.0 w.1 (w.2.slot ∙ h.at))

  slot_ended : (i : ℕ) (last : Knowledge) → slice_get lasts i ≡ Some last → SlotEnded g routes (callers_of come.left) i last
  slot_ended i last is =
      let s = slot i last is in
      let w = all_at IsWhole lasts i last whole is in
      let a = a_worker i (fits i last is) in
      record {
        helps = is_some s.place.work;
        own = s.own;
        main = s.main;
        others = s.others;
        workers = at_slot i (working workers');
        mid = s.mid;
        closed = s.closed;
        rest = s.rest;
        ends = s.ends;
        own_is = (s.place.row.items, row_at come.left i s.place s.place_is, s.own_is);
        new = is_new s.main (all_at IsUnused mains i s.main unused s.main_is);
        others_are = s.others_are;
        all_in = s.all_in;
        legal = legal i last is;
        fair = subst (λ (x : Settings). Fair x last.front) (settings i last is) w.fair;
        named = w.named;
        was = s.place.work;
        now = s.over;
        helped = refl;
        keeps = s.keeps;
        empty = s.empty;
        begun = begun i s.place s.own s.place_is s.own_is;
        work = all_as (HasWorked g routes) (λ (k : Knowledge). KnowsWork routes k.names k.front) (λ k h. h.0) (at_slot i (working workers')) (worked i);
        place = 0;
        worker = a.0;
        is = a.1;
        no_more = (all_at (HasWorked g routes) (at_slot i (working workers')) 0 a.0 (worked i) a.1).1;
      }

  pub told : Tells g moments grant routes (links_of shown places') (answers_of places') lasts
  told = subst (λ (l : List Shown). Tells g moments grant routes l (answers_of places') lasts) (sym (ended_links routes mains come.left mains' places' come.ended shown))
      (subst (λ (a : List Served). Tells g moments grant routes (links_of shown come.left) a lasts) (sym (ended_answers routes mains come.left mains' places' come.ended)) (record {
        rows = rows_of (links_of shown come.left) (callers_of come.left);
        tapes = tapes_are g moments (lease_of grant) routes (length ids) (callers_of come.left) (links_of shown come.left) lasts links_ended lasts_each slot_ended;
        linked = links_are g moments (lease_of grant) routes (length ids) (callers_of come.left) (links_of shown come.left) lasts links_ended lasts_each slot_ended;
        answered = λ k row link said. answered_at k row link said;
      }))

-- ---- the shelf and the net

told_same : (tapes : List (List Entry)) (shown : List (Option (List Entry))) → AreToldOf tapes shown → AreTold tapes shown
told_same [] [] t = tt
told_same [] (x ∷ shown) t = absurd t
told_same (past ∷ tapes) [] t = absurd t
told_same (past ∷ tapes) (x ∷ shown) t = (t.0, told_same tapes shown t.1)

shelved : (tapes : List (List Entry)) (old new : List (Option (List Entry))) → GotBackAs tapes old new → AreShelved tapes old new
shelved tapes old new b = record { shown = b.shown; back = b.back; told = told_same tapes b.shown b.told }

accepts_same : (ws : Bool) (k : ℕ) → repeated k (ask.Accept ws) ≡ accepts_of ws k
accepts_same ws zero = refl
accepts_same ws (suc k) = ap (λ (l : List Ask). ask.Accept ws ∷ l) (accepts_same ws k)

pub served : (g : Settings) (moments : Option (List ℕ)) (grant : Option ℕ) (ws : Bool) (many : ℕ) (routes : List Listed) (links : List Shown) (answers : List Served) (lasts : List Knowledge) (shelf shelf' : List (Option (List Entry)))
    (asked asked' : Option (List Ask)) (back back' : Option (List Shown)) (out out' : ℕ) → Tells g moments grant routes links answers lasts → length lasts ≡ many → GotBackAs (fronts_of lasts) shelf shelf'
    → (accepts : ℕ) → (length links ≤ accepts) × (accepts ≤ many) → asked' ≡ option_map (λ (was : List Ask). was ++ repeated accepts (ask.Accept ws)) asked
    → back' ≡ option_map (λ (was : List Shown). was ++ links) back → (out' ≡ out) ⊎ (2 ^ 64 - 1 ≤ out + many)
    → (has : HasServed g (lease_of grant) ws many routes moments links shelf shelf' asked asked' back back' out out') × AreAnswered g moments grant has.tapes has.rows links answers
served g moments grant ws many routes links answers lasts shelf shelf' asked asked' back back' out out' tells each got accepts few asks got_back out_is = (
  record {
    tapes = fronts lasts;
    each = fronts_long lasts ∙ each;
    shelved = shelved (fronts lasts) shelf shelf' (subst (λ (l : List (List Entry)). GotBackAs l shelf shelf') (fronts_same lasts) got);
    accepts = accepts;
    few = few;
    asks = asks ∙ ap (λ (l : List Ask). option_map (λ (was : List Ask). was ++ l) asked) (accepts_same ws accepts);
    got_back = got_back;
    out_is = out_is;
    rows = tells.rows;
    lawful = tells.tapes;
    linked = tells.linked;
  },
  tells.answered,
)
