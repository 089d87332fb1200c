-- What is made before any thread begins.
use Rattle.std.specs.List.{AllByRecursion}
use Rattle.std.proofs.lemmas.Bool.{cases_lt}
use Rattle.std.proofs.Common.{◌≡◌, ◌⊎◌, inl, inr, ◌<◌, ◌≤◌, ◌+◌, ◌∙◌, ℕ, zero, suc, true, false, List, [], ◌∷◌, ◌++◌, length, set, get_or, Option, Some, None, slice_get, IfSome, is_some, refl, sym, ap, subst, arith, append_assoc, append-nil}
use Rattle.rs_wire.specs.declared.settings.Settings.{Settings}
use Rattle.rs_wire.specs.declared.words.Side.TheVariants.{Server}
use Rattle.conn_lock.specs.Callers.{calls, times}
use Rattle.conn_shared.specs.Lines.{who_of}
use Rattle.conn_shared.specs.Members.{Knowledge, SharedId, first_member}
use Rattle.handlers.specs.Listed.{Listed}
use Rattle.workers.specs.declared.job.OpenJob.{OpenJob}
use Rattle.workers.specs.Serving.{AreRouted}
use Rattle.server.specs.Attending.{AreRoutedIn}
use Rattle.server.specs.Opening.{AreOf}
use Rattle.serve_slots.specs.Callers.{AreCallersOf, AreFirst, AreSplit, HaveAll, HaveSettings, IsAtSlot, IsSplit, IsUnsplit, Placed, all_placed, parts_at, parts_if, placed}
use Rattle.serve_slots.proofs.Lists.{all_append, all_first, all_second, got_at, got_or, long_set, of_at, of_set, pair_long, split_long, split_placed, split_row_of}
use Rattle.serve_slots.proofs.Parts.{first_all, held_append, held_row, parts_set, split_parts}
use Rattle.serve_threads.specs.Ending.{rows_of}
use Rattle.serve_threads.specs.Making.{AreInOrder, AreMade, HasWorkerAt, HaveWorkers, working}
use Rattle.serve_threads.specs.Threads.{IsNewCaller, IsReady, IsVacant}
use Rattle.serve_threads.specs.declared.guest.Guest.{Guest}
use Rattle.serve_threads.specs.declared.worker.Worker.{Worker}

-- the last worker is the first that is taken in
pub working_snoc : {T : Type 0} (ws : List (Worker T)) (w : Worker T) → working (ws ++ w ∷ []) ≡ (w.slot, w.caller) ∷ working ws
working_snoc [] w = refl
working_snoc (v ∷ ws) w = ap (λ (l : List Placed). l ++ (v.slot, v.caller) ∷ []) (working_snoc ws w)

pub rows_snoc : {L T : Type 0} (ps : List (Guest L T)) (p : Guest L T) → all_placed (rows_of (ps ++ p ∷ [])) ≡ all_placed (rows_of ps) ++ placed 0 p.row.items
rows_snoc [] p = append-nil (placed 0 p.row.items)
rows_snoc (q ∷ ps) p = ap (λ (l : List Placed). placed 0 q.row.items ++ l) (rows_snoc ps p) ∙ sym (append_assoc (placed 0 q.row.items) (all_placed (rows_of ps)) (placed 0 p.row.items))

pub order_snoc : {L T : Type 0} (slot : ℕ) (ps : List (Guest L T)) (p : Guest L T) → AreInOrder slot ps → p.slot ≡ slot + length ps → AreInOrder slot (ps ++ p ∷ [])
order_snoc slot [] p order is = (omega (arith, is), tt)
order_snoc slot (q ∷ ps) p order is = (order.0, order_snoc (slot + 1) ps p order.1 (omega (arith, is)))

-- a main caller that has done nothing, of whose parts some are gone
kept_new : (m n : Knowledge) (parts found : ℕ) → n ≡ record m { parts = parts; found = found } → IsNewCaller m → IsNewCaller n
kept_new m n parts found same h = subst IsNewCaller (sym same) (record { front = h.front; names = h.names })

-- those from which a row was split off are new still
pub split_new : (olds row news : List Knowledge) → AreSplit olds row news → AllByRecursion IsNewCaller olds → AllByRecursion IsNewCaller news
split_new [] [] [] s h = tt
split_new [] [] (n ∷ news) s h = absurd s
split_new [] (k ∷ row) news s h = absurd s
split_new (m ∷ olds) [] [] s h = absurd s
split_new (m ∷ olds) (k ∷ row) [] s h = absurd s
split_new (m ∷ olds) [] (n ∷ news) s h = (kept_new m n m.parts n.found s.0 h.0, split_new olds [] news s.1 h.1)
split_new (m ∷ olds) (k ∷ row) (n ∷ news) s h = (kept_new m n n.parts n.found s.0.same h.0, split_new olds row news s.1 h.1)

pub new_caller : (m k n : Knowledge) → IsSplit m k n → IsNewCaller m → IsNewCaller k
new_caller m k n s h = record { front = ap (λ (x : Knowledge). x.front) s.other_is ∙ h.front; names = let a = ap (λ (x : Knowledge). x.names) s.other_is in a }

-- each that is split off is new
pub new_callers : (olds row news : List Knowledge) → AreSplit olds row news → AllByRecursion IsNewCaller olds → AllByRecursion IsNewCaller row
new_callers [] [] [] s h = tt
new_callers [] [] (n ∷ news) s h = tt
new_callers [] (k ∷ row) news s h = absurd s
new_callers (m ∷ olds) [] news s h = tt
new_callers (m ∷ olds) (k ∷ row) [] s h = absurd s
new_callers (m ∷ olds) (k ∷ row) (n ∷ news) s h = (new_caller m k n s.0 h.0, new_callers olds row news s.1 h.1)

-- with their settings
pub of_with : (g : Settings) (ids : List SharedId) (ks : List Knowledge) → AreCallersOf ids ks → HaveSettings g ids → AreOf g ids ks
of_with g [] [] of s = tt
of_with g [] (k ∷ ks) of s = absurd of
of_with g (id ∷ ids) [] of s = absurd of
of_with g (id ∷ ids) (k ∷ ks) of s = (of.0, s.0, of_with g ids ks of.1 s.1)

pub of_without : (g : Settings) (ids : List SharedId) (ks : List Knowledge) → AreOf g ids ks → AreCallersOf ids ks
of_without g [] [] of = tt
of_without g [] (k ∷ ks) of = absurd of
of_without g (id ∷ ids) [] of = absurd of
of_without g (id ∷ ids) (k ∷ ks) of = (of.0, of_without g ids ks of.2)

-- a row was split off, which goes to the others
pub made_row : (ids : List SharedId) (olds row news : List Knowledge) (first others : List Placed) → AreCallersOf ids olds → AreSplit olds row news → AreMade ids olds (first ++ others) → AreMade ids news ((first ++ placed 0 row) ++ others)
unfolding HaveAll
made_row ids olds row news first others of s m = record {
  fronts = split_new olds row news s m.fronts;
  at = all_append (IsAtSlot ids) (first ++ placed 0 row) others
      (all_append (IsAtSlot ids) first (placed 0 row) (all_first (IsAtSlot ids) first others m.at) (split_placed [] ids olds row news s of))
      (all_second (IsAtSlot ids) first others m.at);
  all = λ i lt.
      let a = split_parts i olds row news s in
      let b = held_append i (first ++ placed 0 row) others in
      let c = held_append i first (placed 0 row) in
      let d = held_append i first others in
      let e = held_row i row in
      let f = m.all i (subst (λ (n : ℕ). i < n) (split_long olds row news s) lt) in
      omega arith;
}

-- one worker was
parts_split : (i at : ℕ) (olds : List Knowledge) (old k new : Knowledge) → slice_get olds at ≡ Some old → IsSplit old k new → parts_at i (set olds at new) + parts_if at i k.parts ≡ parts_at i olds
parts_split i at [] old k new was s = absurd (cc)
parts_split zero zero (m ∷ olds) old k new was s = let e : m ≡ old = cc in let a : m.parts ≡ old.parts = ap (λ (x : Knowledge). x.parts) e in s.parts ∙ sym a
parts_split zero (suc at) (m ∷ olds) old k new was s = omega arith
parts_split (suc i) zero (m ∷ olds) old k new was s = omega arith
parts_split (suc i) (suc at) (m ∷ olds) old k new was s = parts_split i at olds old k new was s

all_set : {A : Type 0} (P : A → Type 0) (xs : List A) (i : ℕ) (x : A) → AllByRecursion P xs → P x → AllByRecursion P (set xs i x)
all_set P [] i x all p = tt
all_set P (y ∷ xs) zero x all p = (p, all.1)
all_set P (y ∷ xs) (suc i) x all p = (all.0, all_set P xs i x all.1 p)

pub all_got : {A : Type 0} (P : A → Type 0) (xs : List A) (i : ℕ) (x : A) → AllByRecursion P xs → slice_get xs i ≡ Some x → P x
all_got P [] i x all is = absurd (cc)
all_got P (y ∷ xs) zero x all is = subst P (let e : y ≡ x = cc in e) all.0
all_got P (y ∷ xs) (suc i) x all is = all_got P xs i x all.1 is

pub made_one : (ids : List SharedId) (olds : List Knowledge) (slot : ℕ) (old k new : Knowledge) (others rest : List Placed) → AreCallersOf ids olds → slice_get olds slot ≡ Some old → IsSplit old k new → AreMade ids olds (others ++ rest) → AreMade ids (set olds slot new) (others ++ (slot, k) ∷ rest)
unfolding HaveAll
made_one ids olds slot old k new others rest of was s m = record {
  fronts = all_set IsNewCaller olds slot new m.fronts (kept_new old new new.parts new.found s.same (all_got IsNewCaller olds slot old m.fronts was));
  at = all_append (IsAtSlot ids) others ((slot, k) ∷ rest) (all_first (IsAtSlot ids) others rest m.at)
      (of_at ids olds slot old of was ∙ ap Some (sym (ap (λ (x : Knowledge). x.of) s.other_is)), all_second (IsAtSlot ids) others rest m.at);
  all = λ i lt.
      let a = parts_split i slot olds old k new was s in
      let b = held_append i others ((slot, k) ∷ rest) in
      let c = held_append i others rest in
      let d = m.all i (subst (λ (n : ℕ). i < n) (long_set olds slot new) lt) in
      omega arith;
}

pub made_first : (ids : List SharedId) (ms : List Knowledge) → AreFirst ids ms → AreMade ids ms []
made_first ids ms f = record { fronts = fronts ids ms f; at = tt; all = first_all ids ms f }
  where
    fronts : (ids : List SharedId) (ms : List Knowledge) → AreFirst ids ms → AllByRecursion IsNewCaller ms
    fronts [] [] f = tt
    fronts [] (m ∷ ms) f = absurd f
    fronts (id ∷ ids) [] f = absurd f
    fronts (id ∷ ids) (m ∷ ms) f = (subst IsNewCaller (sym f.0) (record { front = refl; names = refl }), fronts ids ms f.1)

pub settings_at : (g : Settings) (ids : List SharedId) (i : ℕ) (id : SharedId) → HaveSettings g ids → slice_get ids i ≡ Some id → id.settings ≡ g
settings_at g [] i id s is = absurd (cc)
settings_at g (x ∷ ids) zero id s is = sym (ap (λ (y : SharedId). y.settings) (let e : x ≡ id = cc in e)) ∙ s.0
settings_at g (x ∷ ids) (suc i) id s is = settings_at g ids i id s.1 is

-- nothing is made yet
pub made_at_first : {L T : Type 0} (ids : List SharedId) (ms : List Knowledge) (ps : List (Guest L T)) (ws : List (Worker T)) → AreFirst ids ms → ps ≡ [] → ws ≡ [] → AreMade ids ms (all_placed (rows_of ps) ++ working ws)
made_at_first {L = L} {T = T} ids ms ps ws first no_guests no_workers =
    subst (λ (l : List (Guest L T)). AreMade ids ms (all_placed (rows_of l) ++ working ws)) (sym no_guests)
    (subst (λ (l : List (Worker T)). AreMade ids ms (working l)) (sym no_workers) (made_first ids ms first))

-- ---- a place

pub made_guest : {L T : Type 0} (ids : List SharedId) (olds row news : List Knowledge) (ps : List (Guest L T)) (p : Guest L T) (others : List Placed) → AreCallersOf ids olds → AreSplit olds row news → p.row.items ≡ row
    → AreMade ids olds (all_placed (rows_of ps) ++ others) → AreMade ids news (all_placed (rows_of (ps ++ p ∷ [])) ++ others)
made_guest ids olds row news ps p others of s is m =
    subst (λ (l : List Placed). AreMade ids news (l ++ others)) (ap (λ (r : List Knowledge). all_placed (rows_of ps) ++ placed 0 r) (sym is) ∙ sym (rows_snoc ps p))
    (made_row ids olds row news (all_placed (rows_of ps)) others of s m)

-- a whole row makes a place at which nothing happened
pub vacant_guest : {L T : Type 0} (g : Settings) (ids : List SharedId) (olds row news : List Knowledge) (p : Guest L T) → g.side ≡ Server → HaveSettings g ids → AllByRecursion IsNewCaller olds → AreCallersOf ids olds → AreSplit olds row news
    → p.row.items ≡ row → length row ≡ length ids → p.slot < length ids → p.link ≡ None → p.missed ≡ None → p.answer ≡ None → IfSome p.work (λ work. work ≡ []) → (is_some p.work ≡ true → g.resume ≡ false) → IsVacant g ids p
vacant_guest g ids olds row news p side settings nothing of s is long slot none unmissed unanswered idle works = record {
  side = side;
  slot = slot;
  of = subst (AreOf g ids) (sym is) (of_with g ids row (split_row_of ids olds row news s of long) settings);
  callers = subst (AllByRecursion IsNewCaller) (sym is) (new_callers olds row news s nothing);
  none = none;
  unmissed = unmissed;
  unanswered = unanswered;
  idle = idle;
  works = works;
}

-- ---- a worker

-- how the caller of a slot is split
pub split_by : (old k new : Knowledge) (id : SharedId) (parts found : ℕ) → old.of ≡ id → new ≡ record old { parts = new.parts; found = new.found }
    → k ≡ record (first_member id) { number = k.number; names = k.number ∷ []; parts = parts; front = old.front; found = found } → new.parts + k.parts ≡ old.parts
    → times k.number old.names ≡ 0 → calls who_of k.number old.front ≡ 0 → IsSplit old k new
split_by old k new id parts found of same is sum fresh unused =
    let a : parts ≡ k.parts = sym (ap (λ (x : Knowledge). x.parts) is) in
    let b : found ≡ k.found = sym (ap (λ (x : Knowledge). x.found) is) in
    record {
      same = same;
      other_is = is ∙ (ap (λ (i : SharedId). record (first_member i) { number = k.number; names = k.number ∷ []; parts = parts; front = old.front; found = found }) (sym of)
          ∙ (ap (λ (n : ℕ). record (first_member old.of) { number = k.number; names = k.number ∷ []; parts = n; front = old.front; found = found }) a
          ∙ ap (λ (n : ℕ). record (first_member old.of) { number = k.number; names = k.number ∷ []; parts = k.parts; front = old.front; found = n }) b));
      parts = sum;
      fresh = fresh;
      unused = unused;
    }

-- none could be split off
pub made_none : (ids : List SharedId) (olds : List Knowledge) (slot : ℕ) (old new : Knowledge) (others : List Placed) → slice_get olds slot ≡ Some old → IsUnsplit old new → AreMade ids olds others → AreMade ids (set olds slot new) others
unfolding HaveAll
made_none ids olds slot old new others was s m = record {
  fronts = all_set IsNewCaller olds slot new m.fronts (kept_new old new old.parts new.found s (all_got IsNewCaller olds slot old m.fronts was));
  at = m.at;
  all = λ i lt.
      let a = parts_set i slot olds old new was in
      let b : parts_if slot i new.parts ≡ parts_if slot i old.parts = ap (λ (p : ℕ). parts_if slot i p) (ap (λ (x : Knowledge). x.parts) s) in
      let d = m.all i (subst (λ (n : ℕ). i < n) (long_set olds slot new) lt) in
      omega arith;
}

pub made_worker : {T : Type 0} (ids : List SharedId) (olds : List Knowledge) (slot : ℕ) (old k new : Knowledge) (others : List Placed) (ws : List (Worker T)) (w : Worker T) → AreCallersOf ids olds → slice_get olds slot ≡ Some old → IsSplit old k new
    → w.slot ≡ slot → w.caller ≡ k → AreMade ids olds (others ++ working ws) → AreMade ids (set olds slot new) (others ++ working (ws ++ w ∷ []))
made_worker ids olds slot old k new others ws w of was s at is m =
    subst (λ (l : List Placed). AreMade ids (set olds slot new) (others ++ l)) (ap (λ (n : ℕ). (n, k) ∷ working ws) (sym at) ∙ (ap (λ (x : Knowledge). (w.slot, x) ∷ working ws) (sym is) ∙ sym (working_snoc ws w)))
    (made_one ids olds slot old k new others (working ws) of was s m)

-- it is of its slot, and those before are there still
got_first : {A : Type 0} (xs ys : List A) (i : ℕ) (x : A) → slice_get xs i ≡ Some x → slice_get (xs ++ ys) i ≡ Some x
got_first [] ys i x is = absurd (cc)
got_first (z ∷ xs) ys zero x is = is
got_first (z ∷ xs) ys (suc i) x is = got_first xs ys i x is

got_last : {A : Type 0} (xs : List A) (y : A) → slice_get (xs ++ y ∷ []) (length xs) ≡ Some y
got_last [] y = refl
got_last (z ∷ xs) y = got_last xs y

pub worker_kept : {T : Type 0} (ws more : List (Worker T)) (slot : ℕ) → HasWorkerAt slot ws → HasWorkerAt slot (ws ++ more)
worker_kept ws more slot h = record { place = h.place; worker = h.worker; is = got_first ws more h.place h.worker h.is; at = h.at }

pub worker_there : {T : Type 0} (ws : List (Worker T)) (w : Worker T) → HasWorkerAt w.slot (ws ++ w ∷ [])
worker_there ws w = record { place = length ws; worker = w; is = got_last ws w; at = refl }

have_at : {T : Type 0} (many : ℕ) (ws : List (Worker T)) (slot : ℕ) → HaveWorkers many ws → HasWorkerAt many ws → slot < many + 1 → (slot < many) ⊎ (many ≤ slot) → HasWorkerAt slot ws
have_at many ws slot have one lt (inl below) = have slot below
have_at many ws slot have one lt (inr above) = subst (λ (n : ℕ). HasWorkerAt n ws) (let e : many ≡ slot = omega (arith, above, lt) in e) one

pub have_more : {T : Type 0} (many : ℕ) (ws : List (Worker T)) → HaveWorkers many ws → HasWorkerAt many ws → HaveWorkers (many + 1) ws
have_more many ws have one slot lt = have_at many ws slot have one lt (cases_lt slot many)

pub ready_worker : {T : Type 0} (g : Settings) (ids : List SharedId) (olds : List Knowledge) (slot : ℕ) (old k new : Knowledge) (w : Worker T) → HaveSettings g ids → AllByRecursion IsNewCaller olds → AreCallersOf ids olds → slice_get olds slot ≡ Some old → IsSplit old k new
    → w.slot ≡ slot → w.caller ≡ k → IsReady g ids w
ready_worker g ids olds slot old k new w settings nothing of was s at is =
    let here : slice_get ids slot ≡ Some old.of = of_at ids olds slot old of was in
    let same : w.caller.of ≡ old.of = ap (λ (x : Knowledge). x.of) (is ∙ s.other_is) in
    record {
      at = subst (λ (n : ℕ). slice_get ids n ≡ Some w.caller.of) (sym at) (here ∙ ap Some (sym same));
      settings = ap (λ (x : SharedId). x.settings) same ∙ settings_at g ids slot old.of settings here;
      new = subst IsNewCaller (sym is) (new_caller old k new s (all_got IsNewCaller olds slot old nothing was));
    }

-- the caller of a slot can be split
pub same_at : (ids : List SharedId) (ms : List Knowledge) (slot : ℕ) (id : SharedId) (d : Knowledge) → AreCallersOf ids ms → slot < length ids → get_or ids slot id ≡ id → (get_or ms slot d).of ≡ id
same_at ids ms slot id d of lt is =
    let long = pair_long (λ (x : SharedId) (k : Knowledge). k.of ≡ x) ids ms of in
    sym (got_or ids slot id (get_or ms slot d).of (of_at ids ms slot (get_or ms slot d) of (got_at ms slot d (omega arith)))) ∙ is

pub at_main : (ids : List SharedId) (ms : List Knowledge) (slot : ℕ) (d : Knowledge) → AreCallersOf ids ms → slot < length ids → slice_get ms slot ≡ Some (get_or ms slot d)
at_main ids ms slot d of lt = let long = pair_long (λ (x : SharedId) (k : Knowledge). k.of ≡ x) ids ms of in got_at ms slot d (omega arith)

-- the routes of no jobs are found
pub idle_routed : (routes : List Listed) (jobs : Option (List OpenJob)) → IfSome jobs (λ work. work ≡ []) → AreRoutedIn routes jobs
idle_routed routes None idle = tt
idle_routed routes (Some work) idle = subst (AreRouted routes) (sym idle) tt

-- the caller of a slot changes, and is of its connection still
pub of_main : (ids : List SharedId) (ms : List Knowledge) (slot : ℕ) (d n : Knowledge) → AreCallersOf ids ms → slot < length ids → n.of ≡ (get_or ms slot d).of → AreCallersOf ids (set ms slot n)
of_main ids ms slot d n of lt same = of_set ids ms slot n of (of_at ids ms slot (get_or ms slot d) of (at_main ids ms slot d of lt) ∙ ap Some (sym same))
