-- The steps of a turn keep the rule.
use Rattle.std.proofs.Common.{◌≡◌, ◌≢◌, ℕ, zero, suc, ◌+◌, ◌<◌, ◌≤◌, List, [], ◌∷◌, ◌++◌, length, set, true, false, true≢false, refl, sym, ap, ◌∙◌, subst, inl, inr, ⊎_elim, arith, eqb, append-nil, append_assoc, Some, None, unwrap_or}
use Rattle.std.specs.Prelude as std
use Rattle.std.specs.Prelude.{slice_index}
use mathlib.Core.Option.{none, some, some-injective, some-ne-none}
use prog.Atomic.{either}
use lib.ListN.{get_elem?}
use Rattle.std.proofs.lemmas.Bool.Decides.{nat_tests}
use Rattle.atomic_table.specs.Table.{State, Me, keeps, takes, gives, opening, Allows, step}
use Rattle.atomic_table.proofs.Lists.{set_here, exchanged}
use Rattle.conn_lock.specs.declared.view.View.{View}
use Rattle.conn_lock.specs.Callers.{Follows, once, times, calls}
use Rattle.conn_lock.specs.Rule.{below, IsSound, Kept, first_view, drew, passed, noted}
use Rattle.conn_lock.proofs.Totals.{total_at, calls_append, calls_other}
use Rattle.conn_lock.proofs.Changes.{within, follows, moved, refreshed, alone, other_turn, own_name, was_drawn, Goes}

module _ {S E : Type 0} (list_of : S → List E) (IsThere : S → Type 0) (number : E → ℕ) where
  -- the table at the start
  pub opened : (x : S) → IsThere x → ((y : ℕ) → 0 < y → calls number y (list_of x) ≡ 0) → Kept list_of IsThere number (opening (0 ∷ 0 ∷ 1 ∷ []) (x ∷ []) (first_view (list_of x)))
  opened x is_there all_first = record {
    ticket = 0;
    serving = 0;
    drawn = 1;
    list = list_of x;
    words = refl;
    tickets = λ y. grind (arith, nat_tests);
    names = λ y. grind (arith, nat_tests);
    parts = refl;
    few = omega arith;
    known = λ y drawn. all_first y (omega (arith, drawn));
    sound = one;
    place = inl (x, refl, refl, is_there);
  }
    where
      one : (i : ℕ) (v : View E) → get_elem? (first_view (list_of x) ∷ []) i ≡ some v → IsSound number (list_of x) 0 1 (some x ∷ []) v
      one zero v e = subst (IsSound number (list_of x) 0 1 (some x ∷ [])) (some-injective _ _ e) record {
        fits = (([], append-nil (list_of x)), λ y _. refl);
        spent = λ z. absurd (omega (arith, z));
        inside = λ t. absurd (true≢false (sym t));
        found = omega arith;
        noted = λ n h. absurd (cc);
        begun = ((list_of x, refl), λ y some_name. absurd (omega (arith, some_name)));
      }
      one (suc i) v e = absurd (some-ne-none v (sym e))

  -- the seat that has the ticket that is served takes the value out and is in its turn, as this view
  begins : (s : State S (View E)) (k : Kept list_of IsThere number s) (id : ℕ) (v : View E) → get_elem? s.views id ≡ some v → v.turn ≡ false → 0 < v.parts
      → (t : ℕ) (words tickets : List ℕ) (note : std.Option ℕ) → words ≡ t ∷ k.serving ∷ k.drawn ∷ [] → tickets ≡ k.serving ∷ []
      → ((x : ℕ) → times x tickets + below x k.serving + below x k.ticket ≡ times x v.tickets + below x k.serving + below x t)
      → ((n : ℕ) → note ≡ Some n → n ≤ k.serving) → ((i : ℕ) (u : View E) → i ≢ id → get_elem? s.views i ≡ some u → u.tickets ≡ k.serving ∷ [] → ⊥)
      → (x : S) × (get_elem? s.homes 0 ≡ some (some x)) × Follows number v.names v.front (list_of x) × IsThere x
      × Kept list_of IsThere number record { words = words; homes = set s.homes 0 none; views = set s.views id (record v { tickets = tickets; turn = true; front = list_of x; note = note; shorter = []; lesser = [] }) }
  begins s k id v at out some_part t words tickets note is served counted noted alone_has = ⊎_elim
      (λ (home : (x : S) × (s.homes ≡ some x ∷ []) × (list_of x ≡ k.list) × IsThere x).
      let x = home.0 in
      let ok = k.sound id v at in
      let w = record v { tickets = tickets; turn = true; front = list_of x; note = note; shorter = []; lesser = [] } in (
        x,
        ap (λ l. get_elem? l 0) home.1,
        follows number k.list v.names v.front (list_of x) home.2 ok.fits,
        home.3,
        moved list_of IsThere number s k id v w at t k.serving k.drawn k.list words (set s.homes 0 none) is counted (λ y. refl) refl k.few k.known
            (λ i u other e. let o = k.sound i u e in record { fits = o.fits; spent = o.spent; inside = λ turn. absurd (alone_has i u other e (o.inside turn).2); found = o.found; noted = o.noted; begun = o.begun })
            record {
              fits = (([], append-nil (list_of x) ∙ home.2), λ y _. ap (calls number y) (sym home.2));
              spent = λ z. absurd (omega (arith, some_part, z));
              inside = λ _. (ap (λ l. set l 0 none) home.1, home.2, served);
              found = ok.found;
              noted = noted;
              begun = ((list_of x, refl), λ y some_name. absurd (omega (arith, some_name)));
            }
            (inr (id, w, ap (λ l. set l 0 none) home.1, set_here s.views id w (within s.views id v at), refl)),
      ))
      (λ (away : (i : ℕ) × (u : View E) × (s.homes ≡ none ∷ []) × (get_elem? s.views i ≡ some u) × (u.turn ≡ true)).
      absurd (alone_has away.0 away.1 (other_turn s.views id away.0 v away.1 at out away.3 away.4) away.3 ((k.sound away.0 away.1 away.3).inside away.4).2))
      k.place

  -- the turn ends
  pub passes : (slots id : ℕ) (me : Me S (View E)) (x : S) → IsThere x → (t n : ℕ) (own : List E) → me.1 ≡ (0, x) ∷ [] → me.0.tickets ≡ t ∷ [] → me.0.turn ≡ true → 0 < me.0.parts → 0 < times n me.0.names → list_of x ≡ me.0.front ++ own → calls number n own ≡ length own
      → Allows (Kept list_of IsThere number) slots id me 1 (λ _. t + 1) (λ _ m. passed list_of (step slots 1 (t + 1) 0 none) me (t + 1) m)
  passes slots id me x is_there t n own has mine inside some_part named added counted =
      subst (λ (m : List (ℕ × S)). Allows (Kept list_of IsThere number) slots id (me.0, m) 1 (λ _. t + 1) (λ _ m'. passed list_of (step slots 1 (t + 1) 0 none) (me.0, m) (t + 1) m')) (sym has) (λ s k _ at _.
      let v = me.0 in
      let ok = k.sound id v at in
      let in_turn = ok.inside inside in
      let list_is : k.list ≡ v.front = sym in_turn.1 in
      let served : t ≡ k.serving = ap (λ l. slice_index l 0) (sym mine ∙ in_turn.2) in
      let w = record v { turn = false; tickets = []; front = list_of x; shorter = []; lesser = [] } in
      let counts : (y : ℕ) → calls number y (list_of x) ≡ calls number y k.list + calls number y own = λ y. ap (calls number y) added ∙ (calls_append number y v.front own ∙ ap (λ l. calls number y l + calls number y own) (sym list_is)) in
      let none_of : (y : ℕ) → n ≢ y → calls number y own ≡ 0 = λ y other. let o = calls_other number n y other own in omega (arith, counted) in
      let drawn = was_drawn list_of IsThere number s k id v at n named in
      let homes_are : set s.homes 0 (some x) ≡ some x ∷ [] = ap (λ l. set l 0 (some x)) in_turn.0 in (
        w,
        gives,
        tt,
        moved list_of IsThere number s k id v w at k.ticket (t + 1) k.drawn (list_of x) (set s.words 1 (t + 1)) (set s.homes 0 (some x)) (ap (λ l. set l 1 (t + 1)) k.words)
            (λ y. let b : times y v.tickets ≡ once t y + 0 = ap (times y) mine in grind (arith, nat_tests))
            (λ y. refl)
            refl
            k.few
            (λ y le. let a = counts y in let b = k.known y le in let c = none_of y (λ same. absurd (omega (arith, same, drawn, le))) in omega arith)
            (λ i u other e. let o = k.sound i u e in record {
              fits = (
                (o.fits.0.0 ++ own, sym (append_assoc u.front o.fits.0.0 own) ∙ ap (λ l. l ++ own) (o.fits.0.1 ∙ list_is) ∙ sym added),
                λ y some_name. grind (arith, counts y, none_of y, own_name list_of IsThere number s k id v at n named i u other e, o.fits.1 y),
              );
              spent = o.spent;
              inside = λ turn. absurd (alone list_of IsThere number s k id v at in_turn.2 i u other e (o.inside turn).2);
              found = o.found;
              noted = λ m h. let a = o.noted m h in omega (arith, served);
              begun = o.begun;
            })
            record {
              fits = (([], append-nil (list_of x)), λ y _. refl);
              spent = λ z. absurd (omega (arith, some_part, z));
              inside = λ turn. absurd (true≢false (sym turn));
              found = ok.found;
              noted = λ m h. let a = ok.noted m h in omega (arith, served);
              begun = ((list_of x, refl), λ y some_name. absurd (omega (arith, some_name)));
            }
            (inl (x, homes_are, refl, is_there)),
        refl,
      ))

  pub notes : (slots id : ℕ) (me : Me S (View E)) → me.0.turn ≡ false → Allows (Kept list_of IsThere number) slots id me 1 (λ n. n) (noted (step slots 1 0 0 none) me)
  notes slots id me out s k _ at _ =
      let v = me.0 in
      let n : ℕ = slice_index s.words 1 in
      let n_is : n ≡ k.serving = ap (λ l. slice_index l 1) k.words in
      let ok = k.sound id v at in
      (record v { note = Some n }, keeps, tt, refreshed list_of IsThere number s k id v at out v.found (Some n) v.misses ok.found (λ m h. let same : n ≡ m = ap (λ o. unwrap_or o 0) h in omega (arith, n_is, same)) (set s.words 1 n) (rw k.words refl), refl)

  -- a turn that one exchange begins, where the seat has so many misses if it fails
  pub draws : (misses slots id : ℕ) (me : Me S (View E)) (old new : ℕ) → new ≡ old + 1 → me.0.note ≡ Some old → me.0.tickets ≡ [] → me.0.turn ≡ false → 0 < me.0.parts
      → Allows (Kept list_of IsThere number) slots id me 0 (λ n. either (eqb n old) new n) (drew misses list_of IsThere number (step slots 0 old new none) me)
  draws misses slots id me old new next was none_yet out some_part s k _ at _ =
      let v = me.0 in
      let n : ℕ = slice_index s.words 0 in
      let n_is : n ≡ k.ticket = ap (λ l. slice_index l 0) k.words in
      let ok = k.sound id v at in
      exchanged n old new (Goes list_of IsThere number s 0 id me (drew misses list_of IsThere number (step slots 0 old new none) me))
      (λ hit.
      let ahead : k.serving ≤ k.ticket = grind (arith, nat_tests, k.tickets k.ticket) in
      let same : k.serving ≡ n = let a = ok.noted old was in omega (arith, hit, n_is, ahead) in
      let nobody : (i : ℕ) (u : View E) → i ≢ id → get_elem? s.views i ≡ some u → u.tickets ≡ k.serving ∷ [] → ⊥ = λ i u _ e theirs.
      let q : ℕ = k.serving in
      absurd (grind (arith, nat_tests, total_at (λ (w : View E). times q w.tickets) s.views i u e, ap (times q) theirs, k.tickets q)) in
      let b = begins s k id v at out some_part new (set s.words 0 new) (n ∷ []) None (ap (λ l. set l 0 new) k.words) (ap (λ z. z ∷ []) (sym same))
      (λ y. let b : k.ticket ≡ old = sym n_is ∙ hit in rw (next, b, hit, none_yet) (grind (arith, nat_tests))) (λ m h. absurd (cc)) nobody in (
        record v { tickets = n ∷ []; turn = true; front = list_of b.0; note = None; shorter = []; lesser = [] },
        takes 0 b.0,
        b.1,
        b.4,
        ((λ _. (b.0, refl, b.2, b.3)), (λ miss. absurd (miss hit))),
      ))
      (λ miss. (
        record v { misses = misses; note = None },
        keeps,
        tt,
        refreshed list_of IsThere number s k id v at out v.found None misses ok.found (λ m h. absurd (cc)) (set s.words 0 n) (rw k.words refl),
        ((λ hit. absurd (miss hit)), (λ _. refl)),
      ))
