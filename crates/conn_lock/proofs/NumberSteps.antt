-- The steps on numbers and parts keep the rule.
use Rattle.std.proofs.Common.{◌≡◌, ◌≢◌, ℕ, ◌+◌, ◌-◌, ◌<◌, List, [], ◌∷◌, length, set, Bool, true, false, true≢false, refl, sym, ap, ◌∙◌, subst, inl, inr, ⊎_elim, arith, eqb, append-nil, cond, nat_lt}
use Rattle.std.specs.Prelude.{slice_index}
use mathlib.Core.List.{IsPrefix}
use mathlib.Core.Option.{none, some}
use prog.Atomic.{either}
use lib.ListN.{get_elem?}
use Rattle.std.proofs.lemmas.Bool.Decides.{nat_tests}
use Rattle.atomic_table.specs.Table.{Me, keeps, Allows, Splits, Joins, step}
use Rattle.atomic_table.proofs.Lists.{at_set, at_snoc, at_longer, exchanged}
use Rattle.conn_lock.specs.declared.view.View.{View}
use Rattle.conn_lock.specs.Callers.{Fits, Follows, times, calls, share, most_numbers}
use Rattle.conn_lock.specs.Rule.{IsSound, Kept, counted, named, told, left, right, both, spent}
use Rattle.conn_lock.proofs.Totals.{total_split, total_two, total_at, times_append, calls_prefix, begins_longer}
use Rattle.conn_lock.proofs.Changes.{follows, moved, sound_set, stays, kept_place, refreshed, Goes}

module _ {S E : Type 0} (list_of : S → List E) (IsThere : S → Type 0) (number : E → ℕ) where
  pub counts : (slots id : ℕ) (me : Me S (View E)) → me.0.turn ≡ false → Allows (Kept list_of IsThere number) slots id me 2 (λ n. n) (counted (step slots 2 0 0 none) me)
  counts slots id me out s k _ at _ =
      let v = me.0 in
      let n : ℕ = slice_index s.words 2 in
      let n_is : n ≡ k.drawn = ap (λ l. slice_index l 2) k.words in
      let ok = k.sound id v at in
      (record v { found = n }, keeps, tt, refreshed list_of IsThere number s k id v at out n v.note v.misses (omega (arith, n_is)) ok.noted (set s.words 2 n) (rw k.words refl), (refl, omega (arith, n_is), omega (arith, n_is)))

  pub names : (slots id : ℕ) (me : Me S (View E)) (old new : ℕ) → new ≡ old + 1 → old < most_numbers → me.0.turn ≡ false → 0 < me.0.parts
      → Allows (Kept list_of IsThere number) slots id me 2 (λ n. either (eqb n old) new n) (named number (step slots 2 old new none) me)
  names slots id me old new next room out some_part s k _ at _ =
      let v = me.0 in
      let n : ℕ = slice_index s.words 2 in
      let n_is : n ≡ k.drawn = ap (λ l. slice_index l 2) k.words in
      let ok = k.sound id v at in
      let unused : calls number n v.front ≡ 0 = let a = k.known n (omega (arith, n_is)) in let b = calls_prefix number n v.front k.list ok.fits.0 in omega arith in
      exchanged n old new (Goes list_of IsThere number s 2 id me (named number (step slots 2 old new none) me))
      (λ hit.
      let w = record v { names = n ∷ v.names; found = n + 1 } in
      let new_is : new ≡ n + 1 = omega (arith, next, hit) in (
        w,
        keeps,
        tt,
        moved list_of IsThere number s k id v w at k.ticket k.serving new k.list (set s.words 2 new) s.homes (ap (λ l. set l 2 new) k.words) (λ x. refl)
            (λ x. grind (arith, nat_tests))
            refl
            (omega (arith, next, room))
            (λ x le. k.known x (omega (arith, le, new_is, n_is)))
            (λ i u _ e. let o = k.sound i u e in record { fits = o.fits; spent = o.spent; inside = o.inside; found = let f = o.found in omega (arith, new_is, n_is); noted = o.noted; begun = o.begun })
            record {
              fits = (
                ok.fits.0,
                λ y has. grind (arith, nat_tests, k.known y, calls_prefix number y v.front k.list ok.fits.0, ok.fits.1 y),
              );
              spent = λ z. absurd (omega (arith, some_part, z));
              inside = ok.inside;
              found = omega (arith, new_is);
              noted = ok.noted;
              begun = ok.begun;
            }
            (kept_place list_of IsThere number k.list s.homes s.views id v w at out k.place),
        ((λ _. (refl, omega (arith, n_is), (let a = total_at (λ (u : View E). times n u.names) s.views id v at in let b = k.names n in grind (arith, nat_tests)), unused)), (λ miss. absurd (miss hit))),
      ))
      (λ miss. (
        record v { found = n },
        keeps,
        tt,
        refreshed list_of IsThere number s k id v at out n v.note v.misses (omega (arith, n_is)) ok.noted (set s.words 2 n) (rw k.words refl),
        ((λ hit. absurd (miss hit)), (λ _. (refl, omega (arith, n_is), omega (arith, n_is)))),
      ))

  pub tells : (slots id : ℕ) (me : Me S (View E)) → Allows (Kept list_of IsThere number) slots id me 2 (λ n. n) (told number (step slots 2 0 0 none) me)
  tells slots id me s k _ at _ = (
    me.0,
    keeps,
    tt,
    stays list_of IsThere number s k id me.0 at (set s.words 2 (slice_index s.words 2)) (rw k.words refl),
    (
      refl,
      (k.sound id me.0 at).begun,
      (λ x. let a = total_at (λ (u : View E). times x u.names) s.views id me.0 at in let b = k.names x in grind (arith, nat_tests)),
      (let a = total_at (λ (u : View E). u.parts) s.views id me.0 at in let b = k.parts in omega arith),
    ),
  )

  -- the parts are shared out, and the number drawn last goes to a new seat
  pub splits : (id : ℕ) (v : View E) (n : ℕ) (ns : List ℕ) → v.names ≡ n ∷ ns → v.turn ≡ false → v.tickets ≡ [] → 1 < v.parts → Splits (Kept list_of IsThere number) id v (left v) (right v)
  splits id v n ns has out no_ticket parts s k at =
      let ok = k.sound id v at in
      let p : ℕ = v.parts in
      let q : ℕ = share p in
      let l = left v in
      let r = right v in
      let small : (0 < q) × (q < p) = (omega arith, omega arith) in
      let names_l : l.names ≡ ns = rw has refl in
      let names_r : r.names ≡ n ∷ [] = rw has refl in
      let left_ok : IsSound number k.list k.serving k.drawn s.homes l = record {
        fits = (ok.fits.0, λ y some_name. ok.fits.1 y (rw has (let a : 0 < times y ns = subst (λ xs. 0 < times y xs) names_l some_name in omega arith)));
        spent = λ z. absurd (let e : p - q ≡ 0 = z in omega (arith, small));
        inside = λ t. absurd (true≢false (sym t ∙ out));
        found = ok.found;
        noted = ok.noted;
        begun = ok.begun;
      } in
      let right_ok : IsSound number k.list k.serving k.drawn s.homes r = record {
        fits = (ok.fits.0, λ y some_name. ok.fits.1 y (rw has (let a : 0 < times y (n ∷ []) = subst (λ xs. 0 < times y xs) names_r some_name in omega arith)));
        spent = λ z. absurd (let e : q ≡ 0 = z in omega (arith, small));
        inside = λ t. absurd (true≢false (sym t));
        found = ok.found;
        noted = λ m h. absurd (cc);
        begun = ((v.front, refl), λ y some_name. absurd (omega (arith, some_name)));
      } in
      record {
        ticket = k.ticket;
        serving = k.serving;
        drawn = k.drawn;
        list = k.list;
        words = k.words;
        tickets = λ x. omega (arith, total_split (λ (u : View E). times x u.tickets) s.views id v l r at, k.tickets x);
        names = λ x. omega (arith, total_split (λ (u : View E). times x u.names) s.views id v l r at, k.names x, ap (times x) names_l, ap (times x) names_r, ap (times x) has);
        parts = let e : r.parts ≡ q = refl in omega (arith, total_split (λ (u : View E). u.parts) s.views id v l r at, k.parts, small);
        few = k.few;
        known = k.known;
        sound = λ i u e. ⊎_elim
            (sound_set s.views id l (IsSound number k.list k.serving k.drawn s.homes) (λ j x _. k.sound j x) left_ok i u)
            (λ (same : r ≡ u). subst (IsSound number k.list k.serving k.drawn s.homes) same right_ok)
            (at_snoc (set s.views id l) r u i e);
        place = ⊎_elim (λ home. inl home) (λ away. inr (away.0, away.1, away.2, at_longer (set s.views id l) (r ∷ []) away.0 away.1 away.3, away.4)) (kept_place list_of IsThere number k.list s.homes s.views id v l at out k.place);
      }

  -- the first takes in the second's names and parts, and has the longer front
  pub joins : (id : ℕ) (v : View E) (other : ℕ) (w : View E) → v.turn ≡ false → v.tickets ≡ [] → 0 < v.parts → w.turn ≡ false → w.tickets ≡ [] → Joins (Kept list_of IsThere number) id v other w (both v w) spent
  joins id v other w out no_ticket some_part out_w no_ticket_w s k at apart there =
      let b = both v w in
      let ok = k.sound id v at in
      let there_before : get_elem? s.views other ≡ some w = ⊎_elim (λ (t : (other ≡ id) × (b ≡ w)). absurd (apart t.0)) (λ (t : (other ≢ id) × (get_elem? s.views other ≡ some w)). t.1) (at_set s.views id other b w there) in
      let ok_w = k.sound other w there_before in
      let fronts = two k.list v.front w.front ok.fits.0 ok_w.fits.0 (nat_lt (length v.front) (length w.front)) refl in
      let both_ok : IsSound number k.list k.serving k.drawn s.homes b = record {
        fits = (
          fronts.0,
          λ y some_name.
              let theirs = calls_prefix number y w.front b.front fronts.2 in
              let ours = calls_prefix number y v.front b.front fronts.1 in
              grind (arith, times_append y v.names w.names, calls_prefix number y b.front k.list fronts.0, ok.fits.1 y, ok_w.fits.1 y),
        );
        spent = λ z. absurd (let e : v.parts + w.parts ≡ 0 = z in omega (arith, some_part));
        inside = λ t. absurd (true≢false (sym t ∙ out));
        found = let f = ok.found in let g = ok_w.found in omega arith;
        noted = ok.noted;
        begun = (fronts.3, lesser_fits k.list v.front w.front v.names w.names ok.fits ok_w.fits (nat_lt (length v.front) (length w.front)) fronts.0 fronts.3);
      } in
      let spent_ok : IsSound number k.list k.serving k.drawn s.homes spent = record {
        fits = ((k.list, refl), λ y some_name. absurd (omega (arith, some_name)));
        spent = λ _. (refl, refl);
        inside = λ t. absurd (true≢false (sym t));
        found = omega arith;
        noted = λ m h. absurd (cc);
        begun = (([], refl), λ y some_name. absurd (omega (arith, some_name)));
      } in
      let first : List (View E) = set s.views id b in
      record {
        ticket = k.ticket;
        serving = k.serving;
        drawn = k.drawn;
        list = k.list;
        words = k.words;
        tickets = λ x. omega (arith, total_two (λ (u : View E). times x u.tickets) s.views id other v w b spent at there, k.tickets x, ap (times x) no_ticket_w);
        names = λ x. omega (arith, total_two (λ (u : View E). times x u.names) s.views id other v w b spent at there, k.names x, times_append x v.names w.names);
        parts = omega (arith, total_two (λ (u : View E). u.parts) s.views id other v w b spent at there, k.parts);
        few = k.few;
        known = k.known;
        sound = sound_set first other spent (IsSound number k.list k.serving k.drawn s.homes)
            (λ j x _. sound_set s.views id b (IsSound number k.list k.serving k.drawn s.homes) (λ i u _. k.sound i u) both_ok j x) spent_ok;
        place = kept_place list_of IsThere number k.list s.homes first other w spent there out_w (kept_place list_of IsThere number k.list s.homes s.views id v b at out k.place);
      }
    where
      -- the entries of these names in the longer front stand in the shorter
      lesser_fits : (list x y : List E) (m n : List ℕ) → Fits number list m x → Fits number list n y → (t : Bool) → IsPrefix (cond t y x) list → IsPrefix (cond t x y) (cond t y x)
          → (z : ℕ) → 0 < times z (cond t m n) → calls number z (cond t y x) ≡ calls number z (cond t x y)
      lesser_fits list x y m n p q true long short z has = let a = calls_prefix number z y list long in let b = calls_prefix number z x y short in let c = p.1 z has in omega arith
      lesser_fits list x y m n p q false long short z has = let a = calls_prefix number z x list long in let b = calls_prefix number z y x short in let c = q.1 z has in omega arith

      -- both are prefixes of the longer, which is a prefix of the list
      two : (list x y : List E) → IsPrefix x list → IsPrefix y list → (t : Bool) → nat_lt (length x) (length y) ≡ t
          → IsPrefix (cond t y x) list × IsPrefix x (cond t y x) × IsPrefix y (cond t y x) × IsPrefix (cond t x y) (cond t y x)
      two list x y p q true e = let h = begins_longer x y list p q (let l : length x < length y = grind (arith, nat_tests) in omega arith) in (q, h, ([], append-nil y), h)
      two list x y p q false e = let h = begins_longer y x list q p (grind (arith, nat_tests)) in (p, ([], append-nil x), h, h)

-- where the shorter front fits the longer, neither seat's entries stand after its front
pub owns : {E : Type 0} (number : E → ℕ) (x y : List E) (m n : List ℕ) (t : Bool) → Fits number (cond t y x) (cond t m n) (cond t x y)
    → Follows number m x (cond t y x) × Follows number n y (cond t y x)
owns number x y m n true fits = (follows number y m x y refl fits, ([], sym (append-nil y), λ z has. refl))
owns number x y m n false fits = (([], sym (append-nil x), λ z has. refl), follows number x n y x refl fits)
