-- A change of one view keeps the rule.
use Rattle.std.proofs.Common.{◌≡◌, ◌≢◌, ℕ, zero, suc, ◌+◌, ◌<◌, ◌≤◌, List, [], ◌∷◌, ◌++◌, length, set, true, false, true≢false, refl, sym, ap, ◌∙◌, subst, inl, inr, ⊎_elim, arith, Some}
use Rattle.std.specs.Prelude as std
use Rattle.std.specs.Prelude.{slice_index}
use mathlib.Core.Option.{Option, some, some-injective, some-ne-none}
use lib.ListN.{get_elem?}
use Rattle.std.proofs.lemmas.Bool.Decides.{nat_tests}
use Rattle.atomic_table.specs.Table.{State, Me, Act, stepped, Valid, carried_after}
use Rattle.atomic_table.proofs.Lists.{at_set, set_again, set_else}
use Rattle.conn_lock.specs.declared.view.View.{View}
use Rattle.conn_lock.specs.Callers.{times, calls, Follows, Fits, most_numbers}
use Rattle.conn_lock.specs.Rule.{below, IsSound, IsPlaced, Kept}
use Rattle.conn_lock.proofs.Totals.{total_set, total_at, total_both, calls_append}

-- a list has the places that it answers at
pub within : {A : Type 0} (xs : List A) (i : ℕ) (x : A) → get_elem? xs i ≡ some x → i < length xs
within [] i x e = absurd (some-ne-none x (sym e))
within (y ∷ ys) zero x e = omega arith
within (y ∷ ys) (suc i) x e = let h = within ys i x e in omega arith

-- who fits the list sees that it went on by entries of others
pub follows : {E : Type 0} (number : E → ℕ) (list : List E) (names : List ℕ) (front new : List E) → new ≡ list → Fits number list names front → Follows number names front new
follows number list names front new is fits =
    let others = fits.0.0 in (
      others,
      is ∙ sym fits.0.1,
      λ x some_name.
          let a = calls_append number x front others in
          let b : calls number x (front ++ others) ≡ calls number x list = ap (calls number x) fits.0.1 in
          let c = fits.1 x some_name in
          omega arith,
    )

-- what holds of a new view, and of each other view, holds of each
pub sound_set : {A : Type 0} (views : List A) (id : ℕ) (w : A) (P : A → Type 0) → ((i : ℕ) (u : A) → i ≢ id → get_elem? views i ≡ some u → P u) → P w
    → (i : ℕ) (u : A) → get_elem? (set views id w) i ≡ some u → P u
sound_set views id w P others mine i u e = ⊎_elim (λ (x : (i ≡ id) × (w ≡ u)). subst P x.1 mine) (λ (x : (i ≢ id) × (get_elem? views i ≡ some u)). others i u x.0 x.1) (at_set views id i w u e)

-- who has the turn is not a seat without one
pub other_turn : {E : Type 0} (views : List (View E)) (id i : ℕ) (v u : View E) → get_elem? views id ≡ some v → v.turn ≡ false → get_elem? views i ≡ some u → u.turn ≡ true → i ≢ id
other_turn views id i v u at out there turn same = true≢false (sym turn ∙ ap (λ w. w.turn) (some-injective u v (sym there ∙ (ap (get_elem? views) same ∙ at))) ∙ out)

module _ {S E : Type 0} (list_of : S → List E) (IsThere : S → Type 0) (number : E → ℕ) where
  -- the seat id has the view w now; the words, the list and the slot may have changed too
  pub moved : (s : State S (View E)) (k : Kept list_of IsThere number s) (id : ℕ) (v w : View E) → get_elem? s.views id ≡ some v → (t n d : ℕ) (list : List E) (words : List ℕ) (homes : List (Option S))
      → words ≡ t ∷ n ∷ d ∷ []
      → ((x : ℕ) → times x w.tickets + below x n + below x k.ticket ≡ times x v.tickets + below x k.serving + below x t)
      → ((x : ℕ) → times x w.names + below x k.drawn ≡ times x v.names + below x d)
      → w.parts ≡ v.parts
      → d ≤ most_numbers
      → ((x : ℕ) → d ≤ x → calls number x list ≡ 0)
      → ((i : ℕ) (u : View E) → i ≢ id → get_elem? s.views i ≡ some u → IsSound number list n d homes u)
      → IsSound number list n d homes w
      → IsPlaced list_of IsThere list homes (set s.views id w)
      → Kept list_of IsThere number record { words = words; homes = homes; views = set s.views id w }
  moved s k id v w at t n d list words homes is tickets names parts few known others mine place = record {
    ticket = t;
    serving = n;
    drawn = d;
    list = list;
    words = is;
    tickets = λ x. let a = total_set (λ (u : View E). times x u.tickets) s.views id v w at in let b = k.tickets x in let c = tickets x in omega arith;
    names = λ x. let a = total_set (λ (u : View E). times x u.names) s.views id v w at in let b = k.names x in let c = names x in omega arith;
    parts = let a = total_set (λ (u : View E). u.parts) s.views id v w at in let b = k.parts in omega (arith, parts);
    few = few;
    known = known;
    sound = sound_set s.views id w (IsSound number list n d homes) others mine;
    place = place;
  }

  -- a state in which nothing changed
  pub stays : (s : State S (View E)) (k : Kept list_of IsThere number s) (id : ℕ) (v : View E) → get_elem? s.views id ≡ some v → (words : List ℕ) → words ≡ s.words
      → Kept list_of IsThere number record { words = words; homes = s.homes; views = set s.views id v }
  stays s k id v at words is = subst (λ (p : List ℕ × List (View E)). Kept list_of IsThere number record { words = p.0; homes = s.homes; views = p.1 }) (λ i. (sym is i, sym (set_again s.views id v at) i)) k

  -- another seat with the turn stays where it is
  pub kept_place : (list : List E) (homes : List (Option S)) (views : List (View E)) (id : ℕ) (v w : View E) → get_elem? views id ≡ some v → v.turn ≡ false
      → IsPlaced list_of IsThere list homes views → IsPlaced list_of IsThere list homes (set views id w)
  kept_place list homes views id v w at out = ⊎_elim
      (λ home. inl home)
      (λ away. inr (away.0, away.1, away.2, set_else views id away.0 w (other_turn views id away.0 v away.1 at out away.3 away.4) ∙ away.3, away.4))

  -- of a seat without a turn, what it found, noted and missed may change
  pub refreshed : (s : State S (View E)) (k : Kept list_of IsThere number s) (id : ℕ) (v : View E) → get_elem? s.views id ≡ some v → v.turn ≡ false → (f : ℕ) (note : std.Option ℕ) (m : ℕ)
      → f ≤ k.drawn → ((n : ℕ) → note ≡ Some n → n ≤ k.serving) → (words : List ℕ) → words ≡ s.words
      → Kept list_of IsThere number record { words = words; homes = s.homes; views = set s.views id (record v { found = f; note = note; misses = m }) }
  refreshed s k id v at out f note m found noted words is =
      let ok = k.sound id v at in
      let w = record v { found = f; note = note; misses = m } in
      moved s k id v w at k.ticket k.serving k.drawn k.list words s.homes (is ∙ k.words) (λ x. refl) (λ x. refl) refl k.few k.known (λ i u _ e. k.sound i u e)
      record { fits = ok.fits; spent = ok.spent; inside = ok.inside; found = found; noted = noted; begun = ok.begun }
      (kept_place k.list s.homes s.views id v w at out k.place)

  -- two seats cannot both have the ticket that is served
  pub alone : (s : State S (View E)) (k : Kept list_of IsThere number s) (id : ℕ) (v : View E) → get_elem? s.views id ≡ some v → v.tickets ≡ k.serving ∷ [] → (i : ℕ) (u : View E) → i ≢ id → get_elem? s.views i ≡ some u → u.tickets ≡ k.serving ∷ [] → ⊥
  alone s k id v at mine i u other there theirs =
      let n : ℕ = k.serving in
      let both = total_both (λ (w : View E). times n w.tickets) s.views i id u v other there at in
      absurd (grind (arith, nat_tests, ap (times n) mine, ap (times n) theirs, k.tickets n))

  -- a name in one view stands in no other
  pub own_name : (s : State S (View E)) (k : Kept list_of IsThere number s) (id : ℕ) (v : View E) → get_elem? s.views id ≡ some v → (x : ℕ) → 0 < times x v.names → (i : ℕ) (u : View E) → i ≢ id → get_elem? s.views i ≡ some u → times x u.names ≡ 0
  own_name s k id v at x named i u other there =
      grind (arith, nat_tests, total_both (λ (w : View E). times x w.names) s.views i id u v other there at, k.names x)

  -- a name was drawn
  pub was_drawn : (s : State S (View E)) (k : Kept list_of IsThere number s) (id : ℕ) (v : View E) → get_elem? s.views id ≡ some v → (x : ℕ) → 0 < times x v.names → x < k.drawn
  was_drawn s k id v at x named = grind (arith, nat_tests, total_at (λ (w : View E). times x w.names) s.views id v at, k.names x)

  -- what a step on the word i, which the seat id found to be n, owes
  abbrev pub Goes : State S (View E) → ℕ → ℕ → Me S (View E) → (ℕ → Me S (View E) → Type 0) → ℕ → Type 0
  Goes s i id me then n = (w : View E) × (a : Act S) × Valid s.homes me.1 a × Kept list_of IsThere number (stepped s i n id me.1 w a) × then (slice_index s.words i) (w, carried_after me.1 a)
