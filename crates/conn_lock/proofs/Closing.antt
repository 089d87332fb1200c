-- What the seat with all parts knows at the end.
use Rattle.std.proofs.Common.{◌≡◌, ℕ, zero, suc, ◌<◌, List, [], ◌∷◌, ◌++◌, false, true, refl, sym, ap, ◌∙◌, subst, ⊎_elim, arith, append-nil}
use mathlib.Core.Option.{none, some, some-injective, some-ne-none}
use lib.ListN.{get_elem?}
use Rattle.std.proofs.lemmas.Bool.Decides.{nat_tests}
use Rattle.atomic_table.specs.Table.{State, Seen}
use Rattle.conn_lock.specs.declared.view.View.{View}
use Rattle.conn_lock.specs.Callers.{times, calls, all_parts}
use Rattle.conn_lock.specs.Rule.{total, Kept}
use Rattle.conn_lock.proofs.Totals.{total_at, total_both, total_zero, calls_append, calls_prefix, no_calls}
use Rattle.conn_lock.proofs.Changes.{other_turn}

-- where one view has the whole of g, and who has none of g has none of f, that view has the whole of f
sole : {A : Type 0} (f g : A → ℕ) (vs : List A) (id : ℕ) (v : A) → get_elem? vs id ≡ some v → total g vs ≡ g v → ((i : ℕ) (u : A) → get_elem? vs i ≡ some u → g u ≡ 0 → f u ≡ 0) → total f vs ≡ f v
sole f g [] id v at all idle = absurd (some-ne-none v (sym at))
sole f g (x ∷ xs) zero v at all idle =
    let same = ap g (some-injective x v at) in let same_f = ap f (some-injective x v at) in
    let a = total_zero f xs (λ i u e. idle (suc i) u e (let b = total_at g xs i u e in omega arith)) in omega arith
sole f g (x ∷ xs) (suc id) v at all idle =
    let a = total_at g xs id v at in
    let b = idle 0 x refl (omega arith) in
    let c = sole f g xs id v at (omega arith) (λ i u e z. idle (suc i) u e z) in omega arith

module _ {S E : Type 0} (list_of : S → List E) (IsThere : S → Type 0) (number : E → ℕ) where
  -- each number that was drawn is a name of the seat
  all_names : (s : State S (View E)) (k : Kept list_of IsThere number s) (id : ℕ) (v : View E) → get_elem? s.views id ≡ some v → v.parts ≡ all_parts → (y : ℕ) → y < k.drawn → 0 < times y v.names
  all_names s k id v at all y below_drawn =
      let c = sole (λ (u : View E). times y u.names) (λ (u : View E). u.parts) s.views id v at (k.parts ∙ sym all) (λ i u e z. ap (times y) ((k.sound i u e).spent z).0) in
      let d = k.names y in grind (arith, nat_tests)

  -- so the list has no entry beyond its front
  no_more : (s : State S (View E)) (k : Kept list_of IsThere number s) (id : ℕ) (v : View E) → get_elem? s.views id ≡ some v → v.parts ≡ all_parts → (more : List E) → v.front ++ more ≡ k.list → more ≡ []
  no_more s k id v at all more is = no_calls number more (λ y.
      let a = calls_append number y v.front more in
      let b : calls number y (v.front ++ more) ≡ calls number y k.list = ap (calls number y) is in
      grind (arith, k.known y, (k.sound id v at).fits.1 y, all_names s k id v at all y))

  -- the seat with all parts has the whole list, and the value is at home
  closes : (s : State S (View E)) (id : ℕ) (v : View E) → Seen (Kept list_of IsThere number) id v s → v.turn ≡ false → v.parts ≡ all_parts → (x : S) × (s.homes ≡ some x ∷ []) × (list_of x ≡ v.front) × IsThere x
  closes s id v seen out all =
      let k = seen.0 in let at = seen.1 in let ok = k.sound id v at in
      ⊎_elim
      (λ (home : (x : S) × (s.homes ≡ some x ∷ []) × (list_of x ≡ k.list) × IsThere x). (
        home.0,
        home.1,
        home.2 ∙ (sym ok.fits.0.1 ∙ (ap (λ l. v.front ++ l) (no_more s k id v at all ok.fits.0.0 ok.fits.0.1) ∙ append-nil v.front)),
        home.3,
      ))
      (λ (away : (i : ℕ) × (u : View E) × (s.homes ≡ none ∷ []) × (get_elem? s.views i ≡ some u) × (u.turn ≡ true)).
      let i = away.0 in let u = away.1 in
      let other = other_turn s.views id i v u at out away.3 away.4 in
      let theirs = k.sound i u away.3 in
      let two = total_both (λ (w : View E). w.parts) s.views i id u v other away.3 at in
      let idle : u.parts ≡ 0 = omega (arith, all, k.parts) in
      absurd (some-ne-none k.serving (ap (λ l. get_elem? l 0) (sym (theirs.inside away.4).2 ∙ (theirs.spent idle).1))))
      k.place

  -- what lies in the slot afterwards is that value
  pub shut : (s : State S (View E)) (id : ℕ) (v : View E) → Seen (Kept list_of IsThere number) id v s → v.turn ≡ false → v.parts ≡ all_parts
      → (slots : List S) → ((i : ℕ) (x : S) → get_elem? s.homes i ≡ some (some x) → get_elem? slots i ≡ some x) → (held : S) → get_elem? slots 0 ≡ some held → (list_of held ≡ v.front) × IsThere held
  shut s id v seen out all slots home held there =
      let closed = closes s id v seen out all in
      let same : closed.0 ≡ held = some-injective closed.0 held (sym (home 0 closed.0 (ap (λ l. get_elem? l 0) closed.1)) ∙ there) in
      (ap list_of (sym same) ∙ closed.2, subst IsThere same closed.3)

  -- and each entry carries one of its names
  pub all_named : (s : State S (View E)) (id : ℕ) (v : View E) → Seen (Kept list_of IsThere number) id v s → v.parts ≡ all_parts → (y : ℕ) → times y v.names ≡ 0 → calls number y v.front ≡ 0
  all_named s id v seen all y none_of =
      let k = seen.0 in let at = seen.1 in
      grind (arith, k.known y, calls_prefix number y v.front k.list (k.sound id v at).fits.0, all_names s k id v at all y)
