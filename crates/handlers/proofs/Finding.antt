-- A route is found by its name and its kind.
use Rattle.std.proofs.Common.{◌≡◌, ℕ, ◌<◌, ◌≤◌, Bool, true, false, List, length, refl, subst, arith}
use Rattle.std.specs.Prelude.{Some, None, slice_get, bytes_eq}
use Rattle.std.specs.Bool.{Decides}
use Rattle.std.specs.List.{position, position_or_len}
use Rattle.std.proofs.lemmas.Bool.Decides.{Decides-and, nat_tests, not_from_Decides}
use Rattle.std.proofs.lemmas.List.Sums.{fails_before_first}
use Rattle.std.proofs.lemmas.Slice.Eq.{bytes_eq-Decides}
use Rattle.std.proofs.lemmas.List.Quantifiers.{position-Some}
use Rattle.std.proofs.lemmas.Option.{get_or_from_slice_get, slice_get_within}
use Rattle.rs_wire.specs.declared.words.Kind.{Kind}
use Rattle.rs_wire.specs.declared.words.Kind.TheVariants as kinds
use Rattle.handlers.specs.Listed.{IsFor, Listed, is_for, is_same_kind, place}

same_kind : (a b : Kind) → is_same_kind a b ≡ true → a ≡ b
same_kind kinds.Response kinds.Response h = refl
same_kind kinds.Response kinds.Fnf h = cc
same_kind kinds.Response kinds.Stream h = cc
same_kind kinds.Response kinds.Channel h = cc
same_kind kinds.Fnf kinds.Response h = cc
same_kind kinds.Fnf kinds.Fnf h = refl
same_kind kinds.Fnf kinds.Stream h = cc
same_kind kinds.Fnf kinds.Channel h = cc
same_kind kinds.Stream kinds.Response h = cc
same_kind kinds.Stream kinds.Fnf h = cc
same_kind kinds.Stream kinds.Stream h = refl
same_kind kinds.Stream kinds.Channel h = cc
same_kind kinds.Channel kinds.Response h = cc
same_kind kinds.Channel kinds.Fnf h = cc
same_kind kinds.Channel kinds.Stream h = cc
same_kind kinds.Channel kinds.Channel h = refl

own_kind : (a : Kind) → is_same_kind a a ≡ true
own_kind kinds.Response = refl
own_kind kinds.Fnf = refl
own_kind kinds.Stream = refl
own_kind kinds.Channel = refl

same_kind_decides : (a b : Kind) → Decides (is_same_kind a b) (a ≡ b)
same_kind_decides a b = (same_kind a b, λ e. subst (λ v. is_same_kind a v ≡ true) e (own_kind a))

is_for_decides : (name : List ℕ) (kind : Kind) (route : Listed) → Decides (is_for name kind route) (IsFor name kind route)
is_for_decides name kind route =
    Decides-and (bytes_eq route.name name) (is_same_kind route.kind kind) (bytes_eq-Decides route.name name) (same_kind_decides route.kind kind)

pub found_is_for : (routes : List Listed) (name : List ℕ) (kind : Kind) (n : ℕ) (route : Listed) → place routes name kind ≡ Some n → slice_get routes n ≡ Some route → IsFor name kind route
found_is_for routes name kind n route h at =
    let there = (position-Some (is_for name kind) routes n route h).1 in
    (is_for_decides name kind route).0 (subst (λ r. is_for name kind r ≡ true) (get_or_from_slice_get routes n route route at) there)

-- where there is no place, the first that passes is past the end
past_end : {X : Type 0} (p : X → Bool) (xs : List X) → position p xs ≡ None → length xs ≤ position_or_len p xs
past_end p xs h = grind (arith, nat_tests)

pub none_is_for : (routes : List Listed) (name : List ℕ) (kind : Kind) (n : ℕ) (route : Listed) → place routes name kind ≡ None → slice_get routes n ≡ Some route → ¬ (IsFor name kind route)
none_is_for routes name kind n route h at own =
    let within : n < length routes = slice_get_within routes n route at in
    let before : n < position_or_len (is_for name kind) routes = omega (arith, within, past_end (is_for name kind) routes h) in
    let fails = subst (λ r. is_for name kind r ≡ false) (get_or_from_slice_get routes n route route at) (fails_before_first (is_for name kind) routes n route before) in
    not_from_Decides (is_for name kind route) (is_for_decides name kind route) fails own
