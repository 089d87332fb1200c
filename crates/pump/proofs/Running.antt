-- Turns one after the other.
use Rattle.std.proofs.lemmas.Bool.Decides.{nat_tests}
use Rattle.std.proofs.Common.{◌≡◌, ◌<◌, ◌≤◌, ◌+◌, ◌⊎◌, ◌∙◌, ℕ, max, nat_le, true, false, List, [], ◌∷◌, Option, refl, sym, ap, subst, arith}
use Rattle.rs_wire.specs.declared.settings.Settings.{Settings}
use Rattle.pump.specs.declared.turned.Turned.{Turned}
use Rattle.pump.specs.declared.turned.Turned.TheVariants as turned
use Rattle.pump.specs.Turns.{is_last}
use Rattle.pump.specs.Runs.{AreTurns, IsRun, Leads, Place, Step, lulls_in, lulls_met, reached}

-- turns that let the pump go on led here, and met so many lulls, fewer than end the run
pub record HasRun (g : Settings) (moments : Option (List ℕ)) (lulls : ℕ) (from at : Place) (met : ℕ) : Type 0 where
  pub past : List Step
  pub turns : AreTurns g moments from past
  pub here : reached from past ≡ at
  pub count : lulls_met past ≡ met
  pub few : met < max lulls 1

pub none_yet : (g : Settings) (moments : Option (List ℕ)) (lulls : ℕ) (from : Place) → HasRun g moments lulls from from 0
none_yet g moments lulls from = record { past = []; turns = tt; here = refl; count = refl; few = omega arith }

pub lulls_few : (r : Turned) → lulls_in r ≤ 1
lulls_few turned.Lull = omega arith
lulls_few _ = omega arith

-- another turn, which does not end the run, leaves fewer lulls than end it
pub few_more : (met lulls more : ℕ) (r : Turned) → met < max lulls 1 → more ≡ met + lulls_in r → (lulls ≤ more → r ≡ turned.Lull → ⊥) → more < max lulls 1
few_more met lulls more turned.Lull few count on = elim (nat_le lulls more) as (λ v. (nat_le lulls more) ≡ v → more < max lulls 1) [
  | true ↦ λ le. absurd (on (grind (arith, nat_tests, le)) refl)
  | false ↦ λ gt. (let above : more < lulls = grind (arith, nat_tests, gt) in omega (arith, above))
] refl
few_more met lulls more _ few count on = omega (arith, few, count)

leads_here : (g : Settings) (moments : Option (List ℕ)) (lulls met : ℕ) (from a b : Place) (r : Turned) → (h : HasRun g moments lulls from a met) → Leads g moments a b r → Leads g moments (reached from h.past) b r
leads_here g moments lulls met from a b r h leads = subst (λ p. Leads g moments p b r) (sym h.here) leads

pub and_another : (g : Settings) (moments : Option (List ℕ)) (lulls met more : ℕ) (from a b : Place) (r : Turned) → HasRun g moments lulls from a met → Leads g moments a b r → is_last r ≡ false → more ≡ met + lulls_in r → more < max lulls 1 → HasRun g moments lulls from b more
and_another g moments lulls met more from a b r h leads on count few = record {
  past = record { to = b; result = r } ∷ h.past;
  turns = (h.turns, leads_here g moments lulls met from a b r h leads, on);
  here = refl;
  count = ap (λ n. n + lulls_in r) h.count ∙ sym count;
  few = few;
}

pub has_ended : (g : Settings) (moments : Option (List ℕ)) (lulls met : ℕ) (from a b : Place) (r : Turned) → HasRun g moments lulls from a met → Leads g moments a b r → (is_last r ≡ true) ⊎ ((r ≡ turned.Lull) × (met + 1 ≡ max lulls 1)) → IsRun g moments lulls from b r
has_ended g moments lulls met from a b r h leads why = record {
  past = h.past;
  turns = h.turns;
  few = subst (λ n. n < max lulls 1) (sym h.count) h.few;
  last = leads_here g moments lulls met from a b r h leads;
  ends = subst (λ n. (is_last r ≡ true) ⊎ ((r ≡ turned.Lull) × (n + 1 ≡ max lulls 1))) (sym h.count) why;
}
