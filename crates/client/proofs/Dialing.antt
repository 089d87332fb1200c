-- What a net was asked for, and what that used up.
use Rattle.std.specs.Option.{option_map}
use Rattle.std.proofs.Common.{◌≡◌, ◌≤◌, ◌+◌, ◌-◌, ◌^◌, ◌⊎◌, ◌∙◌, inl, inr, ℕ, Bool, List, [], ◌∷◌, ◌++◌, Option, Some, None, append-nil, append_assoc, refl, sym, ap, subst, arith}
use Rattle.outside.specs.Causes.{Rose}
use Rattle.outside.specs.Links.{and_then_one}
use Rattle.outside.specs.declared.net.Ask.{Ask}
use Rattle.outside.specs.declared.net.Ask.TheVariants as ask
use Rattle.call_model.specs.Ran.{AreDials}
use Rattle.client.specs.Counting.{HasDialed, HasTried}

pub dialed_none : (address : List ℕ) (ws : Bool) (asks : Option (List Ask)) → HasDialed address ws asks asks
dialed_none address ws asks = record { more = []; are = tt; asked = none asks }
  where
    none : (asks : Option (List Ask)) → asks ≡ option_map (λ (was : List Ask). was ++ []) asks
    none None = refl
    none (Some was) = ap Some (sym (append-nil was))

-- nothing was asked
pub dialed_same : (address : List ℕ) (ws : Bool) (asks asks' : Option (List Ask)) → asks' ≡ asks → HasDialed address ws asks asks'
dialed_same address ws asks asks' same = subst (HasDialed address ws asks) (sym same) (dialed_none address ws asks)

dials_both : (address : List ℕ) (ws : Bool) (xs ys : List Ask) → AreDials address ws xs → AreDials address ws ys → AreDials address ws (xs ++ ys)
dials_both address ws [] ys a b = b
dials_both address ws (x ∷ xs) ys a b = (a.0, dials_both address ws xs ys a.1 b)

pub dialed_both : (address : List ℕ) (ws : Bool) (asks mid asks' : Option (List Ask)) → HasDialed address ws asks mid → HasDialed address ws mid asks' → HasDialed address ws asks asks'
dialed_both address ws asks mid asks' a b = record {
  more = a.more ++ b.more;
  are = dials_both address ws a.more b.more a.are b.are;
  asked = b.asked ∙ (ap (option_map (λ (was : List Ask). was ++ b.more)) a.asked ∙ both asks);
}
  where
    both : (asks : Option (List Ask)) → option_map (λ (was : List Ask). was ++ b.more) (option_map (λ (was : List Ask). was ++ a.more) asks) ≡ option_map (λ (was : List Ask). was ++ (a.more ++ b.more)) asks
    both None = refl
    both (Some was) = ap Some (append_assoc was a.more b.more)

-- one dial more
pub dialed_one : (address : List ℕ) (ws : Bool) (asks mid asks' : Option (List Ask)) → HasDialed address ws asks mid → asks' ≡ and_then_one mid (ask.Dial address ws) → HasDialed address ws asks asks'
dialed_one address ws asks mid asks' a one = dialed_both address ws asks mid asks' a (record { more = ask.Dial address ws ∷ []; are = (refl, tt); asked = one })

pub dialed_as : (a address : List ℕ) (w ws : Bool) (asks asks' : Option (List Ask)) → a ≡ address → w ≡ ws → HasDialed a w asks asks' → HasDialed address ws asks asks'
dialed_as a address w ws asks asks' to over h = subst (λ (z : List ℕ). HasDialed z ws asks asks') to (subst (λ (z : Bool). HasDialed a z asks asks') over h)

-- ---- tries

-- so many tries used so far, each for a fault
abbrev pub HasFailed : ℕ → ℕ → ℕ → ℕ → Type 0
HasFailed tried tried' faults faults' = (faults ≤ faults') × ((faults + tried' ≤ faults' + tried) ⊎ (2 ^ 64 - 1 ≤ faults'))

-- one more failed
pub failed_more : (tried now next faults mid faults' : ℕ) → next ≡ now + 1 → mid ≤ faults' → Rose mid faults' → HasFailed tried now faults mid → HasFailed tried next faults faults'
failed_more tried now next faults mid faults' one le (inr top) (rose, used) = (omega (arith, rose, le), inr (omega (arith, top)))
failed_more tried now next faults mid faults' one le (inl lt) (rose, inr top) = (omega (arith, rose, le), inr (omega (arith, top, le)))
failed_more tried now next faults mid faults' one le (inl lt) (rose, inl used) = (omega (arith, rose, le), inl (omega (arith, one, lt, used)))

-- one more gave a link
pub tried_one : (tried now next faults mid faults' : ℕ) → next ≡ now + 1 → mid ≤ faults' → HasFailed tried now faults mid → HasTried 1 tried next faults faults'
tried_one tried now next faults mid faults' one le (rose, inr top) = record { rose = omega (arith, rose, le); used = inr (omega (arith, top, le)) }
tried_one tried now next faults mid faults' one le (rose, inl used) = record { rose = omega (arith, rose, le); used = inl (omega (arith, one, le, used)) }

-- no more are made
pub tried_none : (tried now faults faults' : ℕ) → HasFailed tried now faults faults' → HasTried 0 tried now faults faults'
tried_none tried now faults faults' (rose, inr top) = record { rose = rose; used = inr top }
tried_none tried now faults faults' (rose, inl used) = record { rose = rose; used = inl (omega (arith, used)) }

pub tried_same : (tried now faults faults' : ℕ) → now ≡ tried → faults' ≡ faults → HasTried 0 tried now faults faults'
tried_same tried now faults faults' same calm = record { rose = omega (arith, calm); used = inl (omega (arith, same, calm)) }
