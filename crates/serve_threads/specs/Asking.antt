-- What waiting for links does to a net.
use Rattle.std.specs.Prelude.{zero, suc, ◌≡◌, ◌+◌, ◌≤◌, ℕ, Bool, List, [], ◌∷◌, ◌++◌, Option, Some, None, Err, refl}
use Rattle.std.specs.Option.{option_map}
use Rattle.std.proofs.Common.{◌∙◌, sym, ap, append_assoc, append-nil}
use Rattle.std.proofs.Math.Nat.{suc-add, zero-add}
use Rattle.outside.specs.Causes.{Rose, one_more}
use Rattle.outside.specs.Links.{Shown}
use Rattle.outside.specs.Nets.{asked_after, faults_after}
use Rattle.outside.specs.declared.net.Ask.{Ask}
use Rattle.outside.specs.declared.net.Ask.TheVariants as ask
use Rattle.outside.specs.declared.net.NetFault.{NetFault}
use Rattle.outside.specs.declared.net.NetFault.TheVariants as net_fault

-- a count of links that are out, after so many more were handed out
unfoldable pub out_after : ℕ → ℕ → ℕ
out_after zero out = out
out_after (suc k) out = out_after k (one_more out)

-- the same ask, so many times
abbrev pub repeated : ℕ → Ask → List Ask
repeated zero a = []
repeated (suc k) a = a ∷ repeated k a

-- So many links were accepted, and nothing else was asked or put back.
pub record AreAccepted {N : Type 0} (asked : N → Option (List Ask)) (back : N → Option (List Shown)) (out faults : N → ℕ) (ws : Bool) (k : ℕ) (old new : N) : Type 0 where
  pub asked_is : asked new ≡ option_map (λ (was : List Ask). was ++ repeated k (ask.Accept ws)) (asked old)
  pub back_is : back new ≡ back old
  pub out_is : out new ≡ out_after k (out old)
  pub faults_is : faults new ≡ faults old

-- One wait was in vain, for this fault.
pub record WasMissed {N : Type 0} (X : Type 0) (asked : N → Option (List Ask)) (back : N → Option (List Shown)) (out faults : N → ℕ) (ws : Bool) (fault : NetFault) (old new : N) : Type 0 where
  pub asked_is : asked new ≡ asked_after {X = X} (Err fault) (asked old) (ask.Accept ws)
  pub back_is : back new ≡ back old
  pub out_is : out new ≡ out old
  pub faults_is : faults new ≡ faults_after {X = X} (Err fault) (faults old)
  pub counted : faults old ≤ faults new
  pub cause : fault ≡ net_fault.Failed → Rose (faults old) (faults new)

-- ---- laws

mapped_none : (o : Option (List Ask)) → o ≡ option_map (λ (was : List Ask). was ++ []) o
mapped_none None = refl
mapped_none (Some was) = ap Some (sym (append-nil was))

mapped_both : (o : Option (List Ask)) (xs ys zs : List Ask) → xs ++ ys ≡ zs → option_map (λ (was : List Ask). was ++ ys) (option_map (λ (was : List Ask). was ++ xs) o) ≡ option_map (λ (was : List Ask). was ++ zs) o
mapped_both None xs ys zs e = refl
mapped_both (Some was) xs ys zs e = ap Some (append_assoc was xs ys ∙ ap (λ (l : List Ask). was ++ l) e)

repeated_both : (j k : ℕ) (a : Ask) → repeated j a ++ repeated k a ≡ repeated (j + k) a
repeated_both zero k a = ap (λ (n : ℕ). repeated n a) (sym (zero-add k))
repeated_both (suc j) k a = ap (λ (l : List Ask). a ∷ l) (repeated_both j k a) ∙ ap (λ (n : ℕ). repeated n a) (sym (suc-add j k))

out_both : (j k out : ℕ) → out_after k (out_after j out) ≡ out_after (j + k) out
unfolding out_after
out_both zero k out = ap (λ (n : ℕ). out_after n out) (sym (zero-add k))
out_both (suc j) k out = out_both j k (one_more out) ∙ ap (λ (n : ℕ). out_after n out) (sym (suc-add j k))

module _ {N : Type 0} (asked : N → Option (List Ask)) (back : N → Option (List Shown)) (out faults : N → ℕ) (ws : Bool) where
  -- no link was accepted
  pub none_accepted : (n : N) → AreAccepted asked back out faults ws 0 n n
  unfolding out_after
  none_accepted n = record { asked_is = mapped_none (asked n); back_is = refl; out_is = refl; faults_is = refl }

  -- some were, and then some more
  pub more_accepted : (j k : ℕ) (a b c : N) → AreAccepted asked back out faults ws j a b → AreAccepted asked back out faults ws k b c → AreAccepted asked back out faults ws (j + k) a c
  more_accepted j k a b c x y = record {
    asked_is = y.asked_is
        ∙ ap (λ (o : Option (List Ask)). option_map (λ (was : List Ask). was ++ repeated k (ask.Accept ws)) o) x.asked_is
        ∙ mapped_both (asked a) (repeated j (ask.Accept ws)) (repeated k (ask.Accept ws)) (repeated (j + k) (ask.Accept ws)) (repeated_both j k (ask.Accept ws));
    back_is = y.back_is ∙ x.back_is;
    out_is = y.out_is ∙ ap (λ (n : ℕ). out_after k n) x.out_is ∙ out_both j k (out a);
    faults_is = y.faults_is ∙ x.faults_is;
  }
