-- One link that came.
use Rattle.std.proofs.Common.{◌≡◌, ◌++◌, ◌∷◌, [], ℕ, Bool, List, Option}
use Rattle.std.specs.Option.{option_map}
use Rattle.outside.specs.Causes.{one_more}
use Rattle.outside.specs.Links.{Shown}
use Rattle.outside.specs.declared.net.Ask.{Ask}
use Rattle.outside.specs.declared.net.Ask.TheVariants as ask
use Rattle.serve_threads.specs.Asking.{AreAccepted, out_after}

pub one_accepted : {N : Type 0} (asked : N → Option (List Ask)) (back : N → Option (List Shown)) (out faults : N → ℕ) (ws : Bool) (n m : N) → asked m ≡ option_map (λ (was : List Ask). was ++ ask.Accept ws ∷ []) (asked n) → back m ≡ back n → out m ≡ one_more (out n) → faults m ≡ faults n
    → AreAccepted asked back out faults ws 1 n m
unfolding out_after
one_accepted asked back out faults ws n m was same more none = record { asked_is = was; back_is = same; out_is = more; faults_is = none }
