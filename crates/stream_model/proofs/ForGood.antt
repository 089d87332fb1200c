-- A way is over for good.
use Rattle.std.proofs.Common.{◌≡◌, ℕ, Bool, true, false, cond, List, ◌∷◌, Option, None, refl, ap, subst, arith, ltb}
use Rattle.std.proofs.lemmas.Bool.Decides.{nat_tests}
use Rattle.rs_wire.specs.declared.words.Role.{Role}
use Rattle.rs_wire.specs.declared.words.Way.{Way}
use Rattle.stream_model.specs.Marks.{Mark, Opens, Passed, Sent, Got, Pushed, Took, TookJob}
use Rattle.stream_model.specs.Turns.{Turn, Word, Said, Taken, other}
use Rattle.stream_model.specs.Streams.{turn, turn_after, goes_on, on, live}
use Rattle.stream_model.specs.Fair.{Fair, Fits}
use Rattle.stream_model.specs.Laws.{IsOver, OverForGood}
use Rattle.stream_model.proofs.Words.{over_stays}
use Rattle.stream_model.proofs.Ids.{fresh}

still_over : (t : Option Turn) (word : Role → Word) (w : Way) → IsOver t w → IsOver (goes_on t word) w
still_over t word w h = (record { opening = h.0.opening; words = word h.0.opening.role ∷ h.0.words }, ap (λ t. goes_on t word) h.1, over_stays h.0.opening h.0.words (word h.0.opening.role) w h.2)

over_here : (most : ℕ) (seen : List Mark) (m : Mark) (s : ℕ) (room : Bool) (w : Way) → on s m ≡ true → Fits most seen m → IsOver (turn most seen s) w → IsOver (turn_after room m (turn most seen s)) w
over_here most seen (Opens q o) s room w is f h =
    let same : q ≡ s = grind (arith, nat_tests) in
    let none : turn most seen s ≡ None = subst (λ k. turn most seen k ≡ None) same (fresh most seen q f.fresh) in
    let some = h.1 in
    absurd (cc)
over_here most seen (Passed q) s room w is f h = h
over_here most seen (Sent q step) s room w is f h = still_over (turn most seen s) (λ role. Said role step) w h
over_here most seen (Got q step) s room w is f h = still_over (turn most seen s) (λ role. Said (other role) step) w h
over_here most seen (Pushed metadata) s room w is f h = h
over_here most seen (Took q d) s room w is f h = still_over (turn most seen s) (λ role. Taken d) w h
over_here most seen TookJob s room w is f h = h

-- whatever is seen next
pub over_for_good : (most : ℕ) (seen : List Mark) (m : Mark) → Fair most (m ∷ seen) → OverForGood most seen m
unfolding Fair turn
over_for_good most seen m h s w is =
    elim (on s m) as (λ v. on s m ≡ v → IsOver (cond v (turn_after (ltb (live most seen) most) m (turn most seen s)) (turn most seen s)) w) [
      | true ↦ λ here. over_here most seen m s (ltb (live most seen) most) w here h.1 is
      | false ↦ λ here. is
    ] refl
