-- The words of each stream fit.
use Rattle.std.proofs.Common.{◌≡◌, ◌==◌, ℕ, Bool, true, false, cond, List, [], ◌∷◌, Option, Some, None, refl, subst, arith, ltb}
use Rattle.std.proofs.lemmas.Bool.Decides.{nat_tests}
use Rattle.stream_model.specs.Turns.{Turn, Word, Said, Taken, other}
use Rattle.rs_wire.specs.declared.words.Role.{Role}
use Rattle.stream_model.specs.Marks.{Mark, Opens, Passed, Sent, Got, Pushed, Took, TookJob}
use Rattle.stream_model.specs.Streams.{turn, turn_after, live, on, goes_on, is_admitted}
use Rattle.stream_model.specs.Fair.{Fair, Fits, FitsTurn, FairWords}

abbrev pub FairTurn : Option Turn → Type 0
FairTurn None = Unit {0}
FairTurn (Some t) = FairWords t.opening t.words

fair_on : (before : Option Turn) (word : Role → Word) → FairTurn before → FitsTurn before word → FairTurn (goes_on before word)
unfolding FairWords
fair_on None word h f = tt
fair_on (Some t) word h f = (h, f)

pub fits_here : (most : ℕ) (seen : List Mark) (q s : ℕ) → (q == s) ≡ true → (word : Role → Word) → FitsTurn (turn most seen q) word → FitsTurn (turn most seen s) word
fits_here most seen q s is word f = let same : q ≡ s = grind (arith, nat_tests) in subst (λ k. FitsTurn (turn most seen k) word) same f

-- a mark on this very stream
fair_after : (most : ℕ) (seen : List Mark) (m : Mark) (s : ℕ) (room : Bool) → on s m ≡ true → FairTurn (turn most seen s) → Fits most seen m → FairTurn (turn_after room m (turn most seen s))
unfolding FairWords
fair_after most seen (Opens q o) s room is h f = elim (is_admitted room o) as (λ v. FairTurn (cond v (Some (record { opening = o; words = [] })) (turn most seen s))) [ true ↦ tt | false ↦ h ]
fair_after most seen (Passed q) s room is h f = h
fair_after most seen (Sent q step) s room is h f = fair_on (turn most seen s) (λ role. Said role step) h (fits_here most seen q s is (λ role. Said role step) f)
fair_after most seen (Got q step) s room is h f = fair_on (turn most seen s) (λ role. Said (other role) step) h (fits_here most seen q s is (λ role. Said (other role) step) f)
fair_after most seen (Pushed metadata) s room is h f = h
fair_after most seen (Took q d) s room is h f = fair_on (turn most seen s) (λ role. Taken d) h (fits_here most seen q s is (λ role. Taken d) f)
fair_after most seen TookJob s room is h f = h

pub fair_turn : (most : ℕ) (seen : List Mark) (s : ℕ) → Fair most seen → FairTurn (turn most seen s)
unfolding Fair turn
fair_turn most [] s h = tt
fair_turn most (m ∷ seen) s h =
    let before = fair_turn most seen s h.0 in
    elim (on s m) as (λ v. on s m ≡ v → FairTurn (cond v (turn_after (ltb (live most seen) most) m (turn most seen s)) (turn most seen s))) [ true ↦ λ is. fair_after most seen m s (ltb (live most seen) most) is before h.1 | false ↦ λ is. before ] refl

-- the words of a stream of fair marks
pub fair_words : (most : ℕ) (seen : List Mark) (s : ℕ) (t : Turn) → Fair most seen → turn most seen s ≡ Some t → FairWords t.opening t.words
fair_words most seen s t h is = subst FairTurn is (fair_turn most seen s h)
