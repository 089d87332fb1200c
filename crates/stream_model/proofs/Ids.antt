-- The ids that were used, and the streams that a mark changes.
use Rattle.std.proofs.Common.{◌≡◌, ◌≤◌, ◌<◌, ◌%◌, ◌==◌, ℕ, Bool, true, false, cond, List, [], ◌∷◌, Some, None, max, refl, ◌∙◌, arith, ltb}
use Rattle.std.proofs.lemmas.Bool.Decides.{nat_tests}
use Rattle.stream_model.specs.Marks.{Opening, Step, Mark, Opens, Passed, Sent, Got, Pushed, Took, TookJob}
use Rattle.stream_model.specs.Turns.{Said, Taken, other}
use Rattle.stream_model.specs.Streams.{turn, turn_after, goes_on, is_admitted, live, on, highest, higher, higher_in, top}
use Rattle.stream_model.specs.Fair.{Fair, Fits}
use Rattle.rs_wire.specs.declared.delivery.Delivery.{Delivery}

-- a mark is a request, or one that is passed over
abbrev pub is_opening : Mark → Bool
is_opening (Opens s o) = true
is_opening (Passed s) = true
is_opening m = false

-- ---- the highest ids

pub highest_said : (parity : ℕ) (seen : List Mark) (m : Mark) → is_opening m ≡ false → highest parity (m ∷ seen) ≡ highest parity seen
unfolding highest
highest_said parity seen (Opens s o) none = absurd (cc)
highest_said parity seen (Passed s) none = absurd (cc)
highest_said parity seen (Sent s step) none = refl
highest_said parity seen (Got s step) none = refl
highest_said parity seen (Pushed metadata) none = refl
highest_said parity seen (Took s d) none = refl
highest_said parity seen TookJob none = refl

pub highest_opens : (parity : ℕ) (seen : List Mark) (s : ℕ) (o : Opening) → highest parity (Opens s o ∷ seen) ≡ higher parity s (highest parity seen)
unfolding highest
highest_opens parity seen s o = refl

pub highest_passed : (parity : ℕ) (seen : List Mark) (s : ℕ) → highest parity (Passed s ∷ seen) ≡ higher parity s (highest parity seen)
unfolding highest
highest_passed parity seen s = refl

pub top_said : (seen : List Mark) (m : Mark) → is_opening m ≡ false → top (m ∷ seen) ≡ top seen
top_said seen m none = rw (highest_said 0 seen m none, highest_said 1 seen m none) refl

-- a request raises the highest id to its own at least
top_raised : (s even odd : ℕ) → (max even odd ≤ max (higher 0 s even) (higher 1 s odd)) × (s ≤ max (higher 0 s even) (higher 1 s odd))
top_raised s even odd =
    elim (s % 2 == 0) as (λ v. (s % 2 == 0) ≡ v → (max even odd ≤ max (cond v (max s even) even) (higher 1 s odd)) × (s ≤ max (cond v (max s even) even) (higher 1 s odd))) [
      | true ↦ λ is. let p : (s % 2 == 1) ≡ false = grind (arith, nat_tests) in rw p (omega arith, omega arith)
      | false ↦ λ is. let p : (s % 2 == 1) ≡ true = grind (arith, nat_tests) in rw p (omega arith, omega arith)
    ] refl

pub top_opens : (seen : List Mark) (s : ℕ) (o : Opening) → (top seen ≤ top (Opens s o ∷ seen)) × (s ≤ top (Opens s o ∷ seen))
top_opens seen s o = rw (highest_opens 0 seen s o, highest_opens 1 seen s o) (top_raised s (highest 0 seen) (highest 1 seen))

pub top_passed : (seen : List Mark) (s : ℕ) → top seen ≤ top (Passed s ∷ seen)
top_passed seen s = rw (highest_passed 0 seen s, highest_passed 1 seen s) (top_raised s (highest 0 seen) (highest 1 seen)).0

-- an id above the highest is above all of its parity
pub above_top : (seen : List Mark) (s : ℕ) → top seen < s → highest (s % 2) seen < s
above_top seen s above =
    elim (s % 2 == 0) as (λ v. (s % 2 == 0) ≡ v → highest (s % 2) seen < s) [
      | true ↦ λ is. let p : s % 2 ≡ 0 = grind (arith, nat_tests) in rw p (omega arith)
      | false ↦ λ is. let p : s % 2 ≡ 1 = grind (arith, nat_tests) in rw p (omega arith)
    ] refl

-- ---- the streams of ids that no request used

higher_least : (s q h : ℕ) → higher (s % 2) q h < s → ((q == s) ≡ false) × (h < s)
higher_least s q h lt =
    elim (q % 2 == s % 2) as (λ v. (q % 2 == s % 2) ≡ v → cond v (max q h) h < s → ((q == s) ≡ false) × (h < s)) [
      | true ↦ λ is lt. (grind (arith, nat_tests), omega arith)
      | false ↦ λ is lt. (elim (q == s) as (λ v. (q == s) ≡ v → (v ≡ false)) [ true ↦ λ e. let same : s ≡ q = grind (arith, nat_tests) in let again : (q % 2 == s % 2) ≡ true = grind (arith, nat_tests) in absurd (cc) | false ↦ λ e. refl ] refl, lt)
    ] refl lt

either : {A : Type 0} (b : Bool) (x y z : A) → x ≡ z → y ≡ z → cond b x y ≡ z
either true x y z e f = e
either false x y z e f = f

-- a mark that is no request, and no other request, gives an id no stream
fresh_step : (most : ℕ) (seen : List Mark) (s : ℕ) (m : Mark) (room : Bool) → higher_in (s % 2) m (highest (s % 2) seen) < s → (highest (s % 2) seen < s → turn most seen s ≡ None)
    → cond (on s m) (turn_after room m (turn most seen s)) (turn most seen s) ≡ None
fresh_step most seen s (Opens q o) room h before = let l = higher_least s q (highest (s % 2) seen) h in rw l.0 (before l.1)
fresh_step most seen s (Passed q) room h before = before (higher_least s q (highest (s % 2) seen) h).1
fresh_step most seen s (Sent q step) room h before = let none = before h in either (q == s) _ _ None (rw none refl) none
fresh_step most seen s (Got q step) room h before = let none = before h in either (q == s) _ _ None (rw none refl) none
fresh_step most seen s (Pushed metadata) room h before = before h
fresh_step most seen s (Took q d) room h before = let none = before h in either (q == s) _ _ None (rw none refl) none
fresh_step most seen s TookJob room h before = before h

-- an id above all of its parity has no stream
pub fresh : (most : ℕ) (seen : List Mark) (s : ℕ) → highest (s % 2) seen < s → turn most seen s ≡ None
unfolding turn highest
fresh most [] s h = refl
fresh most (m ∷ seen) s h = fresh_step most seen s m (ltb (live most seen) most) h (fresh most seen s)

pub none_above : (most : ℕ) (seen : List Mark) (s : ℕ) → top seen < s → turn most seen s ≡ None
none_above most seen s above = fresh most seen s (above_top seen s above)

pub same_id : (s : ℕ) → (s == s) ≡ true
same_id s = grind (arith, nat_tests)

-- ---- a mark changes one stream at most

elsewhere : (m : Mark) (s q : ℕ) → on s m ≡ true → (s == q) ≡ false → on q m ≡ false
elsewhere (Opens r o) s q is apart = grind (arith, nat_tests)
elsewhere (Passed r) s q is apart = absurd (cc)
elsewhere (Sent r step) s q is apart = grind (arith, nat_tests)
elsewhere (Got r step) s q is apart = grind (arith, nat_tests)
elsewhere (Pushed metadata) s q is apart = absurd (cc)
elsewhere (Took r d) s q is apart = grind (arith, nat_tests)
elsewhere TookJob s q is apart = absurd (cc)

pub others_stay : (most : ℕ) (seen : List Mark) (m : Mark) (s q : ℕ) → on s m ≡ true → (s == q) ≡ false → turn most (m ∷ seen) q ≡ turn most seen q
unfolding turn
others_stay most seen m s q is apart = rw (elsewhere m s q is apart) refl

pub turn_opened : (most : ℕ) (seen : List Mark) (s : ℕ) (o : Opening) → highest (s % 2) seen < s → turn most (Opens s o ∷ seen) s ≡ cond (is_admitted (ltb (live most seen) most) o) (Some (record { opening = o; words = [] })) None
unfolding turn
turn_opened most seen s o h = rw (same_id s, fresh most seen s h) refl

pub turn_sent : (most : ℕ) (seen : List Mark) (s : ℕ) (step : Step) → turn most (Sent s step ∷ seen) s ≡ goes_on (turn most seen s) (λ role. Said role step)
unfolding turn
turn_sent most seen s step = rw (same_id s) refl

pub turn_got : (most : ℕ) (seen : List Mark) (s : ℕ) (step : Step) → turn most (Got s step ∷ seen) s ≡ goes_on (turn most seen s) (λ role. Said (other role) step)
unfolding turn
turn_got most seen s step = rw (same_id s) refl

pub turn_took : (most : ℕ) (seen : List Mark) (s : ℕ) (d : Delivery) → turn most (Took s d ∷ seen) s ≡ goes_on (turn most seen s) (λ role. Taken d)
unfolding turn
turn_took most seen s d = rw (same_id s) refl

pub turn_job : (most : ℕ) (seen : List Mark) (s : ℕ) → turn most (TookJob ∷ seen) s ≡ turn most seen s
unfolding turn
turn_job most seen s = refl

pub turn_passed : (most : ℕ) (seen : List Mark) (r s : ℕ) → turn most (Passed r ∷ seen) s ≡ turn most seen s
unfolding turn
turn_passed most seen r s = refl

pub turn_pushed : (most : ℕ) (seen : List Mark) (metadata : List ℕ) (s : ℕ) → turn most (Pushed metadata ∷ seen) s ≡ turn most seen s
unfolding turn
turn_pushed most seen metadata s = refl

-- a mark that is no request gives an id no stream
none_on : (m : Mark) (room : Bool) → is_opening m ≡ false → turn_after room m None ≡ None
none_on (Opens q o) room e = absurd (cc)
none_on (Passed q) room e = absurd (cc)
none_on (Sent q step) room e = refl
none_on (Got q step) room e = refl
none_on (Pushed metadata) room e = refl
none_on (Took q d) room e = refl
none_on TookJob room e = refl

pub still_none : (most : ℕ) (seen : List Mark) (m : Mark) (s : ℕ) → is_opening m ≡ false → turn most seen s ≡ None → turn most (m ∷ seen) s ≡ None
unfolding turn
still_none most seen m s quiet none = either (on s m) _ _ None (rw none (none_on m (ltb (live most seen) most) quiet)) none

-- ---- no stream has the id 0

no_zero_step : (most : ℕ) (seen : List Mark) (m : Mark) → Fits most seen m → turn most seen 0 ≡ None → turn most (m ∷ seen) 0 ≡ None
no_zero_step most seen (Opens q o) f none =
    let h = f.fresh in
    let apart : (q == 0) ≡ false = grind (arith, nat_tests) in
    others_stay most seen (Opens q o) q 0 (same_id q) apart ∙ none
no_zero_step most seen (Passed q) f none = turn_passed most seen q 0 ∙ none
no_zero_step most seen (Sent q step) f none = still_none most seen (Sent q step) 0 refl none
no_zero_step most seen (Got q step) f none = still_none most seen (Got q step) 0 refl none
no_zero_step most seen (Pushed metadata) f none = still_none most seen (Pushed metadata) 0 refl none
no_zero_step most seen (Took q d) f none = still_none most seen (Took q d) 0 refl none
no_zero_step most seen TookJob f none = still_none most seen TookJob 0 refl none

pub no_zero : (most : ℕ) (seen : List Mark) → Fair most seen → turn most seen 0 ≡ None
unfolding Fair turn
no_zero most [] h = refl
no_zero most (m ∷ seen) h = no_zero_step most seen m h.1 (no_zero most seen h.0)
