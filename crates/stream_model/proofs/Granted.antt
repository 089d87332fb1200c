-- How much was granted on a way.
use Rattle.std.proofs.Common.{◌≡◌, ◌≤◌, ◌<◌, ◌+◌, ◌*◌, ◌^◌, ℕ, Bool, true, false, cond, List, [], ◌∷◌, length, Option, Some, None, refl, subst, arith, ltb}
use Rattle.rs_wire.specs.declared.words.Kind.{Kind}
use Rattle.rs_wire.specs.declared.words.Role.{Role}
use Rattle.rs_wire.specs.declared.words.Way.{Way}
use Rattle.rs_wire.specs.declared.words.Way.TheVariants as way
use Rattle.stream_model.specs.Marks.{Opening, Payload, RequestN, Cancel, Fail, Mark, Opens, Passed, Sent, Got, Pushed, Took, TookJob}
use Rattle.stream_model.specs.Turns.{Turn, Word, Said, Taken, granted, grants, may_grant, first_grant, other}
use Rattle.stream_model.specs.Streams.{turn, turn_after, goes_on, is_admitted, on, live}
use Rattle.stream_model.specs.Fair.{Fair, Fits, FitsTurn, GrantsAmount}
use Rattle.stream_model.specs.Laws.{GrantedWithin}
use Rattle.stream_model.proofs.Streams.{fits_here}

-- so many at most were granted on each way of a stream
abbrev pub AtMost : Option Turn → ℕ → Type 0
AtMost None n = Unit {0}
AtMost (Some t) n = (w : Way) → granted t.opening t.words w ≤ n

granted_here : (b : Bool) (n : ℕ) → n < 2 ^ 31 → cond b n 0 ≤ 2 ^ 31
granted_here true n lt = omega arith
granted_here false n lt = omega arith

-- a word grants fewer than 2 ^ 31
few_granted : (kind : Kind) (w : Way) (x : Word) → GrantsAmount x → grants kind w x ≤ 2 ^ 31
few_granted kind w (Said by (RequestN n)) lt = granted_here (may_grant kind w by) n lt
few_granted kind w (Said by (Payload m complete next)) h = omega arith
few_granted kind w (Said by Cancel) h = omega arith
few_granted kind w (Said by (Fail code content)) h = omega arith
few_granted kind w (Taken d) h = omega arith

first_within : (w : Way) (n : ℕ) → n < 2 ^ 31 → first_grant w n ≤ 2 ^ 31
first_within way.Reply n lt = omega arith
first_within way.Request n lt = omega arith

wider : (t : Option Turn) (n m : ℕ) → n ≤ m → AtMost t n → AtMost t m
wider None n m le h = tt
wider (Some t) n m le h = λ w. let l = h w in omega arith

within_on : (t : Option Turn) (word : Role → Word) (n : ℕ) → AtMost t n → FitsTurn t word → AtMost (goes_on t word) (n + 2 ^ 31)
unfolding granted
within_on None word n h f = tt
within_on (Some t) word n h f = λ w. let before = h w in let more = few_granted t.opening.kind w (word t.opening.role) f.grant in omega arith

opened_within : (admitted : Bool) (o : Opening) (t : Option Turn) (n : ℕ) → o.initial < 2 ^ 31 → AtMost t n → AtMost (cond admitted (Some (record { opening = o; words = [] })) t) (n + 2 ^ 31)
unfolding granted
opened_within true o t n lt h = λ w. let first = first_within w o.initial lt in omega arith
opened_within false o t n lt h = wider t n (n + 2 ^ 31) (omega arith) h

within_here : (most : ℕ) (seen : List Mark) (m : Mark) (s n : ℕ) (room : Bool) → on s m ≡ true → Fits most seen m → AtMost (turn most seen s) n → AtMost (turn_after room m (turn most seen s)) (n + 2 ^ 31)
within_here most seen (Opens q o) s n room is f h = opened_within (is_admitted room o) o (turn most seen s) n f.initial h
within_here most seen (Passed q) s n room is f h = wider (turn most seen s) n (n + 2 ^ 31) (omega arith) h
within_here most seen (Sent q step) s n room is f h = within_on (turn most seen s) (λ role. Said role step) n h (fits_here most seen q s is (λ role. Said role step) f)
within_here most seen (Got q step) s n room is f h = within_on (turn most seen s) (λ role. Said (other role) step) n h (fits_here most seen q s is (λ role. Said (other role) step) f)
within_here most seen (Pushed metadata) s n room is f h = wider (turn most seen s) n (n + 2 ^ 31) (omega arith) h
within_here most seen (Took q d) s n room is f h = within_on (turn most seen s) (λ role. Taken d) n h (fits_here most seen q s is (λ role. Taken d) f)
within_here most seen TookJob s n room is f h = wider (turn most seen s) n (n + 2 ^ 31) (omega arith) h

-- each mark grants fewer than 2 ^ 31
pub granted_at_most : (most : ℕ) (seen : List Mark) (s : ℕ) → Fair most seen → AtMost (turn most seen s) (2 ^ 31 * length seen)
unfolding Fair turn
granted_at_most most [] s h = tt
granted_at_most most (m ∷ seen) s h =
    let before = granted_at_most most seen s h.0 in
    let n : 2 ^ 31 * length seen + 2 ^ 31 ≡ 2 ^ 31 * length (m ∷ seen) = omega arith in
    subst (AtMost (turn most (m ∷ seen) s)) n
    (elim (on s m) as (λ v. on s m ≡ v → AtMost (cond v (turn_after (ltb (live most seen) most) m (turn most seen s)) (turn most seen s)) (2 ^ 31 * length seen + 2 ^ 31)) [
      | true ↦ λ here. within_here most seen m s (2 ^ 31 * length seen) (ltb (live most seen) most) here h.1 before
      | false ↦ λ here. wider (turn most seen s) (2 ^ 31 * length seen) (2 ^ 31 * length seen + 2 ^ 31) (omega arith) before
    ] refl)

pub grants_few : (most : ℕ) (seen : List Mark) → Fair most seen → GrantedWithin most seen
grants_few most seen h s t w is = let all : AtMost (Some t) (2 ^ 31 * length seen) = subst (λ t. AtMost t (2 ^ 31 * length seen)) is (granted_at_most most seen s h) in all w
