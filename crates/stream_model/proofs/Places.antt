-- No more streams are open than may be.
use Rattle.std.proofs.Common.{◌≡◌, ◌≤◌, ◌<◌, ◌+◌, ◌&&◌, ◌||◌, ℕ, Bool, true, false, not, cond, List, [], ◌∷◌, Option, Some, None, IsSome, is_some, refl, arith}
use Rattle.std.proofs.lemmas.Bool.Decides.{nat_tests}
use Rattle.std.proofs.lemmas.Bool.{and_parts}
use Rattle.rs_wire.specs.declared.words.Kind.{Kind}
use Rattle.rs_wire.specs.declared.words.Kind.TheVariants.{Response, Fnf, Stream, Channel}
use Rattle.rs_wire.specs.declared.words.Role.{Role}
use Rattle.rs_wire.specs.declared.words.Role.TheVariants.{Requester, Responder}
use Rattle.rs_wire.specs.declared.words.Way.TheVariants as way
use Rattle.rs_wire.specs.declared.message.Message.{Message}
use Rattle.stream_model.specs.Marks.{Opening, Mark, Opens, Passed, Sent, Got, Pushed, Took, TookJob}
use Rattle.stream_model.specs.Turns.{Turn, Word, Said, Taken, over, is_fnf, is_role, ends, opening_ends, other}
use Rattle.stream_model.specs.Streams.{turn, live, on, is_live, one_if, is_admitted, goes_on, highest, count_to, has_room}
use Rattle.stream_model.specs.Fair.{Fair, Fits, FindsPlace}
use Rattle.stream_model.specs.Laws.{LiveWithin}
use Rattle.stream_model.proofs.Ids.{is_opening, same_id, turn_opened, turn_sent, turn_got, turn_took}
use Rattle.stream_model.proofs.Live.{live_said, live_opens, live_passed, live_pushed, live_job}

-- ---- a request

-- a whole fire-and-forget is over at once
fnf_over : (kind : Kind) (whole : Option (Message × Bool)) → is_fnf kind ≡ true → is_some whole ≡ true → (opening_ends kind whole way.Request && opening_ends kind whole way.Reply) ≡ true
fnf_over Fnf (Some m) f w = refl
fnf_over Fnf None f w = absurd (cc)
fnf_over Response whole f w = absurd (cc)
fnf_over Stream whole f w = absurd (cc)
fnf_over Channel whole f w = absurd (cc)

-- a stream that a request opens
abbrev opened : Bool → Opening → Option Turn
opened admitted o = cond admitted (Some (record { opening = o; words = [] })) None

over_at_once : (admitted : Bool) (o : Opening) → is_fnf o.kind ≡ true → is_some o.whole ≡ true → is_live (opened admitted o) ≡ false
unfolding over
over_at_once true o f w = rw (fnf_over o.kind o.whole f w) refl
over_at_once false o f w = refl

one_at_most : (b : Bool) → one_if b ≤ 1
one_at_most true = omega arith
one_at_most false = omega arith

-- the place of a request of this end's, where so many streams are open
abbrev FindsOwn : Opening → ℕ → ℕ → Type 0
FindsOwn o n most = IsSome o.whole × (is_fnf o.kind ≡ false → n < most)

-- a request of this end's finds a place, or is over at once
own_place : (o : Opening) (n most : ℕ) → FindsOwn o n most → n ≤ most → one_if (is_live (opened true o)) + n ≤ most
own_place o n most f le =
    elim (is_fnf o.kind) as (λ v. is_fnf o.kind ≡ v → one_if (is_live (opened true o)) + n ≤ most) [
      | true ↦ λ fnf. rw (over_at_once true o fnf f.0) (omega arith)
      | false ↦ λ other. let lt = f.1 other in let one = one_at_most (is_live (opened true o)) in omega arith
    ] refl

-- one of the peer's is admitted where there is a place, or is over at once
peer_place : (o : Opening) (n most : ℕ) (room : Bool) → (room ≡ true → n < most) → n ≤ most → one_if (is_live (opened (room || (is_fnf o.kind && is_some o.whole)) o)) + n ≤ most
peer_place o n most true f le = let lt = f refl in let one = one_at_most (is_live (opened true o)) in omega arith
peer_place o n most false f le =
    elim (is_fnf o.kind && is_some o.whole) as (λ v. (is_fnf o.kind && is_some o.whole) ≡ v → one_if (is_live (opened v o)) + n ≤ most) [
      | true ↦ λ is. let b = and_parts (is_fnf o.kind) (is_some o.whole) is in rw (over_at_once true o b.0 b.1) (omega arith)
      | false ↦ λ is. omega arith
    ] refl

place_by : (role : Role) (most : ℕ) (seen : List Mark) (o : Opening) → FindsPlace most seen o role → live most seen ≤ most
    → one_if (is_live (opened (is_role role Requester || has_room most seen || (is_fnf o.kind && is_some o.whole)) o)) + live most seen ≤ most
place_by Requester most seen o f le = own_place o (live most seen) most f le
place_by Responder most seen o f le = peer_place o (live most seen) most (has_room most seen) (λ is. grind (arith, nat_tests)) le

-- ---- a word

less_over : (a b c d : Bool) → one_if (not ((a || c) && (b || d))) ≤ one_if (not (a && b))
less_over true true c d = omega arith
less_over true false c d = one_at_most (not (true && (false || d)))
less_over false b c d = one_at_most (not ((false || c) && (b || d)))

-- no stream that was over is open again
less_live : (t : Option Turn) (word : Role → Word) → one_if (is_live (goes_on t word)) ≤ one_if (is_live t)
unfolding over
less_live None word = omega arith
less_live (Some t) word = less_over (over t.opening t.words way.Request) (over t.opening t.words way.Reply) (ends t.opening.kind way.Request (word t.opening.role)) (ends t.opening.kind way.Reply (word t.opening.role))

said_place : (most : ℕ) (seen : List Mark) (m : Mark) (s : ℕ) (word : Role → Word) → Fair most seen → on s m ≡ true → is_opening m ≡ false → turn most (m ∷ seen) s ≡ goes_on (turn most seen s) word → live most seen ≤ most
    → live most (m ∷ seen) ≤ most
said_place most seen m s word h here quiet is le =
    let count = live_said most seen m s h here quiet in
    let after : one_if (is_live (turn most (m ∷ seen) s)) ≤ one_if (is_live (turn most seen s)) = rw is (less_live (turn most seen s) word) in
    omega arith

place_after : (most : ℕ) (seen : List Mark) (m : Mark) → Fair most seen → Fits most seen m → live most seen ≤ most → live most (m ∷ seen) ≤ most
place_after most seen (Opens s o) h f le =
    let e : turn most (Opens s o ∷ seen) s ≡ opened (is_admitted (has_room most seen) o) o = turn_opened most seen s o f.fresh in
    rw (live_opens most seen s o f.fresh, e) (place_by o.role most seen o f.place le)
place_after most seen (Passed s) h f le = rw (live_passed most seen s) le
place_after most seen (Sent s step) h f le = said_place most seen (Sent s step) s (λ role. Said role step) h (same_id s) refl (turn_sent most seen s step) le
place_after most seen (Got s step) h f le = said_place most seen (Got s step) s (λ role. Said (other role) step) h (same_id s) refl (turn_got most seen s step) le
place_after most seen (Pushed metadata) h f le = rw (live_pushed most seen metadata) le
place_after most seen (Took s d) h f le = said_place most seen (Took s d) s (λ role. Taken d) h (same_id s) refl (turn_took most seen s d) le
place_after most seen TookJob h f le = rw (live_job most seen) le

live_none : (most : ℕ) → live most [] ≡ 0
unfolding turn highest count_to
live_none most = refl

-- there is a place for each stream that is open
pub live_within : (most : ℕ) (seen : List Mark) → Fair most seen → LiveWithin most seen
unfolding Fair
live_within most [] h = rw (live_none most) (omega arith)
live_within most (m ∷ seen) h = place_after most seen m h.0 h.1 (live_within most seen h.0)
