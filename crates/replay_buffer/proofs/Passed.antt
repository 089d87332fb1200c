-- Frames that are held no longer, and frames that are forgotten, one by one.
use Rattle.std.proofs.Common.{◌≡◌, ℕ, ◌+◌, ◌-◌, ◌<◌, ◌≤◌, List, [], ◌∷◌, ◌++◌, length, take, drop, min, refl, sym, ap, subst, ◌∙◌, append_assoc, arith, ◌⊎◌, inl, inr, Option, Some, None}
use Rattle.std.specs.Option.{IfSome}
use Rattle.std.proofs.lemmas.List.{drop_at, take-append-drop, take_at}
use Rattle.std.proofs.lemmas.Bool.{cases_lt}
use Rattle.position.specs.Boundaries.{pos_by, frames_from_by, IsBoundaryBy}
use Rattle.position.proofs.Boundaries.{pos-append, boundary_after, boundary_cases, boundary_zero, from-in, from-zero}
use Rattle.position.proofs.Growing.{boundary_rest}
use Rattle.replay_buffer.proofs.Boundaries.{pos_parts}
use Rattle.replay_buffer.specs.Held.{Held, IsHeldBoundary, lesser}
use Rattle.replay_buffer.specs.Stored.{Stored, IsPassed, IsStart, IsTrimmed, first_after, floor_of, frames_of, held_in}

-- the oldest held frames are held no longer
abbrev pub passed_to : Stored → ℕ → ℕ → Stored
passed_to v n first = record v { first = first; below = v.below ++ take n v.held; held = drop n v.held }

pub passed_to-same : (v : Stored) (n first : ℕ) → first ≡ v.first + pos_by length (take n v.held) → IsPassed v (passed_to v n first)
passed_to-same v n first is =
    let cut = take-append-drop n v.held in
    let sum = pos-append length (take n v.held) (drop n v.held) in
    record {
      frames = append_assoc v.below (take n v.held) (drop n v.held) ∙ ap (λ l. v.below ++ l) cut;
      floor = omega (arith, is, pos-append length v.below (take n v.held));
      base = refl;
      end = omega (arith, is, sum, ap (pos_by length) cut);
      spare = refl;
    }

-- the oldest of them
abbrev pub passed_one : Stored → Stored
passed_one v = passed_to v 1 (first_after v)

-- the first frames are those held no longer and some of those held
pub beyond : (v : Stored) (j : ℕ) → pos_by length (take (length v.below + j) (frames_of v)) ≡ pos_by length v.below + pos_by length (take j v.held)
beyond v j =
    pos_parts (frames_of v) (length v.below) j
    ∙ (λ i. pos_by length (take_at v.below v.held (length v.below) refl i) + pos_by length (take j (drop_at v.below v.held (length v.below) refl i)))

-- what a loop that passes frames keeps, where `left` is what it comes to
pub record Passes (left : Held → Held) (old now : Stored) : Type 0 where
  pub same : (hold : ℕ) → left (held_in hold now) ≡ left (held_in hold old)
  pub all : IsPassed old now

pub not_yet : (left : Held → Held) (v : Stored) → Passes left v v
not_yet left v = record { same = λ hold. refl; all = record { frames = refl; floor = refl; base = refl; end = refl; spare = refl } }

pub passes : (left : Held → Held) (old now new : Stored) → Passes left old now → new ≡ passed_one now
    → ((hold : ℕ) → left (held_in hold (passed_one now)) ≡ left (held_in hold now)) → Passes left old new
passes left old now new p is step =
    let one = subst (IsPassed now) (sym is) (passed_to-same now 1 (first_after now) refl) in
    record {
      same = λ hold. ap (λ v. left (held_in hold v)) is ∙ step hold ∙ p.same hold;
      all = record {
        frames = one.frames ∙ p.all.frames;
        floor = one.floor ∙ p.all.floor;
        base = one.base ∙ p.all.base;
        end = one.end ∙ p.all.end;
        spare = one.spare ∙ p.all.spare;
      };
    }

-- what a loop that forgets frames keeps
pub record Forgets (old now : Stored) (low : ℕ) : Type 0 where
  pub same : now ≡ record old { base = now.base; below = now.below }
  pub start : IsStart now low
  pub frames : frames_from_by length (frames_of now) (low - floor_of now) ≡ frames_from_by length (frames_of old) (low - floor_of old)

pub forgets : (old now new : Stored) (low : ℕ) → Forgets old now low → floor_of now < low → low ≤ now.first → pos_by length now.below ≤ now.first
    → new ≡ record now { base = new.base; below = drop 1 now.below } → Forgets old new low
unfolding pos_by
forgets old now new low f less within sum is = go now.below refl
  where
    go : (below : List (List ℕ)) → now.below ≡ below → Forgets old new low
    go [] none = absurd (omega (arith, ap (pos_by length) none))
    go (b ∷ bs) here =
        let fs = bs ++ now.held in
        let all : frames_of now ≡ b ∷ fs = ap (λ l. l ++ now.held) here in
        let later : frames_of new ≡ fs = ap frames_of is ∙ ap (λ l. drop 1 l ++ now.held) here in
        let floor : floor_of new ≡ floor_of now + length b = omega (arith, ap floor_of is, ap (λ l. pos_by length (drop 1 l)) here, ap (pos_by length) here, sum) in
        let boundary = boundary_cases length b fs (low - floor_of now) (subst (λ l. IsBoundaryBy length l (low - floor_of now)) all f.start.1) in
        let rest : (length b ≤ low - floor_of now) × IsBoundaryBy length fs (low - floor_of now - length b) = elim boundary [
          | inl zero ↦ absurd (omega (arith, zero, less))
          | inr both ↦ both
        ] in
        let left : low - floor_of now - length b ≡ low - floor_of new = omega (arith, floor) in
        record {
          same = is ∙ ap (λ (v : Stored). record v { base = new.base; below = drop 1 now.below }) f.same ∙ ap (λ (l : List (List ℕ)). record old { base = new.base; below = l }) (sym (ap (λ (v : Stored). v.below) is));
          start = (omega (arith, rest.0, floor), rw later (subst (IsBoundaryBy length fs) left rest.1));
          frames = rw (later, ← left) (sym (from-in length b fs (low - floor_of now) (omega (arith, less))) ∙ ap (λ l. frames_from_by length l (low - floor_of now)) (sym all) ∙ f.frames);
        }

-- the held frames start where the others end
pub first-start : (v : Stored) → pos_by length v.below ≤ v.first → IsStart v v.first
first-start v within =
    let taken = take_at v.below v.held (length v.below) refl in
    (omega arith, (length v.below, omega (arith, ap (pos_by length) taken)))

-- the position from which on frames stay
pub record Stays (v : Stored) (pin : Option ℕ) (low : ℕ) : Type 0 where
  pub is : low ≡ lesser pin v.first
  pub start : IsStart v low
  pub le : low ≤ v.first

pub stays : (v : Stored) (pin : Option ℕ) (first low : ℕ) → first ≡ v.first → pos_by length v.below ≤ first → low ≡ lesser pin first → IfSome pin (IsStart v) → Stays v pin low
stays v None first low same within is pinned =
    let here : v.first ≡ low = sym (is ∙ same) in
    record { is = sym here; start = subst (IsStart v) here (first-start v (omega (arith, same, within))); le = omega (arith, here) }
stays v (Some p) first low same within is pinned =
    let min_is : low ≡ min p v.first = is ∙ ap (min p) same in
    record { is = min_is; start = start (cases_lt p v.first); le = omega (arith, min_is) }
  where
    start : (p < v.first) ⊎ (v.first ≤ p) → IsStart v low
    start (inl below) = let here : p ≡ low = omega (arith, is, same, below) in subst (IsStart v) here pinned
    start (inr over) = let here : v.first ≡ low = omega (arith, is, same, over) in subst (IsStart v) here (first-start v (omega (arith, same, within)))

-- a start that is not below the others' end stays one
pub start-later : (old new : Stored) (low p : ℕ) → floor_of new ≡ low → frames_of new ≡ frames_from_by length (frames_of old) (low - floor_of old)
    → IsStart old low → low ≤ p → IsStart old p → IsStart new p
start-later old new low p floor frames start le at =
    let sum : (low - floor_of old) + (p - low) ≡ p - floor_of old = omega (arith, start.0) in
    let rest = boundary_rest length (frames_of old) (low - floor_of old) (p - low) start.1 (subst (IsBoundaryBy length (frames_of old)) (sym sum) at.1) in
    (omega (arith, floor), rw (frames, floor) rest)

-- the frames before the position are forgotten once the rest starts there
pub trimmed : (old now : Stored) (low : ℕ) → Forgets old now low → low ≤ floor_of now → pos_by length now.below ≤ now.first
    → (floor_of now ≡ now.first → now.below ≡ []) → IsTrimmed old now low
trimmed old now low f done within none =
    let at : floor_of now ≡ low = omega (arith, f.start.0) in
    let left : low - floor_of now ≡ 0 = omega (arith, at) in
    let first : now.first ≡ old.first = ap (λ (v : Stored). v.first) f.same in
    record {
      same = f.same;
      floor = at;
      frames = sym (from-zero length (frames_of now)) ∙ ap (frames_from_by length (frames_of now)) (sym left) ∙ f.frames;
      within = within;
      none = λ all. none (at ∙ all ∙ sym first);
    }

-- what is pinned can still be read
pub pinned_still : (old now : Stored) (pin : Option ℕ) (low : ℕ) → low ≡ lesser pin old.first → IsStart old low → IsTrimmed old now low
    → IfSome pin (IsStart old) → IfSome pin (IsStart now)
pinned_still old now None low is start t none = tt
pinned_still old now (Some p) low is start t at = start-later old now low p t.floor t.frames start (omega (arith, is)) at

-- ---- where held frames start

-- a boundary of all the frames that is not before the held ones is one of theirs
boundary-held : (below held : List (List ℕ)) (d : ℕ) → pos_by length below ≤ d → IsBoundaryBy length (below ++ held) d → IsBoundaryBy length held (d - pos_by length below)
unfolding pos_by
boundary-held [] held d le is = let here : d ≡ d - 0 = omega arith in subst (IsBoundaryBy length held) here is
boundary-held (b ∷ bs) held d le is = elim (boundary_cases length b (bs ++ held) d is) [
  | inl none ↦
      let here : 0 ≡ d - (length b + pos_by length bs) = omega (arith, none) in
      subst (IsBoundaryBy length held) here (boundary_zero length held)
  | inr after ↦
      let there : (d - length b) - pos_by length bs ≡ d - (length b + pos_by length bs) = omega arith in
      subst (IsBoundaryBy length held) there (boundary-held bs held (d - length b) (omega arith) after.1)
]

boundary-all : (below held : List (List ℕ)) (d : ℕ) → IsBoundaryBy length held d → IsBoundaryBy length (below ++ held) (pos_by length below + d)
unfolding pos_by
boundary-all [] held d is = let here : d ≡ 0 + d = omega arith in subst (IsBoundaryBy length held) here is
boundary-all (b ∷ bs) held d is =
    let there : length b + (pos_by length bs + d) ≡ (length b + pos_by length bs) + d = omega arith in
    subst (IsBoundaryBy length (b ∷ (bs ++ held))) there (boundary_after length b (bs ++ held) (pos_by length bs + d) (boundary-all bs held d is))

pub held_starts : (v : Stored) (hold p : ℕ) → pos_by length v.below ≤ v.first → (v.first ≤ p) × IsStart v p → IsHeldBoundary (held_in hold v) p
held_starts v hold p within (from, start) =
    let there : (p - floor_of v) - pos_by length v.below ≡ p - v.first = omega arith in
    (from, subst (IsBoundaryBy length v.held) there (boundary-held v.below v.held (p - floor_of v) (omega arith) start.1))

pub starts_held : (v : Stored) (hold p : ℕ) → pos_by length v.below ≤ v.first → IsHeldBoundary (held_in hold v) p → (v.first ≤ p) × IsStart v p
starts_held v hold p within (from, held) =
    let there : pos_by length v.below + (p - v.first) ≡ p - floor_of v = omega arith in
    (from, (omega arith, subst (IsBoundaryBy length (frames_of v)) there (boundary-all v.below v.held (p - v.first) held)))
