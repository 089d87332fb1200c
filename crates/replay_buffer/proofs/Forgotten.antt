-- Forgetting frame by frame comes to what is left in the end.
use Rattle.std.proofs.Common.{◌≡◌, ℕ, ◌+◌, ◌-◌, ◌<◌, ◌≤◌, List, [], ◌∷◌, length, take, refl, ap, ◌∙◌, arith}
use Rattle.position.specs.Boundaries.{pos_by, least_boundary_by, frames_from_by}
use Rattle.position.proofs.Boundaries.{least-zero, least-in, from-zero, from-in}
use Rattle.replay_buffer.specs.Held.{Held, without_first, from_least, without_oldest}

pub same_held : (h g : Held) → h.first ≡ g.first → h.frames ≡ g.frames → h.hold ≡ g.hold → h ≡ g
same_held h g first frames hold =
    ap (λ n. record h { first = n }) first ∙ ap (λ fs. record h { first = g.first; frames = fs }) frames ∙ ap (λ n. record g { hold = n }) hold

abbrev pub held : ℕ → List (List ℕ) → ℕ → Held
held at frames hold = record { first = at; frames = frames; hold = hold }

-- what is left of the frames after the oldest one is what is left of all
without_more : (at hold m : ℕ) (f : List ℕ) (fs : List (List ℕ)) → 0 < length f
    → without_first (without_oldest (held at (f ∷ fs) hold)) m ≡ without_first (held at (f ∷ fs) hold) (length f + m)
unfolding pos_by
without_more at hold m f fs some =
    let left : (length f + m) - length f ≡ m = omega arith in
    same_held _ _ (omega arith) (cc (left, from-in length f fs (length f + m) (omega arith))) refl

pub nothing_more : (h : Held) (n : ℕ) → n ≡ 0 → without_first h n ≡ h
nothing_more h n none = same_held (without_first h n) h (omega (arith, none)) (ap (frames_from_by length h.frames) none ∙ from-zero length h.frames) refl

pub least_step : (at hold low : ℕ) (fs : List (List ℕ)) → at < low → at < at + pos_by length (take 1 fs)
    → from_least (without_oldest (held at fs hold)) low ≡ from_least (held at fs hold) low
unfolding pos_by
least_step at hold low [] below rises = absurd (omega arith)
least_step at hold low (f ∷ fs) below rises =
    let further : low - (at + pos_by length (take 1 (f ∷ fs))) ≡ (low - at) - length f = omega arith in
    rw (further, least-in length f fs (low - at) (omega arith)) (without_more at hold _ f fs (omega arith))

pub least_done : (h : Held) (low : ℕ) → low ≤ h.first → from_least h low ≡ h
least_done h low reached =
    nothing_more h (least_boundary_by length h.frames (low - h.first)) (grind (arith, least-zero length h.frames))
