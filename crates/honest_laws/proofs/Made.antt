-- The entry at which a frame was made.
use Rattle.std.proofs.Common.{◌≡◌, ◌⊎◌, inl, inr, List, [], ◌∷◌, ◌++◌, refl, ap, sym, subst, ◌∙◌, append_assoc}
use Rattle.rs_wire.specs.declared.settings.Settings.{Settings}
use Rattle.rs_frame.specs.declared.frame.Frame.{Frame}
use Rattle.tape.specs.declared.entry.Entry.{Entry}
use Rattle.session_model.specs.Leases.{is_covered}
use Rattle.session_model.specs.Lists.{IsPrefix}
use Rattle.session_model.specs.Streams.{known}
use Rattle.session_model.specs.Frames.{handled, made, makes}
use Rattle.session_model.specs.Answers.{facts}
use Rattle.session_model.specs.Means.{Means}
use Rattle.session_model.proofs.Meaning.{last_means}
use Rattle.session_laws.specs.Streams.{IsLawful}
use Rattle.session_laws.proofs.Growth.{handled_grows}
use Rattle.session_laws.proofs.Lawful.{before_lawful}
use Rattle.session_laws.proofs.Prefixes.{prefix_cons}

-- some first frames, and one after them, are a front of these, or of these and then those
split_front : (before : List Frame) (f : Frame) (xs ys : List Frame) → IsPrefix (before ++ f ∷ []) (xs ++ ys)
    → IsPrefix (before ++ f ∷ []) xs ⊎ ((front : List Frame) × (back : List Frame) × (front ++ f ∷ back ≡ ys) × (before ≡ xs ++ front))
split_front before f [] ys p = inr (before, p.0, sym (append_assoc before (f ∷ []) p.0) ∙ p.1, refl)
split_front [] f (x ∷ xs) ys p = let same = prefix_cons f x [] (xs ++ ys) p in inl (xs, ap (λ (k : Frame). k ∷ xs) same.0)
split_front (b ∷ before) f (x ∷ xs) ys p =
    let c = prefix_cons b x (before ++ f ∷ []) (xs ++ ys) p in
    let same : b ≡ x = c.0 in
    elim (split_front before f xs ys c.1) [
      | inl q ↦ let all : (before ++ f ∷ []) ++ q.0 ≡ xs = q.1 in inl (q.0, cc)
      | inr q ↦ let all : before ≡ xs ++ q.0 = q.3 in inr (q.0, q.1, q.2, cc)
    ]

-- the frame f, after these of an end, is one of those that its entry x makes, after what the entries before that made
pub record MadeAt (h : Settings) (peer : List Entry) (before : List Frame) (f : Frame) : Type 0 where
  pub newer : List Entry
  pub x : Entry
  pub earlier : List Entry
  pub is : newer ++ x ∷ earlier ≡ peer
  pub front : List Frame
  pub back : List Frame
  pub among : front ++ f ∷ back ≡ makes h (is_covered h earlier) (known h earlier) x.answer x.event
  pub before_is : before ≡ made h earlier ++ front

none_there : (before : List Frame) (f : Frame) → IsPrefix (before ++ f ∷ []) [] → ⊥
none_there [] f p = cc (p.1)
none_there (b ∷ before) f p = cc (p.1)

pub made_at : (h : Settings) (peer : List Entry) (before : List Frame) (f : Frame) → IsPrefix (before ++ f ∷ []) (made h peer) → MadeAt h peer before f
unfolding made
made_at h [] before f p = absurd (none_there before f p)
made_at h (x ∷ peer) before f p = elim (split_front before f (made h peer) (makes h (is_covered h peer) (known h peer) x.answer x.event) p) [
  | inl q ↦
      let m = made_at h peer before f q in
      record { newer = x ∷ m.newer; x = m.x; earlier = m.earlier; is = ap (λ (l : List Entry). x ∷ l) m.is; front = m.front; back = m.back; among = m.among; before_is = m.before_is }
  | inr q ↦ record { newer = []; x = x; earlier = peer; is = refl; front = q.0; back = q.1; among = q.2; before_is = q.3 }
]

-- the entries before it are lawful, and it means what it says
pub lawful_at : (h : Settings) (newer : List Entry) (x : Entry) (earlier peer : List Entry) → newer ++ x ∷ earlier ≡ peer → IsLawful h peer → IsLawful h (x ∷ earlier)
lawful_at h newer x earlier peer is lawful = before_lawful h newer (x ∷ earlier) (subst (IsLawful h) (sym is) lawful)

pub before_it : (h : Settings) (x : Entry) (earlier : List Entry) → IsLawful h (x ∷ earlier) → IsLawful h earlier
before_it h x earlier lawful = before_lawful h (x ∷ []) earlier lawful

pub means_at : (h : Settings) (x : Entry) (earlier : List Entry) → IsLawful h (x ∷ earlier) → Means h (facts h earlier) x.event x.answer
means_at h x earlier lawful = last_means h x earlier lawful.legal

-- what was handled before it is a front of all that was
pub handled_before : (newer : List Entry) (x : Entry) (earlier peer : List Entry) → newer ++ x ∷ earlier ≡ peer → IsPrefix (handled earlier) (handled peer)
handled_before newer x earlier peer is =
    subst (λ l. IsPrefix (handled earlier) (handled l)) (append_assoc newer (x ∷ []) earlier ∙ is) (handled_grows (newer ++ x ∷ []) earlier)
