-- What stands in front of the bytes that crossed.
use Rattle.std.proofs.lemmas.Grind.{common_steps}
use Rattle.std.proofs.Common.{◌≡◌, ◌≤◌, ◌<◌, ◌+◌, ◌-◌, ℕ, Bool, true, false, nat_lt, nat_le, List, [], ◌∷◌, length, take, drop, refl, ◌∙◌, arith}
use Rattle.std.proofs.lemmas.Bool.Decides.{nat_tests}
use Rattle.std.proofs.lemmas.List.{length-take, take-append-drop}
use Rattle.rs_frame.specs.declared.frame.Frame.{Frame}
use Rattle.rs_frame.specs.Spelling.{length_of, canonical, IsSpellable}
use Rattle.rs_frame.specs.Framed.{framed_all}
use Rattle.rs_chunk.specs.Stream.{IsTooLong, IsWhole, first_frame, first_length}
use Rattle.rs_chunk.proofs.Lengths.{length-canonical}
use Rattle.session_laws.proofs.Framing.{AreSpellable}
use Rattle.cable.specs.declared.arrival.Arrival.{Arrival}
use Rattle.cable.specs.declared.arrival.Arrival.TheVariants as arrival
use Rattle.cable.specs.Played.{crossed}
use Rattle.cable.proofs.Begun.{first_frame_is, first_length_is}
use Rattle.cable.proofs.Crosses.{first_of_crossed, pick, too_long_front}

length_front : (n : ℕ) (f : Frame) (fs : List Frame) → IsSpellable f → 3 ≤ length (take n (framed_all (f ∷ fs))) → first_length (take n (framed_all (f ∷ fs))) ≡ length_of f
length_front n f fs h long = first_length_is (take n (framed_all (f ∷ fs))) (drop n (framed_all (f ∷ fs))) f fs h (take-append-drop n (framed_all (f ∷ fs))) long ∙ length-canonical f

crossed_cons : (most n : ℕ) (f : Frame) (fs : List Frame) → crossed most n (f ∷ fs) ≡ pick (nat_lt most (length_of f)) (nat_le 3 n) (nat_le (3 + length_of f) n) f (crossed most (n - (3 + length_of f)) fs)
unfolding crossed
crossed_cons most n f fs = refl

picked_whole : (long three whole : Bool) (f : Frame) (rest : List Arrival) → long ≡ false → whole ≡ true → pick long three whole f rest ≡ arrival.Whole f ∷ rest
picked_whole long three whole f rest h1 h2 = grind (arith, common_steps)

picked_long : (long three whole : Bool) (f : Frame) (rest : List Arrival) → long ≡ true → three ≡ true → pick long three whole f rest ≡ arrival.TooLong ∷ []
picked_long long three whole f rest h1 h2 = grind (arith, common_steps)

pub record WholeFront (most n : ℕ) (frames : List Frame) : Type 0 where
  pub f : Frame
  pub others : List Frame
  pub spellable : IsSpellable f
  pub crossed_is : crossed most n frames ≡ arrival.Whole f ∷ crossed most (n - (3 + length_of f)) others
  pub frame_is : first_frame (take n (framed_all frames)) ≡ canonical f

nothing_long : (n : ℕ) → 3 ≤ length (take n (framed_all [])) → ⊥
nothing_long n long = absurd (omega (arith, long, length-take n (framed_all [])))

pub front_whole : (most n : ℕ) (frames : List Frame) → AreSpellable frames → IsWhole (take n (framed_all frames)) most → WholeFront most n frames
front_whole most n [] h w = absurd (nothing_long n w.0.0)
front_whole most n (f ∷ fs) h w =
    let all = framed_all (f ∷ fs) in
    let len = length_front n f fs h.0 w.0.0 in
    let fits : 3 + length_of f ≤ n = omega (arith, len, w.0.1, length-take n all) in
    let short : length_of f ≤ most = omega (arith, len, w.1) in
    let a : nat_lt most (length_of f) ≡ false = grind (arith, nat_tests) in
    let b : nat_le (3 + length_of f) n ≡ true = grind (arith, nat_tests) in
    record {
      f = f;
      others = fs;
      spellable = h.0;
      crossed_is = crossed_cons most n f fs ∙ picked_whole (nat_lt most (length_of f)) (nat_le 3 n) (nat_le (3 + length_of f) n) f (crossed most (n - (3 + length_of f)) fs) a b;
      frame_is = first_frame_is (take n all) (drop n all) f fs h.0 (take-append-drop n all) w.0;
    }

pub front_too_long : (most n : ℕ) (frames : List Frame) → AreSpellable frames → IsTooLong (take n (framed_all frames)) most → crossed most n frames ≡ arrival.TooLong ∷ []
front_too_long most n [] h w = absurd (nothing_long n w.0)
front_too_long most n (f ∷ fs) h w =
    let all = framed_all (f ∷ fs) in
    let len = length_front n f fs h.0 w.0 in
    let fits : 3 ≤ n = omega (arith, w.0, length-take n all) in
    let long : most < length_of f = omega (arith, len, w.1) in
    let a : nat_lt most (length_of f) ≡ true = grind (arith, nat_tests) in
    let b : nat_le 3 n ≡ true = grind (arith, nat_tests) in
    crossed_cons most n f fs ∙ picked_long (nat_lt most (length_of f)) (nat_le 3 n) (nat_le (3 + length_of f) n) f (crossed most (n - (3 + length_of f)) fs) a b

whole_back : (most n : ℕ) (f : Frame) (fs : List Frame) → IsSpellable f → 3 + length_of f ≤ n → length_of f ≤ most → IsWhole (take n (framed_all (f ∷ fs))) most
whole_back most n f fs h1 h2 h3 = grind (arith, common_steps, length-take, length_front)

no_items : (most n : ℕ) (x : Frame) (rest : List Arrival) → arrival.Whole x ∷ rest ≡ crossed most n [] → ⊥
unfolding crossed
no_items most n x rest e = absurd (cc)

front_by : (most n : ℕ) (frames : List Frame) (items : List Arrival) → AreSpellable frames → items ≡ crossed most n frames → (¬ (IsWhole (take n (framed_all frames)) most)) → (¬ (IsTooLong (take n (framed_all frames)) most)) → items ≡ []
front_by most n frames [] h e w l = refl
front_by most n frames (arrival.TooLong ∷ rest) h e w l = absurd (l (too_long_front most n frames rest h e))
front_by most n [] (arrival.Whole x ∷ rest) h e w l = absurd (no_items most n x rest e)
front_by most n (f ∷ fs) (arrival.Whole x ∷ rest) h e w l =
    let s = first_of_crossed most n f fs (arrival.Whole x) rest e in
    absurd (w (whole_back most n f fs h.0 s.1 s.3))

pub front_none : (most n : ℕ) (frames : List Frame) → AreSpellable frames → (¬ (IsWhole (take n (framed_all frames)) most)) → (¬ (IsTooLong (take n (framed_all frames)) most)) → crossed most n frames ≡ []
front_none most n frames h w l = front_by most n frames (crossed most n frames) h refl w l
