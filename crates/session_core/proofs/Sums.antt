-- Counting frames.
use Rattle.std.proofs.Common.{◌≡◌, ◌≤◌, ◌<◌, ◌+◌, ◌*◌, ℕ, List, [], ◌∷◌, ◌++◌, length, take, drop, ap, sym, subst, ◌∙◌, arith, length-append}
use Rattle.std.specs.Prelude.{get_or}
use Rattle.std.proofs.lemmas.Grind.{take_at_read}
use Rattle.std.proofs.lemmas.List.{take-append-drop}
use Rattle.rs_frame.specs.declared.frame.Frame.{Frame}
use Rattle.rs_frame.specs.Spelling.{length_of}
use Rattle.position.specs.Boundaries.{pos, pos_by}
use Rattle.position.proofs.Boundaries.{pos-append}
use Rattle.session_model.specs.Answers.{counted}
use Rattle.session_model.specs.declared.facts.Counted.{Counted}
use Rattle.session_core.specs.After.{more_counted}

pub pos_one : (f : Frame) → pos (f ∷ []) ≡ length_of f
unfolding pos_by
pos_one f = omega arith

pub pos_append : (xs ys : List Frame) → pos (xs ++ ys) ≡ pos xs + pos ys
pos_append xs ys = pos-append length_of xs ys

-- each frame has its header of 6 bytes
pub six_each : (fs : List Frame) → 6 * length fs ≤ pos fs
unfolding pos_by
six_each [] = omega arith
six_each (f ∷ fs) = let i = six_each fs in omega arith

pub more_more : (t : Counted) (a b : List Frame) → more_counted (more_counted t a) b ≡ more_counted t (a ++ b)
more_more t a b =
    let n : t.frames + length a + length b ≡ t.frames + length (a ++ b) = omega (arith, length-append a b) in
    let p : t.position + pos a + pos b ≡ t.position + pos (a ++ b) = omega (arith, pos_append a b) in
    cc

-- the count of frames goes on to that of more frames
pub counted_append : (fs more : List Frame) → more_counted (counted fs) more ≡ counted (fs ++ more)
counted_append fs more =
    let n : length fs + length more ≡ length (fs ++ more) = omega (arith, length-append fs more) in
    let p : pos fs + pos more ≡ pos (fs ++ more) = omega (arith, pos_append fs more) in
    cc

pub none_counted : (t : Counted) → t ≡ more_counted t []
unfolding pos_by
none_counted t =
    let n : t.frames ≡ t.frames + length {A = Frame} [] = omega arith in
    let p : t.position ≡ t.position + pos [] = omega arith in
    let is : record { frames = t.frames; position = t.position } ≡ more_counted t [] = cc in
    is

-- ---- frame by frame

pub take_next : (fs : List Frame) (i : ℕ) (f : Frame) → i < length fs → f ≡ get_or fs i f → take (i + 1) fs ≡ take i fs ++ f ∷ []
take_next fs i f h is = (take_at_read fs i f h).1 ∙ ap (λ (x : Frame). take i fs ++ x ∷ []) (sym is)

-- a prefix ends at or before the end
pub pos_take : (fs : List Frame) (i : ℕ) → pos (take i fs) ≤ pos fs
pos_take fs i = let p = pos_append (take i fs) (drop i fs) in subst (λ (xs : List Frame). pos (take i fs) ≤ pos xs) (take-append-drop i fs) (omega arith)

pub one_counted : (t s : Counted) (fs : List Frame) (i : ℕ) (f : Frame) → i < length fs → f ≡ get_or fs i f → s ≡ more_counted t (take i fs)
    → more_counted s (f ∷ []) ≡ more_counted t (take (i + 1) fs)
one_counted t s fs i f h is so =
    ap (λ (k : Counted). more_counted k (f ∷ [])) so ∙ (more_more t (take i fs) (f ∷ []) ∙ ap (more_counted t) (sym (take_next fs i f h is)))
