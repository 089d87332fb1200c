-- What crossed: more of it later, and its bytes.
use Rattle.std.proofs.lemmas.Grind.{common_steps}
use Rattle.std.proofs.Common.{◌≡◌, ◌≤◌, ◌<◌, ◌+◌, ◌-◌, ◌^◌, ℕ, Bool, true, false, cond, nat_lt, nat_le, List, [], ◌∷◌, ◌++◌, map, length, take, drop, Option, Some, None, refl, ap, sym, ◌∙◌, arith, append_assoc, length-append}
use Rattle.std.proofs.lemmas.Bool.Decides.{nat_tests}
use Rattle.std.proofs.Math.Seq.{take-append-add}
use Rattle.std.proofs.lemmas.List.{length-take}
use Rattle.std.proofs.lemmas.List.Concat.{flat_map-cons}
use Rattle.byteorder.specs.Endian.{big_number, big_bytes}
use Rattle.byteorder.specs.Numbers.{big_from-take}
use Rattle.rs_frame.specs.declared.frame.Frame.{Frame}
use Rattle.rs_frame.specs.Spelling.{length_of, canonical}
use Rattle.rs_frame.proofs.Fields.{number_again}
use Rattle.rs_frame.specs.Framed.{framed_all, framed_frame}
use Rattle.rs_chunk.specs.Stream.{IsTooLong, first_length}
use Rattle.rs_chunk.proofs.Lengths.{length-canonical, length-framed_frame}
use Rattle.session_model.specs.Lists.{IsPrefix}
use Rattle.session_model.specs.declared.numbers.TheConstants.{LONG_FRAME}
use Rattle.session_model.specs.Joined.{Crossed, BadFits}
use Rattle.session_laws.proofs.Framing.{AreSpellable}
use Rattle.session_laws.proofs.Prefixes.{prefix_nil, prefix_refl, prefix_trans}
use Rattle.cable.specs.declared.arrival.Arrival.{Arrival}
use Rattle.cable.specs.declared.arrival.Arrival.TheVariants as arrival
use Rattle.cable.specs.Played.{crossed}

-- ---- more crossed

abbrev pub pick : Bool → Bool → Bool → Frame → List Arrival → List Arrival
pick long three whole f rest = cond long (cond three (arrival.TooLong ∷ []) []) (cond whole (arrival.Whole f ∷ rest) [])

picks : (long a a' b b' : Bool) (f : Frame) (xs ys : List Arrival) → (a ≡ true → a' ≡ true) → (b ≡ true → b' ≡ true) → IsPrefix xs ys → IsPrefix (pick long a b f xs) (pick long a' b' f ys)
picks true false a' b b' f xs ys h k p = prefix_nil (pick true a' b' f ys)
picks true true true b b' f xs ys h k p = prefix_refl (arrival.TooLong ∷ [])
picks true true false b b' f xs ys h k p = let no : false ≡ true = h refl in absurd (cc)
picks false a a' false b' f xs ys h k p = prefix_nil (pick false a' b' f ys)
picks false a a' true true f xs ys h k p = (p.0, ap (λ (l : List Arrival). arrival.Whole f ∷ l) p.1)
picks false a a' true false f xs ys h k p = let no : false ≡ true = k refl in absurd (cc)

fits_on : (k n n' : ℕ) → n ≤ n' → nat_le k n ≡ true → nat_le k n' ≡ true
fits_on k n n' le h = grind (arith, nat_tests)

pub crossed_more : (most n n' : ℕ) (frames more : List Frame) → n ≤ n' → IsPrefix (crossed most n frames) (crossed most n' (frames ++ more))
unfolding crossed
crossed_more most n n' [] more le = prefix_nil (crossed most n' more)
crossed_more most n n' (f ∷ frames) more le =
    let k = 3 + length_of f in
    picks (nat_lt most (length_of f)) (nat_le 3 n) (nat_le 3 n') (nat_le k n) (nat_le k n') f (crossed most (n - k) frames) (crossed most (n' - k) (frames ++ more))
    (fits_on 3 n n' le) (fits_on k n n' le) (crossed_more most (n - k) (n' - k) frames more (omega (arith, le)))

-- ---- what came of it

abbrev pub wholes : List Frame → List Arrival
wholes frames = map (λ f. arrival.Whole f) frames

abbrev pub ended : Option ℕ → List Arrival
ended None = []
ended (Some rule) = arrival.TooLong ∷ []

abbrev pub IsLong : Option ℕ → Type 0
IsLong None = Unit {0}
IsLong (Some rule) = rule ≡ LONG_FRAME

-- these frames came whole, and then a length that is too long, where one stands: all of it crossed
pub record Heard (most n : ℕ) (frames came : List Frame) (bad : Option ℕ) : Type 0 where
  pub rest : List Arrival
  pub parts : (wholes came ++ ended bad) ++ rest ≡ crossed most n frames
  pub long : IsLong bad

pub heard_more : (most n n' : ℕ) (frames more came : List Frame) (bad : Option ℕ) → n ≤ n' → Heard most n frames came bad → Heard most n' (frames ++ more) came bad
heard_more most n n' frames more came bad le h =
    let p = prefix_trans (wholes came ++ ended bad) (crossed most n frames) (crossed most n' (frames ++ more)) (h.rest, h.parts) (crossed_more most n n' frames more le) in
    record { rest = p.0; parts = p.1; long = h.long }

pub heard_nothing : (most n : ℕ) (frames : List Frame) → Heard most n frames [] None
heard_nothing most n frames = record { rest = crossed most n frames; parts = refl; long = tt }

-- ---- its bytes

abbrev pub IsFirstOf : ℕ → ℕ → Frame → List Frame → Arrival → List Arrival → Type 0
IsFirstOf most n f frames (arrival.Whole x) rest = (x ≡ f) × (3 + length_of f ≤ n) × (rest ≡ crossed most (n - (3 + length_of f)) frames) × (length_of f ≤ most)
IsFirstOf most n f frames arrival.TooLong rest = (3 ≤ n) × (most < length_of f) × (rest ≡ [])

first_picked : (most n : ℕ) (long three whole : Bool) (f : Frame) (frames : List Frame) (a : Arrival) (rest : List Arrival) → nat_lt most (length_of f) ≡ long → nat_le 3 n ≡ three → nat_le (3 + length_of f) n ≡ whole → a ∷ rest ≡ pick long three whole f (crossed most (n - (3 + length_of f)) frames) → IsFirstOf most n f frames a rest
first_picked most n long three whole f frames a rest h1 h2 h3 h4 = grind (arith, common_steps, nat_tests)

pub first_of_crossed : (most n : ℕ) (f : Frame) (frames : List Frame) (a : Arrival) (rest : List Arrival) → a ∷ rest ≡ crossed most n (f ∷ frames) → IsFirstOf most n f frames a rest
unfolding crossed
first_of_crossed most n f frames a rest e = first_picked most n (nat_lt most (length_of f)) (nat_le 3 n) (nat_le (3 + length_of f) n) f frames a rest refl refl refl e

none_of_none : (most n : ℕ) (a : Arrival) (rest : List Arrival) → a ∷ rest ≡ crossed most n [] → ⊥
unfolding crossed
none_of_none most n a rest e = absurd (cc)

-- nothing stands behind a length that is too long
pub last_is_too_long : (most n : ℕ) (frames came : List Frame) (rest : List Arrival) → wholes came ++ (arrival.TooLong ∷ rest) ≡ crossed most n frames → rest ≡ []
last_is_too_long most n [] [] rest e = absurd (none_of_none most n arrival.TooLong rest e)
last_is_too_long most n [] (x ∷ came) rest e = absurd (none_of_none most n (arrival.Whole x) (wholes came ++ (arrival.TooLong ∷ rest)) e)
last_is_too_long most n (f ∷ frames) [] rest e = (first_of_crossed most n f frames arrival.TooLong rest e).2
last_is_too_long most n (f ∷ frames) (x ∷ came) rest e =
    let s = first_of_crossed most n f frames (arrival.Whole x) (wholes came ++ (arrival.TooLong ∷ rest)) e in
    last_is_too_long most (n - (3 + length_of f)) frames came rest s.2

take_behind : (n k : ℕ) (a b : List ℕ) → length a ≡ k → k ≤ n → take n (a ++ b) ≡ a ++ take (n - k) b
take_behind n k a b is le =
    let m : length a + (n - k) ≡ n = omega (arith, is, le) in
    ap (λ (i : ℕ). take i (a ++ b)) (sym m) ∙ take-append-add a b (n - k)

-- a frame that crossed whole stands in front of the bytes, and what crossed behind it follows
cut_front : (n : ℕ) (f : Frame) (frames : List Frame) → 3 + length_of f ≤ n → take n (framed_all (f ∷ frames)) ≡ framed_frame f ++ take (n - (3 + length_of f)) (framed_all frames)
cut_front n f frames le =
    let len : length (framed_frame f) ≡ 3 + length_of f = omega (arith, length-framed_frame f) in
    ap (λ (l : List ℕ). take n l) (flat_map-cons framed_frame f frames) ∙ take_behind n (3 + length_of f) (framed_frame f) (framed_all frames) len le

-- what crossed whole, and the bytes behind it
pub record Behind (n : ℕ) (frames came : List Frame) : Type 0 where
  pub left : ℕ
  pub others : List Frame
  pub frames_are : frames ≡ came ++ others
  pub bytes_are : take n (framed_all frames) ≡ framed_all came ++ take left (framed_all others)

behind_one : (n : ℕ) (f x : Frame) (frames came : List Frame) → x ≡ f → 3 + length_of f ≤ n → Behind (n - (3 + length_of f)) frames came → Behind n (f ∷ frames) (x ∷ came)
behind_one n f x frames came h1 h2 h3 = grind (arith, common_steps, cut_front, flat_map-cons)

-- the frames behind, of what is left
pub behind : (most n : ℕ) (frames came : List Frame) (rest : List Arrival) → wholes came ++ rest ≡ crossed most n frames → (b : Behind n frames came) × (rest ≡ crossed most b.left b.others)
unfolding behind_one
behind most n frames [] rest e = (record { left = n; others = frames; frames_are = refl; bytes_are = refl }, e)
behind most n [] (x ∷ came) rest e = absurd (none_of_none most n (arrival.Whole x) (wholes came ++ rest) e)
behind most n (f ∷ frames) (x ∷ came) rest e =
    let s = first_of_crossed most n f frames (arrival.Whole x) (wholes came ++ rest) e in
    let b = behind most (n - (3 + length_of f)) frames came rest s.2 in
    (behind_one n f x frames came s.0 s.1 b.0, b.1)

pub too_long_front : (most n : ℕ) (frames : List Frame) (rest : List Arrival) → AreSpellable frames → arrival.TooLong ∷ rest ≡ crossed most n frames → IsTooLong (take n (framed_all frames)) most
too_long_front most n [] rest h e = absurd (none_of_none most n arrival.TooLong rest e)
too_long_front most n (f ∷ frames) rest h e =
    let s = first_of_crossed most n f frames arrival.TooLong rest e in
    let all = framed_all (f ∷ frames) in
    let len : length all ≡ (length_of f + 3) + length (framed_all frames) = ap (λ (l : List ℕ). length l) (flat_map-cons framed_frame f frames) ∙ omega (arith, length-append (framed_frame f) (framed_all frames), length-framed_frame f) in
    let three : 3 ≤ length (take n all) = omega (arith, length-take n all, len, s.0) in
    let cut : all ≡ big_bytes 3 (length (canonical f)) ++ (canonical f ++ framed_all frames) = flat_map-cons framed_frame f frames ∙ append_assoc (big_bytes 3 (length (canonical f))) (canonical f) (framed_all frames) in
    let short : length (canonical f) < 2 ^ 24 = omega (arith, length-canonical f, h.0.short) in
    let front : first_length (take n all) ≡ length (canonical f) = big_from-take 0 3 n all s.0 ∙ (ap (big_number 3) cut ∙ number_again 3 (length (canonical f)) (canonical f ++ framed_all frames) short) in
    (three, omega (arith, front, length-canonical f, s.1))

spelled_behind : (xs ys : List Frame) → AreSpellable (xs ++ ys) → AreSpellable ys
spelled_behind [] ys h = h
spelled_behind (x ∷ xs) ys h = spelled_behind xs ys h.1

drop_seam : (xs ys : List ℕ) → drop (length xs) (xs ++ ys) ≡ ys
drop_seam xs ys = grind (arith, common_steps)

bad_of : (most n : ℕ) (frames came : List Frame) (bad : Option ℕ) (rest : List Arrival) → AreSpellable frames → IsLong bad → wholes came ++ (ended bad ++ rest) ≡ crossed most n frames → BadFits bad most (framed_all came) (take n (framed_all frames))
bad_of most n frames came bad rest h1 h2 h3 = grind (arith, behind, too_long_front, spelled_behind, drop_seam)

-- the bytes of what came crossed
pub crossed_bytes : (most n : ℕ) (frames came : List Frame) (bad : Option ℕ) → AreSpellable frames → Heard most n frames came bad → Crossed (framed_all came) bad most (take n (framed_all frames))
crossed_bytes most n frames came bad h1 h2 = grind (arith, common_steps, behind, bad_of)
