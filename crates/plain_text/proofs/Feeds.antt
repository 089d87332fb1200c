-- The first line feed of a text, and its lines.
use Rattle.std.proofs.Common.{◌≡◌, ℕ, zero, suc, ◌<◌, Bool, true, false, cond, eqb, List, [], ◌∷◌, ◌++◌, length, get_or, take, drop, Some, None, refl, sym, ap, ◌∙◌, arith}
use Rattle.std.specs.Prelude.{position}
use Rattle.std.proofs.lemmas.Bool.{eqb-true, ltb-false}
use Rattle.std.proofs.lemmas.Bool.Decides.{nat_tests}
use Rattle.std.proofs.lemmas.List.Quantifiers.{position-Some}
use Rattle.std.proofs.lemmas.List.Sums.{fails_before_first}
use Rattle.plain_text.specs.Lines.{HasNoFeed, ended, lines_of, push_front}

abbrev pub is_feed : ℕ → Bool
is_feed b = eqb b 10

no_feed : (b : ℕ) → is_feed b ≡ false → ¬ (b ≡ 10)
no_feed b other is = grind (arith, nat_tests)

not_feed : (b : ℕ) → ¬ (b ≡ 10) → is_feed b ≡ false
not_feed b differs = grind (arith, nat_tests)

-- ---- where a line ends

pub has_feed : (line after : List ℕ) → ¬ (HasNoFeed (ended line ++ after))
has_feed [] after h = h.0 refl
has_feed (b ∷ line) after h = has_feed line after h.1

-- lines end at one place
pub one_cut : (v w x y : List ℕ) → HasNoFeed v → HasNoFeed w → ended v ++ x ≡ ended w ++ y → (v ≡ w) × (x ≡ y)
one_cut [] [] x y h k e = (refl, cc)
one_cut [] (b ∷ w) x y h k e = let same : b ≡ 10 = cc in absurd (k.0 same)
one_cut (a ∷ v) [] x y h k e = let same : a ≡ 10 = cc in absurd (h.0 same)
one_cut (a ∷ v) (b ∷ w) x y h k e =
    let tails : ended v ++ x ≡ ended w ++ y = cc in
    let first : a ≡ b = cc in
    let others = one_cut v w x y h.1 k.1 tails in
    (cc, others.1)

-- ---- the first line feed

clean_below : (text : List ℕ) → ((k : ℕ) → k < length text → is_feed (get_or text k 0) ≡ false) → HasNoFeed text
clean_below [] h = tt
clean_below (b ∷ text) h = (no_feed b (h 0 (omega arith)), clean_below text (λ k l. h (suc k) (omega arith)))

none_from : (b : Bool) (i : ℕ) → None ≡ cond b (Some i) None → b ≡ false
none_from true i e = absurd cc
none_from false i e = refl

pub no_line : (text : List ℕ) → None ≡ position is_feed text → HasNoFeed text
no_line text none =
    let short = ltb-false _ _ (none_from _ _ none) in
    clean_below text (λ k l. fails_before_first is_feed text k 0 (omega (arith, short)))

at_feed : (text : List ℕ) (i : ℕ) → i < length text → is_feed (get_or text i 0) ≡ true → ((k : ℕ) → k < i → is_feed (get_or text k 0) ≡ false) → (text ≡ ended (take i text) ++ drop 1 (drop i text)) × HasNoFeed (take i text)
at_feed [] i lt is before = absurd (omega arith)
at_feed (b ∷ text) zero lt is before = (ap (λ d. d ∷ text) (eqb-true b 10 is), tt)
at_feed (b ∷ text) (suc i) lt is before =
    let others = at_feed text i (omega arith) is (λ k l. before (suc k) (omega arith)) in
    (ap (λ t. b ∷ t) others.0, (no_feed b (before 0 (omega arith)), others.1))

pub a_line : (text line rest after : List ℕ) (i : ℕ) → Some i ≡ position is_feed text → line ≡ take i text → rest ≡ drop i text → after ≡ drop 1 rest → (text ≡ ended line ++ after) × HasNoFeed line
a_line text line rest after i some line_is rest_is after_is =
    let at = position-Some is_feed text i 0 (sym some) in
    let cut = at_feed text i at.0 at.1 at.2 in
    let after_is' : after ≡ drop 1 (drop i text) = cc in
    rw (line_is, after_is') cut

-- ---- the lines of a text

pub lines_of-nil : lines_of [] ≡ []
unfolding lines_of
lines_of-nil = refl

found : (text : List ℕ) → lines_of (10 ∷ text) ≡ [] ∷ lines_of text
unfolding lines_of
found text = refl

other : (b : ℕ) (text : List ℕ) → is_feed b ≡ false → lines_of (b ∷ text) ≡ push_front b (lines_of text)
unfolding lines_of
other b text is = rw is refl

-- a line ends at the first line feed
lines_of-ended : (line after : List ℕ) → HasNoFeed line → lines_of (ended line ++ after) ≡ line ∷ lines_of after
lines_of-ended [] after clean = found after
lines_of-ended (b ∷ line) after clean = other b (ended line ++ after) (not_feed b clean.0) ∙ ap (push_front b) (lines_of-ended line after clean.1)

pub cut_lines : (text line after : List ℕ) → (text ≡ ended line ++ after) × HasNoFeed line → lines_of text ≡ line ∷ lines_of after
cut_lines text line after is = ap lines_of is.0 ∙ lines_of-ended line after is.1

-- a text with no line feed is one line
pub last_line : (text : List ℕ) → 0 < length text → HasNoFeed text → lines_of text ≡ text ∷ []
last_line [] some clean = absurd (omega arith)
last_line (b ∷ []) some clean = other b [] (not_feed b clean.0) ∙ ap (push_front b) lines_of-nil
last_line (b ∷ d ∷ text) some clean = other b (d ∷ text) (not_feed b clean.0) ∙ ap (push_front b) (last_line (d ∷ text) (omega arith) clean.1)
