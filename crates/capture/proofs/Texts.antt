-- A text is that of one list of frames, or has one first wrong line.
use Rattle.std.proofs.Common.{◌≡◌, ℕ, ◌<◌, ◌≤◌, ◌⊎◌, List, [], ◌∷◌, ◌++◌, length, refl, sym, ap, ap₂, ◌≢◌, ◌∙◌, inl, inr, ⊎_elim, append_assoc, arith}
use Rattle.std.specs.List.{AllByRecursion}
use Rattle.std.proofs.lemmas.Grind.{common_steps}
use Rattle.std.proofs.lemmas.List.{append-nil, length-append, nil_from_length, take_all}
use Rattle.rs_frame.specs.declared.frame.Frame.{Frame}
use Rattle.frame_text.specs.Lines.{line_of}
use Rattle.frame_text.specs.Reading.{other_row, named_row, words_of}
use Rattle.frame_text.proofs.OneFrame.{one_frame}
use Rattle.frame_text.proofs.RightWords.{line_reads}
use Rattle.plain_text.specs.Lines.{ended}
use Rattle.capture.specs.declared.TheConstants.{MOST_CAPTURE}
use Rattle.capture.specs.Captured.{all_lines}
use Rattle.capture.specs.Text.{BeginsWith, IsFrame, IsTextOf, IsWrongLine}
use Rattle.capture.proofs.CleanLines.{line_clean}
use Rattle.plain_text.proofs.Feeds.{one_cut}

pub lines : (frames : List Frame) → AllByRecursion IsFrame frames → length (all_lines frames) ≤ MOST_CAPTURE → IsTextOf (all_lines frames) frames
lines frames are short = record { short = short; are_frames = are; lines = inl refl }

-- a frame's line, with its line feed, begins the bytes
record Begins (bytes : List ℕ) : Type 0 where
  pub frame : Frame
  pub is_frame : IsFrame frame
  pub after : List ℕ
  pub parts : bytes ≡ ended (line_of frame) ++ after

-- two readings of the same bytes: the same frames, or one goes on where the other stops
abbrev Aligned : List Frame → List Frame → List ℕ → List ℕ → Type 0
Aligned fs gs r s = ((fs ≡ gs) × (r ≡ s)) ⊎ (Begins r ⊎ Begins s)

more : (f g : Frame) (fs gs : List Frame) (r s : List ℕ) → f ≡ g → Aligned fs gs r s → Aligned (f ∷ fs) (g ∷ gs) r s
more f g fs gs r s same (inl both) = let tails : fs ≡ gs = both.0 in let frames : (f ∷ fs) ≡ (g ∷ gs) = cc in inl (frames, both.1)
more f g fs gs r s same (inr one) = inr one

aligned : (fs gs : List Frame) (r s : List ℕ) → AllByRecursion IsFrame fs → AllByRecursion IsFrame gs → all_lines fs ++ r ≡ all_lines gs ++ s → Aligned fs gs r s
aligned [] [] r s are_fs are_gs same = inl (refl, same)
aligned [] (g ∷ gs) r s are_fs are_gs same = inr (inl (record { frame = g; is_frame = are_gs.0; after = all_lines gs ++ s; parts = same ∙ append_assoc (ended (line_of g)) (all_lines gs) s }))
aligned (f ∷ fs) [] r s are_fs are_gs same = inr (inr (record { frame = f; is_frame = are_fs.0; after = all_lines fs ++ r; parts = sym same ∙ append_assoc (ended (line_of f)) (all_lines fs) r }))
aligned (f ∷ fs) (g ∷ gs) r s are_fs are_gs same =
    let parts = sym (append_assoc (ended (line_of f)) (all_lines fs) r) ∙ same ∙ append_assoc (ended (line_of g)) (all_lines gs) s in
    let cut = one_cut (line_of f) (line_of g) (all_lines fs ++ r) (all_lines gs ++ s) (line_clean f are_fs.0) (line_clean g are_gs.0) parts in
    let one : f ≡ g = one_frame f g are_fs.0.0.fields are_fs.0.1 are_gs.0.0.fields are_gs.0.1 cut.0 in
    more f g fs gs r s one (aligned fs gs r s are_fs.1 are_gs.1 cut.1)

-- ---- what no line begins

empty_line : (f : Frame) → IsFrame f → ¬ (line_of f ≡ [])
unfolding named_row other_row
empty_line f is none = absurd (cc (ap words_of none, line_reads f is.0.fields is.1))

long : (bytes : List ℕ) → Begins bytes → 1 < length bytes
long bytes b =
    let some : length (line_of b.frame) ≢ 0 = λ none. empty_line b.frame b.is_frame (nil_from_length (line_of b.frame) none) in
    omega (arith, ap length b.parts, length-append (ended (line_of b.frame)) b.after, length-append (line_of b.frame) (10 ∷ []))

-- ---- one list of frames

same_lines : (fs gs : List Frame) → AllByRecursion IsFrame fs → AllByRecursion IsFrame gs → all_lines fs ≡ all_lines gs → fs ≡ gs
same_lines fs gs are_fs are_gs same = grind (arith, long [], aligned fs gs [] [] are_fs are_gs (ap (λ t. t ++ []) same))

not_ended : (fs gs : List Frame) → AllByRecursion IsFrame fs → AllByRecursion IsFrame gs → ¬ (ended (all_lines fs) ≡ all_lines gs)
not_ended fs gs are_fs are_gs same = grind (arith, long [], long (10 ∷ []), aligned fs gs (10 ∷ []) [] are_fs are_gs (same ∙ sym (append-nil (all_lines gs))))

pub one_text : (text : List ℕ) (fs gs : List Frame) → IsTextOf text fs → IsTextOf text gs → fs ≡ gs
one_text text fs gs a b =
    grind (arith, a.lines, b.lines, same_lines fs gs a.are_frames b.are_frames, not_ended fs gs a.are_frames b.are_frames, not_ended gs fs b.are_frames a.are_frames)

-- ---- no wrong line

abbrev IsCutAt : List ℕ → List ℕ → Type 0
IsCutAt rest line = ((x : List ℕ) × (rest ≡ ended line ++ x)) ⊎ (rest ≡ line)

-- where bytes with a line feed behind them begin with a line, so do the bytes, but for the line feed
last_cut : (rest line after : List ℕ) → ended rest ≡ ended line ++ after → IsCutAt rest line
last_cut [] [] after e = inr refl
last_cut [] (b ∷ line) after e = absurd (grind (arith, common_steps, ap length e))
last_cut (a ∷ rest) [] after e = let first : a ≡ 10 = cc in inl (rest, ap (λ x. x ∷ rest) first)
last_cut (a ∷ rest) (b ∷ line) after e =
    let first : a ≡ b = cc in
    let tails : ended rest ≡ ended line ++ after = cc in
    ⊎_elim (λ c. inl (c.0, ap₂ (λ x xs. x ∷ xs) first c.1)) (λ is. inr (ap₂ (λ x xs. x ∷ xs) first is)) (last_cut rest line after tails)

-- the text with these bytes behind it is no lines of frames, where the first frame that begins what is left begins the wrong line
stops : (text tail : List ℕ) (fs before : List Frame) (number : ℕ) → length text ≤ MOST_CAPTURE → AllByRecursion IsFrame fs → (w : IsWrongLine text number before)
    → ((b : Begins (w.rest ++ tail)) → BeginsWith text w.rest b.frame) → text ++ tail ≡ all_lines fs → ⊥
stops text tail fs before number short are w begins same =
    let parts : text ≡ all_lines before ++ w.rest = sym (take_all MOST_CAPTURE text short) ∙ w.parts in
    let whole = sym (append_assoc (all_lines before) w.rest tail) ∙ ap (λ t. t ++ tail) (sym parts) ∙ same ∙ sym (append-nil (all_lines fs)) in
    ⊎_elim
    (λ both. absurd (omega (arith, w.there, ap length parts, ap length both.1, length-append (all_lines before) w.rest, length-append w.rest tail)))
    (⊎_elim (λ b. w.wrong b.frame b.is_frame (begins b)) (λ b. absurd (omega (arith, long [] b))))
    (aligned before fs (w.rest ++ tail) [] w.are_frames are whole)

pub either_text : (text : List ℕ) (fs : List Frame) (number : ℕ) (before : List Frame) → IsTextOf text fs → ¬ (IsWrongLine text number before)
either_text text fs number before t w = ⊎_elim
    (λ is. stops text [] fs before number t.short t.are_frames w (λ b. inl (b.after, sym (append-nil w.rest) ∙ b.parts)) (append-nil text ∙ is))
    (stops text (10 ∷ []) fs before number t.short t.are_frames w (λ b. ⊎_elim (λ c. inl c) (λ is. inr (t.short, is)) (last_cut w.rest (line_of b.frame) b.after b.parts)))
    t.lines

-- ---- one wrong line

one_wrong : (text : List ℕ) (p q : ℕ) (fs gs : List Frame) → (a : IsWrongLine text p fs) → (b : IsWrongLine text q gs) → Aligned fs gs a.rest b.rest → (p ≡ q) × (fs ≡ gs)
one_wrong text p q fs gs a b (inl both) = (omega (arith, a.number_is, b.number_is, ap length both.0), both.0)
one_wrong text p q fs gs a b (inr (inl n)) = absurd (a.wrong n.frame n.is_frame (inl (n.after, n.parts)))
one_wrong text p q fs gs a b (inr (inr n)) = absurd (b.wrong n.frame n.is_frame (inl (n.after, n.parts)))

pub one_line : (text : List ℕ) (p q : ℕ) (fs gs : List Frame) → IsWrongLine text p fs → IsWrongLine text q gs → (p ≡ q) × (fs ≡ gs)
one_line text p q fs gs a b = one_wrong text p q fs gs a b (aligned fs gs a.rest b.rest a.are_frames b.are_frames (sym a.parts ∙ b.parts))
