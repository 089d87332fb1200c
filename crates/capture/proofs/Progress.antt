-- How far the lines of a text were read.
use Rattle.std.proofs.Common.{◌≡◌, ℕ, ◌+◌, ◌<◌, ◌≤◌, List, [], ◌∷◌, ◌++◌, length, min, take, refl, sym, ap, subst, ◌∙◌, inl, inr, append_assoc, arith}
use Rattle.std.specs.List.{AllByRecursion}
use Rattle.std.proofs.ByRecursion.{All-append}
use Rattle.std.proofs.lemmas.List.{append-nil, flat_map_more, length-append, length-take, take_all, take_min}
use Rattle.rs_frame.specs.declared.frame.Frame.{Frame}
use Rattle.rs_frame.specs.Framed.{framed_all, framed_frame}
use Rattle.frame_text.specs.Lines.{line_of}
use Rattle.plain_text.specs.Lines.{ended, HasNoFeed}
use Rattle.capture.specs.declared.TheConstants.{MOST_CAPTURE}
use Rattle.capture.specs.declared.back.LineFault.{LineFault}
use Rattle.capture.specs.declared.back.LineFault.TheVariants as faults
use Rattle.capture.specs.Captured.{all_lines}
use Rattle.capture.specs.Text.{BeginsWith, IsFaultOfLine, IsFrame, IsLineFault, WroteFrame, WroteFrames}
use Rattle.capture.proofs.CleanLines.{line_clean}
use Rattle.plain_text.proofs.Feeds.{has_feed, one_cut}

-- the lines in front of the rest were read, and their frames appended; the next line has this number
pub record SoFar (text rest : List ℕ) (number : ℕ) (old new : List ℕ) : Type 0 where
  pub frames : List Frame
  pub are_frames : AllByRecursion IsFrame frames
  pub parts : take MOST_CAPTURE text ≡ all_lines frames ++ rest
  pub number_is : length frames + 1 ≡ number
  pub appended : new ≡ old ++ framed_all frames

-- the text up to the limit
pub at_limit : (text front : List ℕ) (n : ℕ) → n ≡ min (length text) 67108864 → front ≡ take n text → (front ≡ take MOST_CAPTURE text) × (length front ≤ 67108864)
at_limit text front n n_is front_is =
    let same : n ≡ min MOST_CAPTURE (length text) = omega (arith, n_is) in
    (front_is ∙ ap (λ k. take k text) same ∙ take_min MOST_CAPTURE text, omega (arith, ap length front_is, n_is, length-take n text))

pub at_start : (text rest old : List ℕ) → rest ≡ take MOST_CAPTURE text → SoFar text rest 1 old old
at_start text rest old rest_is = record { frames = []; are_frames = tt; parts = sym rest_is; number_is = refl; appended = sym (append-nil old) }

more_lines : (frames : List Frame) (f : Frame) (line : List ℕ) → line ≡ line_of f → all_lines frames ++ ended line ≡ all_lines (frames ++ f ∷ [])
more_lines frames f line line_is = ap (λ t. all_lines frames ++ ended t) line_is ∙ flat_map_more (λ g. ended (line_of g)) [] frames f

more_bytes : (frames : List Frame) (f : Frame) (old mid new : List ℕ) → mid ≡ old ++ framed_all frames → new ≡ mid ++ framed_frame f → new ≡ old ++ framed_all (frames ++ f ∷ [])
more_bytes frames f old mid new mid_is new_is = new_is ∙ ap (λ t. t ++ framed_frame f) mid_is ∙ flat_map_more framed_frame old frames f

pub one_more : (text rest line after old mid new : List ℕ) (number : ℕ) → SoFar text rest number old mid → rest ≡ ended line ++ after → WroteFrame line mid new → SoFar text after (number + 1) old new
one_more text rest line after old mid new number s rest_is w =
    record {
      frames = s.frames ++ w.frame ∷ [];
      are_frames = All-append IsFrame s.frames (w.frame ∷ []) s.are_frames (w.is_frame, tt);
      parts = s.parts ∙ ap (λ t. all_lines s.frames ++ t) rest_is ∙ sym (append_assoc (all_lines s.frames) (ended line) after) ∙ ap (λ t. t ++ after) (more_lines s.frames w.frame line w.line_is);
      number_is = omega (arith, s.number_is, length-append s.frames (w.frame ∷ []));
      appended = more_bytes s.frames w.frame old mid new s.appended w.appended;
    }

pub one_more_counted : (rest line after : List ℕ) → rest ≡ ended line ++ after → length after + 1 ≤ length rest
one_more_counted rest line after rest_is = omega (arith, ap length rest_is, length-append (ended line) after, length-append line (10 ∷ []))

-- ---- a wrong line

-- where the rest has a line feed
not_begins : (text rest line after : List ℕ) (f : Frame) → rest ≡ ended line ++ after → HasNoFeed line → HasNoFeed (line_of f) → ¬ (line ≡ line_of f) → ¬ (BeginsWith text rest f)
not_begins text rest line after f rest_is clean is_clean other (inl b) = other (one_cut line (line_of f) after b.0 clean is_clean (sym rest_is ∙ b.1)).0
not_begins text rest line after f rest_is clean is_clean other (inr b) = has_feed line after (subst HasNoFeed (sym b.1 ∙ rest_is) is_clean)

-- where it has none
whole_rest : (text rest : List ℕ) (f : Frame) → HasNoFeed rest → BeginsWith text rest f → (length text ≤ MOST_CAPTURE) × (rest ≡ line_of f)
whole_rest text rest f clean (inl b) = absurd (has_feed (line_of f) b.0 (subst HasNoFeed b.1 clean))
whole_rest text rest f clean (inr b) = b

-- no frame's line begins the rest
first_wrong : (text rest : List ℕ) (number n : ℕ) (old new : List ℕ) → SoFar text rest number old new → n ≡ number → min MOST_CAPTURE (length text) < length text + length rest → ((f : Frame) → IsFrame f → ¬ (BeginsWith text rest f)) → IsLineFault text (faults.Line n)
first_wrong text rest number n old new s n_is long wrong =
    let there : length (all_lines s.frames) < length text = omega (arith, ap length s.parts, length-append (all_lines s.frames) rest, length-take MOST_CAPTURE text) in
    (s.frames, record { rest = rest; are_frames = s.are_frames; parts = s.parts; number_is = s.number_is ∙ sym n_is; there = there; wrong = wrong })

-- a line with its line feed
pub wrong_line : (text rest line after : List ℕ) (number : ℕ) (old new : List ℕ) (e : LineFault) → SoFar text rest number old new → rest ≡ ended line ++ after → HasNoFeed line → IsFaultOfLine line number e → IsLineFault text e
wrong_line text rest line after number old new (faults.Line n) s rest_is clean fault =
    first_wrong text rest number n old new s fault.0 (omega (arith, one_more_counted rest line after rest_is))
    (λ f is. not_begins text rest line after f rest_is clean (line_clean f is) (fault.1 f is))
wrong_line text rest line after number old new faults.OutOfMemory s rest_is clean fault = tt

-- bytes behind the last line feed
pub wrong_last : (text rest : List ℕ) (number : ℕ) (old new : List ℕ) (e : LineFault) → SoFar text rest number old new → 0 < length rest → HasNoFeed rest → IsFaultOfLine rest number e → IsLineFault text e
wrong_last text rest number old new (faults.Line n) s some clean fault =
    first_wrong text rest number n old new s fault.0 (omega arith) (λ f is begins. fault.1 f is (whole_rest text rest f clean begins).1)
wrong_last text rest number old new faults.OutOfMemory s some clean fault = tt

-- the limit
pub too_long : (text rest : List ℕ) (number : ℕ) (old new : List ℕ) → SoFar text rest number old new → HasNoFeed rest → MOST_CAPTURE < length text → IsLineFault text (faults.Line number)
too_long text rest number old new s clean long =
    first_wrong text rest number number old new s refl (omega arith) (λ f is begins. absurd (omega (arith, (whole_rest text rest f clean begins).0)))

-- ---- a whole text

pub all_read : (text rest : List ℕ) (number : ℕ) (old new : List ℕ) → SoFar text rest number old new → length text ≤ MOST_CAPTURE → length rest ≡ 0 → WroteFrames text old new
all_read text [] number old new s short none =
    record {
      frames = s.frames;
      is_text = record { short = short; are_frames = s.are_frames; lines = inl (sym (take_all MOST_CAPTURE text short) ∙ s.parts ∙ append-nil (all_lines s.frames)) };
      appended = s.appended;
    }
all_read text (b ∷ rest) number old new s short none = absurd (omega arith)

pub last_read : (text rest : List ℕ) (number : ℕ) (old mid new : List ℕ) → SoFar text rest number old mid → length text ≤ MOST_CAPTURE → WroteFrame rest mid new → WroteFrames text old new
last_read text rest number old mid new s short w =
    let is : ended text ≡ all_lines (s.frames ++ w.frame ∷ []) =
    ap ended (sym (take_all MOST_CAPTURE text short) ∙ s.parts) ∙ append_assoc (all_lines s.frames) rest (10 ∷ []) ∙ more_lines s.frames w.frame rest w.line_is
    in record {
      frames = s.frames ++ w.frame ∷ [];
      is_text = record { short = short; are_frames = All-append IsFrame s.frames (w.frame ∷ []) s.are_frames (w.is_frame, tt); lines = inr is };
      appended = more_bytes s.frames w.frame old mid new s.appended w.appended;
    }
