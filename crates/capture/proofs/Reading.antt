-- How far a capture was read, and the lines that were written.
use Rattle.std.proofs.Common.{◌≡◌, ℕ, ◌+◌, ◌<◌, ◌≤◌, List, [], ◌∷◌, ◌++◌, length, take, drop, refl, sym, ap, subst, ◌∙◌, arith}
use Rattle.std.proofs.lemmas.List.{append-nil, flat_map_more, length-drop, length-take, take_all}
use Rattle.rs_frame.specs.declared.frame.Frame.{Frame}
use Rattle.rs_frame.specs.Spelling.{Spells}
use Rattle.rs_chunk.specs.Stream.{HasFrame, IsCut, after_frame, first_length}
use Rattle.frame_text.specs.Lines.{line_of}
use Rattle.plain_text.specs.Lines.{ended}
use Rattle.capture.specs.declared.TheConstants.{MOST_CAPTURE}
use Rattle.capture.specs.declared.lines.BadFrame.{BadFrame}
use Rattle.capture.specs.declared.lines.BadFrame.TheVariants as bads
use Rattle.capture.specs.Captured.{AreSpelled, Holds, IsBadAt, IsWrong, WroteLines, all_lines}

spelled_snoc : (fs : List Frame) (bs : List (List ℕ)) (f : Frame) (b : List ℕ) → AreSpelled fs bs → Spells f b → AreSpelled (fs ++ f ∷ []) (bs ++ b ∷ [])
unfolding AreSpelled
spelled_snoc [] [] f b all one = (one, tt)
spelled_snoc (g ∷ fs) (c ∷ bs) f b all one = (all.0, spelled_snoc fs bs f b all.1 one)
spelled_snoc [] (c ∷ bs) f b all one = absurd all
spelled_snoc (g ∷ fs) [] f b all one = absurd all

pub at_start : (bytes old : List ℕ) → WroteLines bytes bytes old old
unfolding AreSpelled
at_start bytes old =
    record {
      frames = [];
      holds = record { spellings = []; spelled = tt; cut = record { whole = refl; fit = tt } };
      lines = sym (append-nil old);
    }

-- the frame at the front was read, and its line written
pub one_more : (all old out new rest frame after : List ℕ) (f : Frame) → WroteLines all rest old out → ((frames : List (List ℕ)) → IsCut all frames rest → IsCut all (frames ++ frame ∷ []) after) → Spells f frame → new ≡ out ++ ended (line_of f) → WroteLines all after old new
one_more all old out new rest frame after f w passes spells wrote =
    record {
      frames = w.frames ++ f ∷ [];
      holds = record {
        spellings = w.holds.spellings ++ frame ∷ [];
        spelled = spelled_snoc w.frames w.holds.spellings f frame w.holds.spelled spells;
        cut = passes w.holds.spellings w.holds.cut;
      };
      lines = wrote ∙ ap (λ (t : List ℕ). t ++ ended (line_of f)) w.lines ∙ flat_map_more (λ (g : Frame). ended (line_of g)) old w.frames f;
    }

-- the frame after those that were read is wrong
pub bad_at : (bytes rest old new : List ℕ) (place : ℕ) (bad : BadFrame) → length bytes ≤ MOST_CAPTURE → WroteLines bytes rest old new → place + length rest ≡ length bytes → 0 < length rest → IsWrong rest bad → (before : List Frame) × IsBadAt bytes place bad before × (new ≡ old ++ all_lines before)
bad_at bytes rest old new place bad short w place_is some wrong =
    let all : bytes ≡ take MOST_CAPTURE bytes = sym (take_all MOST_CAPTURE bytes short) in (
      w.frames,
      record {
        rest = rest;
        holds = subst (λ (t : List ℕ). Holds t w.frames rest) all w.holds;
        place_is = place_is ∙ ap length all;
        there = omega arith;
        wrong = wrong;
      },
      w.lines,
    )

-- what is found within the limit
pub within : (bytes : List ℕ) (place : ℕ) (bad : BadFrame) (before : List Frame) → IsBadAt (take MOST_CAPTURE bytes) place bad before → IsBadAt bytes place bad before
within bytes place bad before found =
    let short : length (take MOST_CAPTURE bytes) ≤ MOST_CAPTURE = omega (arith, length-take MOST_CAPTURE bytes) in
    let same : take MOST_CAPTURE (take MOST_CAPTURE bytes) ≡ take MOST_CAPTURE bytes = take_all MOST_CAPTURE (take MOST_CAPTURE bytes) short in
    record {
      rest = found.rest;
      holds = subst (λ (t : List ℕ). Holds t before found.rest) same found.holds;
      place_is = found.place_is ∙ ap length same;
      there = omega (arith, found.there, length-take MOST_CAPTURE bytes);
      wrong = found.wrong;
    }

-- the bytes pass the limit after a frame
pub passes_limit : (bytes old new : List ℕ) (place : ℕ) (bad : BadFrame) → MOST_CAPTURE < length bytes → place ≡ MOST_CAPTURE → bad ≡ bads.NotWhole → WroteLines (take MOST_CAPTURE bytes) [] old new → (before : List Frame) × IsBadAt bytes place bad before × (new ≡ old ++ all_lines before)
passes_limit bytes old new place bad long at none w = (
  w.frames,
  record {
    rest = [];
    holds = w.holds;
    place_is = omega (arith, length-take MOST_CAPTURE bytes);
    there = omega arith;
    wrong = subst (IsWrong []) (sym none) (λ has. absurd (omega (arith, has.0)));
  },
  w.lines,
)

pub shorter : (bytes after : List ℕ) → HasFrame bytes → after ≡ after_frame bytes → length after < length bytes
shorter bytes after has is = omega (arith, has.0, has.1, ap length is, length-drop 3 bytes, length-drop (first_length bytes) (drop 3 bytes))
