-- The line of a frame has no line feed.
use Rattle.std.proofs.Common.{ℕ, List, [], ◌∷◌, ◌++◌, arith}
use Rattle.rs_frame.specs.declared.frame.Frame.{Frame}
use Rattle.frame_text.specs.Lines.{fields_of, line_of, spaced}
use Rattle.frame_text.specs.Names.{frame_name}
use Rattle.frame_text.proofs.OneFrame.{name_clean, words_clean}
use Rattle.frame_text.proofs.Steps.{AboveSpace, AllAboveSpace}
use Rattle.plain_text.specs.Lines.{HasNoFeed}
use Rattle.capture.specs.Text.{IsFrame}

above_clean : (w : List ℕ) → AboveSpace w → HasNoFeed w
above_clean [] h = tt
above_clean (b ∷ w) h = ((λ is. absurd (omega (arith, h.0))), above_clean w h.1)

clean_append : (v w : List ℕ) → HasNoFeed v → HasNoFeed w → HasNoFeed (v ++ w)
clean_append [] w h k = k
clean_append (b ∷ v) w h k = (h.0, clean_append v w h.1 k)

spaced_clean : (words : List (List ℕ)) → AllAboveSpace words → HasNoFeed (spaced words)
spaced_clean [] all = tt
spaced_clean (word ∷ words) all = ((λ is. absurd cc), clean_append word (spaced words) (above_clean word all.0) (spaced_clean words all.1))

pub line_clean : (f : Frame) → IsFrame f → HasNoFeed (line_of f)
line_clean f is = clean_append (frame_name f) (spaced (fields_of f)) (above_clean (frame_name f) (name_clean f)) (spaced_clean (fields_of f) (words_clean f is.0.fields is.1))
