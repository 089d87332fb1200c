-- How many bytes the frames of a call take.
use Rattle.std.specs.Prelude.{ℕ, List, [], ◌∷◌, length, Option, Some, None}
use Rattle.rs_frame.specs.declared.frame.Frame.{Frame}
use Rattle.position.specs.Boundaries.{pos}
use Rattle.fragment.specs.declared.size.SplitSize.{SplitSize}
use Rattle.session_model.specs.Frames.{in_fragments}

-- how many frames these are, and their lengths in sum
abbrev pub size_of_frames : List Frame → SplitSize
size_of_frames fs = record { frames = length fs; bytes = pos fs }

-- of a frame that goes out alone, where there is one
abbrev pub size_alone : Option Frame → Option SplitSize
size_alone None = None
size_alone (Some f) = Some (size_of_frames (f ∷ []))

-- how many frames a frame goes out in, and their lengths in sum
abbrev pub size_sent : ℕ → Option Frame → Option SplitSize
size_sent mtu None = None
size_sent mtu (Some f) = Some (size_of_frames (in_fragments mtu f))
