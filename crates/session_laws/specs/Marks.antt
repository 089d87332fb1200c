-- The frames behind the marks.
use Rattle.std.specs.Prelude.{List, [], ◌∷◌}
use Rattle.rs_frame.specs.declared.frame.Frame.{Frame}
use Rattle.session_model.specs.Frames.{Mark, Sent, Got}

-- the frames that are marked as made
abbrev pub sent : List Mark → List Frame
sent [] = []
sent (Sent f ∷ marks) = f ∷ sent marks
sent (Got covered f ∷ marks) = sent marks

-- the frames that are marked as handled
abbrev pub got : List Mark → List Frame
got [] = []
got (Sent f ∷ marks) = got marks
got (Got covered f ∷ marks) = f ∷ got marks
