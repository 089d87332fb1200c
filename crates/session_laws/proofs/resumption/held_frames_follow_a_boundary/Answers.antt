use Rattle.session_laws.proofs.Told.{first_after_acked, first_boundary, held_boundary, held_fits, told_within}
use Rattle.session_laws.proofs.resumption.held_frames_follow_a_boundary.Goals as goal

pub returns : goal.returns
returns c = record { boundary = first_boundary; boundaries = held_boundary; acked = first_after_acked; hold = held_fits; told = told_within }
