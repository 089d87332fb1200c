use Rattle.frame_text.proofs.OneFrame.{one_frame}
use Rattle.frame_text.proofs.RightWords.{line_reads}
use Rattle.frame_text.proofs.laws.line_laws.Goals as goal

pub returns-clause-one : goal.returns-clause-one
returns-clause-one c = one_frame

pub returns-clause-right : goal.returns-clause-right
returns-clause-right c = line_reads
