use Rattle.workers.proofs.Waiting.{course_of_none}
use Rattle.workers.proofs.laws.course_of_none.Goals as goal

pub returns : goal.returns
returns c = course_of_none
