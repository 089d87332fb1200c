use Rattle.session_laws.proofs.OpenedOnce.{resumes_none}
use Rattle.session_laws.proofs.openings.no_resume_is_accepted_where_none_is_agreed.Goals as goal

pub returns : goal.returns
returns c = resumes_none
