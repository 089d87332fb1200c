use Rattle.session_laws.proofs.Verdict.{resume_accepted, resumes_agreed, resumes_begun}
use Rattle.session_laws.proofs.resumption.resume_is_accepted_where_both_ends_hold.Goals as goal

pub returns : goal.returns
returns c = record { accepted = resume_accepted; begun = resumes_begun; agreed = resumes_agreed }
