use Rattle.session_laws.proofs.TakesOfJobs.{take_refused_at_end}
use Rattle.session_laws.proofs.jobs.a_take_of_a_job_is_refused_at_its_end.Goals as goal

pub returns : goal.returns
returns c = take_refused_at_end
