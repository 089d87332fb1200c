use Rattle.session_laws.proofs.ClosedJobs.{jobs_stay, none_wait}
use Rattle.session_laws.proofs.jobs.no_job_comes_once_closed.Goals as goal

pub returns : goal.returns
returns c = record { jobs = jobs_stay; waiting = none_wait }
