-- What the peer asks of an end, and what of it callers got.
use Rattle.std.specs.Prelude.{ℕ, ◌+◌, ◌==◌, List, [], ◌∷◌, ◌++◌}
use Rattle.rs_wire.specs.declared.delivery.Job.{Job}
use Rattle.rs_wire.specs.declared.delivery.Job.TheVariants as job
use Rattle.tape.specs.declared.answer.Answer.{Answer}
use Rattle.tape.specs.declared.answer.Answer.TheVariants as answer
use Rattle.tape.specs.declared.entry.Entry.{Entry}
use Rattle.stream_model.specs.Streams.{one_if}

abbrev pub got_in : Answer → List Job
got_in (answer.GotJob job) = job ∷ []
got_in _ = []

-- the jobs that callers got, in their order
unfoldable pub jobs_got : List Entry → List Job
jobs_got [] = []
jobs_got (x ∷ past) = jobs_got past ++ got_in x.answer

abbrev pub is_on : ℕ → Job → ℕ
is_on s (job.Asked stream kind initial message complete) = one_if (stream == s)
is_on s (job.Pushed metadata) = 0

-- how many of these jobs are on a stream
unfoldable pub jobs_on : ℕ → List Job → ℕ
jobs_on s [] = 0
jobs_on s (j ∷ jobs) = is_on s j + jobs_on s jobs

-- the requests among jobs: the rest is metadata that was pushed
abbrev pub requests : List Job → List Job
requests [] = []
requests (job.Asked stream kind initial message complete ∷ jobs) = job.Asked stream kind initial message complete ∷ requests jobs
requests (job.Pushed metadata ∷ jobs) = requests jobs
