-- The jobs that wait.
use Rattle.std.proofs.Common.{◌≡◌, ◌≤◌, ◌+◌, ℕ, List, [], ◌∷◌, ◌++◌, length, drop, ap, sym, ◌∙◌, arith, length-append, length-drop, append-nil}
use Rattle.std.proofs.lemmas.List.{drop-append-le, drop-drop}
use Rattle.rs_wire.specs.declared.delivery.Job.{Job}
use Rattle.stream_model.specs.Marks.{Mark, TookJob}
use Rattle.stream_model.specs.Streams.{jobs, jobs_taken, jobs_in, brings_job, jobs_waiting}
use Rattle.stream_model.specs.Fair.{Fair, Fits}

enough_after : (most : ℕ) (seen : List Mark) (m : Mark) → jobs_taken seen ≤ length (jobs most seen) → Fits most seen m → jobs_taken seen + jobs_in m ≤ length (jobs most seen ++ brings_job most seen m)
unfolding jobs_waiting
enough_after most seen TookJob le f = let d = length-drop (jobs_taken seen) (jobs most seen) in omega (arith, length-append (jobs most seen) [])
enough_after most seen m le f = omega (arith, length-append (jobs most seen) (brings_job most seen m))

pub enough : (most : ℕ) (seen : List Mark) → Fair most seen → jobs_taken seen ≤ length (jobs most seen)
unfolding Fair jobs jobs_taken
enough most [] h = omega arith
enough most (m ∷ seen) h = enough_after most seen m (enough most seen h.0) h.1

-- the jobs that wait after a mark that takes none
pub jobs_more : (most : ℕ) (seen : List Mark) (m : Mark) → Fair most seen → jobs_in m ≡ 0 → jobs_waiting most (m ∷ seen) ≡ jobs_waiting most seen ++ brings_job most seen m
unfolding jobs_waiting jobs jobs_taken
jobs_more most seen m h none = let z : jobs_taken seen + 0 ≡ jobs_taken seen = omega arith in rw (none, z) (drop-append-le (jobs_taken seen) (jobs most seen) (brings_job most seen m) (enough most seen h))

-- the first job that waits is taken
pub jobs_after : (most : ℕ) (seen : List Mark) (j : Job) (rest : List Job) → jobs_waiting most seen ≡ j ∷ rest → jobs_waiting most (TookJob ∷ seen) ≡ rest
unfolding jobs_waiting jobs jobs_taken
jobs_after most seen j rest e = rw append-nil (sym (drop-drop 1 (jobs_taken seen) (jobs most seen)) ∙ ap (drop 1) e)
