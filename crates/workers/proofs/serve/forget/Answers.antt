use Rattle.std.proofs.Common.{◌==◌, ◌∙◌, ap, subst, sym}
use Rattle.std.specs.List.{position}
use Rattle.workers.specs.declared.job.OpenJob.{OpenJob}
use Rattle.workers.specs.Going.{IsForgotten}
use Rattle.workers.proofs.Putting.{nothing_forgotten, one_forgotten}
use Rattle.workers.proofs.serve.forget.Goals as goal

pub returns-in-Some-clause-forgotten : goal.returns-in-Some-clause-forgotten
returns-in-Some-clause-forgotten c =
    subst (IsForgotten c.args.stream c.args.jobs.now.items) (sym c.remove.ensures.items)
    (one_forgotten c.args.stream c.in-Some.place c.args.jobs.now.items c.remove.result
    (ap (position (λ (j : OpenJob). j.stream == c.args.stream)) (sym c.deref.ensures.value) ∙ (sym c.find.ensures.place ∙ c.in-Some.is)))

pub returns-in_default-clause-forgotten : goal.returns-in_default-clause-forgotten
returns-in_default-clause-forgotten c =
    nothing_forgotten c.args.stream c.args.jobs.now.items
    (ap (position (λ (j : OpenJob). j.stream == c.args.stream)) (sym c.deref.ensures.value) ∙ (sym c.find.ensures.place ∙ c.in_default.is))
