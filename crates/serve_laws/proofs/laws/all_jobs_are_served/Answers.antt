use Rattle.serve_laws.proofs.Work.{jobs_are}
use Rattle.serve_laws.proofs.laws.all_jobs_are_served.Goals as goal

pub returns : goal.returns
returns c = λ g routes names workers n past lawful named jobs. jobs_are g routes names workers n past named jobs lawful
