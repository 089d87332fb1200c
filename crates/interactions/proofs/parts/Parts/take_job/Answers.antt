use Rattle.std.proofs.Common.{refl}
use Rattle.interactions.proofs.Taken.{job_stands}
use Rattle.interactions.proofs.parts.Parts.take_job.Goals as goal

pub returns-clause-stands : goal.returns-clause-stands
returns-clause-stands c = λ seen h. job_stands c.args.self.now _ seen c.pop.result refl refl c.pop.ensures.items h
