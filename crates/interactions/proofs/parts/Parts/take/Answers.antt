use Rattle.std.proofs.Common.{refl}
use Rattle.interactions.proofs.Taken.{taken_stands}
use Rattle.interactions.proofs.parts.Parts.take.Goals as goal

pub returns-clause-stands : goal.returns-clause-stands
returns-clause-stands c = λ seen h. taken_stands c.args.self.now _ seen c.args.stream c.pop.result refl refl c.pop.ensures.waits c.pop.ensures.others h
