use Rattle.std.proofs.Common.{List, refl, ap}
use Rattle.rs_wire.specs.declared.delivery.Job.{Job}
use Rattle.interactions.specs.Stands.{known_of}
use Rattle.interactions.proofs.Standing.{pushed_stands}
use Rattle.interactions.proofs.parts.Parts.pushed.Goals as goal

pub returns-clause-stands : goal.returns-clause-stands
returns-clause-stands c =
    let p = c.args.self.now in
    λ seen h. pushed_stands p _ seen c.args.metadata refl (ap (λ (js : List Job). record (known_of p) { jobs = js }) c.push_some.ensures.items) h
