use Rattle.std.proofs.Common.{rules, ◌<◌, ap}
use Rattle.stream_table.specs.Tables.{TableOf, highest_in}
use Rattle.interactions.specs.Stands.{known_of}
use Rattle.interactions.proofs.Standing.{over_stands}
use Rattle.interactions.proofs.parts.Parts.passed_over.Goals as goal

pub returns-clause-stands : goal.returns-clause-stands
returns-clause-stands c =
    let p = c.args.self.now in
    let above : highest_in p.table c.args.id < c.args.id = c.is_peers_next.ensures.above (search rules) in
    λ seen h. over_stands p _ seen c.args.id (ap (λ (t : TableOf). t.limits) c.skip.ensures) above (ap (λ (t : TableOf). known_of (record p { table = t })) c.skip.ensures) h
