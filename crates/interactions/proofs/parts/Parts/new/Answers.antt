use Rattle.std.proofs.Common.{ap}
use Rattle.stream_table.specs.Tables.{TableOf}
use Rattle.interactions.proofs.Standing.{none_stands}
use Rattle.interactions.proofs.parts.Parts.new.Goals as goal

pub returns-clause-stands : goal.returns-clause-stands
returns-clause-stands c =
    let is = c.in_ok-new.ensures.empty in
    none_stands _ (ap (λ (t : TableOf). t.kept) is) (ap (λ (t : TableOf). t.even) is) (ap (λ (t : TableOf). t.odd) is) c.new-2.ensures c.new-3.ensures
