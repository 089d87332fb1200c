use Rattle.std.proofs.Common.{◌∙◌}
use Rattle.interactions.proofs.Beginning.{begun_part, begun_whole}
use Rattle.interactions.proofs.stream.begun.Goals as goal

pub returns-in-None-clause-first : goal.returns-in-None-clause-first
returns-in-None-clause-first c = λ o r k i w.
    c.first_part.ensures.first ∙ begun_part o c.args.role c.args.kind c.args.initial r k i (w ∙ c.in-None.is)

pub returns-in-Some-clause-first : goal.returns-in-Some-clause-first
returns-in-Some-clause-first c = λ o r k i w.
    let b = begun_whole o c.args.role c.args.kind c.args.initial c.in-Some.complete r k i (w ∙ c.in-Some.is) in
    c.first_whole.ensures.first b.0 ∙ b.1
