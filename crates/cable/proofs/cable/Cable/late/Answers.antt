use Rattle.std.proofs.Common.{◌∙◌, ap, sym}
use Rattle.cable.specs.Wires.{Wires}
use Rattle.cable.proofs.Dropping.{late_nowhere, late_number, late_played}
use Rattle.cable.proofs.cable.Cable.late.Goals as goal

pub carry-requires-clause-number : goal.carry-requires-clause-number
carry-requires-clause-number g c =
    let i = c.requires.at in
    late_number (record { client = c.self.inside.client; server = c.self.inside.server; wire = c.self.inside.wire; dropped = c.self.inside.dropped }) c.args.self.now i.0 c.in-Some.conn c.self.view_is c.in-Some.is i.1

pub returns-in_default-clause-played : goal.returns-in_default-clause-played
returns-in_default-clause-played g c = λ r at. late_nowhere c.args.self.now r c.args.most (ap (λ (v : Wires). v.dropped) (sym c.self.view_is) ∙ c.in_default.is) at

pub returns-clause-played : goal.returns-clause-played
returns-clause-played g c = λ r at.
    late_played (record { client = c.self.inside.client; server = c.self.inside.server; wire = c.self.inside.wire; dropped = c.self.inside.dropped }) c.args.self.now r c.args.most c.in-Some.conn c.carry.new.end c.new-lost.result c.carry.new.rest _ c.self.view_is c.in-Some.is at c.legal.ensures.legal c.legal.ensures.fair c.carry.ensures.end c.in_ok-carry.ensures.carried
