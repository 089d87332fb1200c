use Rattle.std.proofs.Common.{rules, ◌∙◌, ap}
use Rattle.conn_shared.specs.Lines.{entries_in, lines_with}
use Rattle.conn_shared.proofs.Lines.{entries-noted, gains_lines}
use Rattle.conn_shared.proofs.Seated.{seated}
use Rattle.conn_shared.proofs.shared.SharedSession.leave.Goals as goal

pub leave-requires-clause-own : goal.leave-requires-clause-own
leave-requires-clause-own g c =
    let t = c.args.turn in
    rw (c.requires.was, c.requires.settings, c.requires.tells) (gains_lines _ _ t.seat.number _ t.value.entries c.requires.own)

pub returns-clause-front : goal.returns-clause-front
returns-clause-front g c = ap entries_in {x = c.leave.result.front} {y = lines_with c.args.self.now.settings c.args.self.now.tells c.args.turn.value.entries} (search rules) ∙ entries-noted c.args.turn.value.entries

pub returns-clause-member : goal.returns-clause-member
returns-clause-member g c = seated c.args.self.now.settings c.args.self.now.tells c.args.turn.value.entries c.leave.result (search rules) c.requires.legal c.requires.fair
