use Rattle.std.proofs.Common.{rules, ◌∙◌, ap, subst}
use Rattle.conn_lock.specs.Callers.{Follows}
use Rattle.conn_shared.specs.Lines.{entries_in, lines_of, lines_with, number_of}
use Rattle.conn_shared.proofs.Lines.{entries-noted, went_on}
use Rattle.conn_shared.proofs.shared.SharedSession.enter.Goals as goal

pub returns-clause-follows : goal.returns-clause-follows
returns-clause-follows g c = (went_on _ _ _ _ c.enter.result.value (subst (λ f. Follows number_of c.args.seat.names f (lines_of c.enter.result.value)) c.requires.member.lined c.enter.ensures.front)).follows

pub returns-clause-front : goal.returns-clause-front
returns-clause-front g c = ap entries_in {x = c.enter.result.seat.front} {y = lines_with c.args.self.now.settings c.args.self.now.tells c.enter.result.value.entries} (search rules) ∙ entries-noted c.enter.result.value.entries
