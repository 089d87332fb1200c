use Rattle.std.proofs.Common.{◌∙◌, ap, subst}
use Rattle.std.proofs.lemmas.Result.{IfOk-weaker}
use Rattle.conn_lock.specs.Callers.{Follows}
use Rattle.conn_shared.specs.Lines.{entries_in, lines_of, number_of}
use Rattle.conn_shared.proofs.Lines.{entries-noted, went_on}
use Rattle.conn_shared.proofs.shared.SharedSession.try_enter.Goals as goal

pub returns-clause-front : goal.returns-clause-front
returns-clause-front g c = IfOk-weaker c.try_enter.result _ _ (λ t is. ap (λ s. entries_in s.front) is ∙ entries-noted t.value.entries) c.try_enter.ensures.same

pub returns-clause-follows : goal.returns-clause-follows
returns-clause-follows g c =
    let seat = c.args.seat in
    IfOk-weaker c.try_enter.result _ _ (λ t f. (went_on _ _ seat.names (entries_in seat.front) t.value (subst (λ front. Follows number_of seat.names front (lines_of t.value)) c.requires.member.lined f)).follows) c.try_enter.ensures.front
