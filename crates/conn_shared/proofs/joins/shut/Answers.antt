use Rattle.std.proofs.Common.{◌≡◌, ◌∙◌, ap, subst}
use Rattle.conn_lock.specs.Callers.{calls}
use Rattle.conn_shared.specs.Lines.{number_of}
use Rattle.conn_shared.proofs.Lines.{same_entries, unused_in}
use Rattle.conn_shared.proofs.joins.shut.Goals as goal

pub returns-in-Ok-clause-entries : goal.returns-in-Ok-clause-entries
returns-in-Ok-clause-entries g c = ap (λ s. s.entries) c.into_session.ensures ∙ same_entries _ _ _ c.in-Ok.stored (c.in-Ok.ensures.list ∙ c.requires.member.lined)

pub returns-in-Ok-clause-named : goal.returns-in-Ok-clause-named
returns-in-Ok-clause-named g c = λ x none. unused_in c.args.seat.front x (subst (λ ls. calls number_of x ls ≡ 0) c.in-Ok.ensures.list (c.in-Ok.ensures.named x none))
