use Rattle.std.proofs.Common.{rules, sym, subst}
use Rattle.conn_shared.specs.Members.{Gains}
use Rattle.conn_shared.proofs.Called.{gains_own}
use Rattle.conn_shared.proofs.stored.Stored.bring.Goals as goal

pub returns-clause-own : goal.returns-clause-own
returns-clause-own g c = subst (Gains c.args.who c.args.self.now.entries) (sym (search rules)) (gains_own c.args.self.now.entries c.args.who c.args.event c.bring-answer.result)
