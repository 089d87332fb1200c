use Rattle.conn_tests.proofs.Joined.{no_more}
use Rattle.conn_tests.proofs.tests.joins.join.Goals as goal

pub returns-clause-ours : goal.returns-clause-ours
returns-clause-ours g c = no_more _ _ _ c.join.ensures.own.0

pub returns-clause-theirs : goal.returns-clause-theirs
returns-clause-theirs g c = no_more _ _ _ c.join.ensures.own.1
