use Rattle.session_laws.proofs.Lawful.{laws_of, taken_prefix}
use Rattle.session_laws.proofs.streams.taken_is_what_was_delivered_first.Goals as goal

pub returns-clause-prefix : goal.returns-clause-prefix
returns-clause-prefix c = taken_prefix

pub returns-clause-rest : goal.returns-clause-rest
returns-clause-rest c = λ g past s t is. (laws_of g past s t is).taken
