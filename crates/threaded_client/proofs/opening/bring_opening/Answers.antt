use Rattle.std.proofs.Common.{subst, sym}
use Rattle.tape.specs.declared.event.Event.{Event}
use Rattle.carriers.specs.Moves.{HasTold}
use Rattle.threaded_client.proofs.opening.bring_opening.Goals as goal

pub returns-clause-told : goal.returns-clause-told
returns-clause-told g c = (c.in_ok-answer.answer, sym c.number_of.ensures, subst (λ (e : Event). HasTold c.args.connection.now.settings c.args.caller.now c.tell.new.caller e c.in_ok-answer.answer) c.opening.ensures c.in_ok-answer.ensures.told)
