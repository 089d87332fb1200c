use Rattle.session_model.proofs.Beside.{made_spellable, refusal_spelled}
use Rattle.session_laws.proofs.Spelled.{due_spelled, came_spelled}
use Rattle.session_laws.proofs.one_end.frames_are_spellable.Goals as goal

pub returns-clause-made : goal.returns-clause-made
returns-clause-made c = made_spellable

pub returns-clause-due : goal.returns-clause-due
returns-clause-due c = due_spelled

pub returns-clause-refusal : goal.returns-clause-refusal
returns-clause-refusal c = refusal_spelled

pub returns-clause-came : goal.returns-clause-came
returns-clause-came c = came_spelled
