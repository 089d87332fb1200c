use Rattle.session_model.proofs.Meaning.{meaning}
use Rattle.session_model.proofs.laws.answers_have_their_meaning.Goals as goal

pub returns : goal.returns
returns c = meaning
