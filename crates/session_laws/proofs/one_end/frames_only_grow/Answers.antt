use Rattle.session_laws.proofs.Growth.{made_grows, handled_grows}
use Rattle.session_laws.proofs.one_end.frames_only_grow.Goals as goal

pub returns-clause-made : goal.returns-clause-made
returns-clause-made c = made_grows

pub returns-clause-handled : goal.returns-clause-handled
returns-clause-handled c = handled_grows
