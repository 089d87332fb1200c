use Rattle.std.proofs.Common.{refl}
use Rattle.session_core.proofs.AfterTake.{after_job}
use Rattle.session_core.proofs.state.State.take_job.Goals as goal

pub returns-clause-after : goal.returns-clause-after
returns-clause-after c g = after_job g c.args.self.now _ _ _ c.requires.heard c.take_job.ensures.after refl
