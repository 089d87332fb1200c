use Rattle.std.proofs.Common.{rules}
use Rattle.client.proofs.Opening.{fault_for}
use Rattle.client.proofs.client.Client.again.Goals as goal

pub returns-clause-cause : goal.returns-clause-cause
returns-clause-cause g c = fault_for c.open_on.result _ _ _ _ _ _ _ _ _ _ (search rules) c.open_on.ensures.refusal (search rules) (search rules) c.open_on.ensures.back (search rules)
