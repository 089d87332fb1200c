use Rattle.std.proofs.Common.{◌≡◌, length}
use Rattle.rustshuttle.specs.Ends.{HasAppended}
use Rattle.rustshuttle.proofs.endpoint.Endpoint.bring_all.Given as goal

abbrev pub invariant-loop-self : goal.invariant-loop-self
invariant-loop-self g l = HasAppended l.fn.answers.items l.answers.items l.fn.self l.self
    × (l.self.session.settings ≡ l.fn.self.session.settings)

abbrev pub decreases-loop-self : goal.decreases-loop-self
decreases-loop-self g l = length l.self.rest
