use Rattle.std.proofs.Common.{rules, ◌≡◌, ◌∙◌, true, false}
use Rattle.pump.proofs.Settled.{settles_bad, settles_came}
use Rattle.pump.proofs.inner.Inner.settle.Goals as goal

pub returns-then-bad-clause-steps : goal.returns-then-bad-clause-steps
returns-then-bad-clause-steps c e is =
    let bad : c.args.bad ≡ true = search rules in
    settles_bad c.args.self.now e c.requires.fed c.requires.good (is ∙ bad)

pub returns-else-bad-clause-steps : goal.returns-else-bad-clause-steps
returns-else-bad-clause-steps c e is =
    let came : c.args.bad ≡ false = search rules in
    settles_came c.args.self.now c.pass.new.self e c.requires.fed c.requires.good c.pass.ensures.rest c.pass.ensures.fed (is ∙ came)
