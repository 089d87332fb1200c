use Rattle.std.proofs.Common.{◌∙◌, ap}
use Rattle.rtrb.specs.Ring.{received, sent}
use Rattle.threaded.proofs.Followed.{far_begun}
use Rattle.threaded.proofs.running.begin_far.Goals as goal

pub returns-clause-begun : goal.returns-clause-begun
returns-clause-begun g c =
    let far = c.new.result in
    far_begun c.args.caller far.caller far.knows (sent far.out) (received far.from) c.new.ensures.caller (ap (λ p. sent p) c.new.ensures.out ∙ c.requires.out) (ap (λ p. received p) c.new.ensures.from ∙ c.requires.from)
    (c.new.ensures.begun c.requires.caller c.requires.out c.requires.from)
