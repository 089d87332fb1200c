use Rattle.workers.proofs.Routing.{found_awaits}
use Rattle.workers.proofs.step.make_step.Goals as goal

pub returns-then-awaits_content-clause-kept : goal.returns-then-awaits_content-clause-kept
returns-then-awaits_content-clause-kept g c =
    let yes = c.if-awaits_content.true in
    c.take_content.ensures.kept c.args.tools.now.routes.now
    (found_awaits c.args.tools.now.routes.now c.args.job.now c.requires.routed (c.awaits_content.ensures.route yes) (c.awaits_content.ensures.kind yes) (c.awaits_content.ensures.stage yes))

pub returns-then-awaits_content-clause-cause : goal.returns-then-awaits_content-clause-cause
returns-then-awaits_content-clause-cause g c =
    let yes = c.if-awaits_content.true in
    c.take_content.ensures.cause c.args.tools.now.routes.now
    (found_awaits c.args.tools.now.routes.now c.args.job.now c.requires.routed (c.awaits_content.ensures.route yes) (c.awaits_content.ensures.kind yes) (c.awaits_content.ensures.stage yes))

pub returns-then-awaits_content-clause-whole : goal.returns-then-awaits_content-clause-whole
returns-then-awaits_content-clause-whole g c =
    let yes = c.if-awaits_content.true in
    c.take_content.ensures.whole c.args.tools.now.routes.now
    (found_awaits c.args.tools.now.routes.now c.args.job.now c.requires.routed (c.awaits_content.ensures.route yes) (c.awaits_content.ensures.kind yes) (c.awaits_content.ensures.stage yes))
