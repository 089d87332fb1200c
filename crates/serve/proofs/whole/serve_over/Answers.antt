use Rattle.std.proofs.Common.{rules, length}
use Rattle.serve.specs.Links.{net_of}
use Rattle.serve.proofs.Leaving.{nothing_left}
use Rattle.serve.proofs.whole.serve_over.Goals as goal

pub serve_at-requires-clause-guests : goal.serve_at-requires-clause-guests
serve_at-requires-clause-guests g c κs within = c.in-Ok.ensures.vacant c.args.serving.now.settings.now c.requires.server (λ works. search rules) c.requires.settings

pub serve_at-requires-clause-workers : goal.serve_at-requires-clause-workers
serve_at-requires-clause-workers g c κs within = c.in-Ok.ensures.ready c.args.serving.now.settings.now c.requires.settings

pub returns-in-Err-clause-links : goal.returns-in-Err-clause-links
returns-in-Err-clause-links g c =
    nothing_left c.args.serving.now.settings.now c.args.serving.now.plan.now c.args.serving.now.routes.now (g.K.Clock.moments c.args.serving.now.clock.now) (length c.args.connections.now) (net_of g.N.Net.asked g.N.Net.back g.N.Net.out g.N.Net.faults c.args.net.now) _
