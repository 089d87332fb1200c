use Rattle.std.proofs.Common.{length}
use Rattle.serve_slots.proofs.Lists.{first_of}
use Rattle.serve.specs.Links.{net_of}
use Rattle.serve.proofs.Leaving.{first_parts, nothing_left}
use Rattle.serve.proofs.whole.serve_made.Goals as goal

pub returns-in-Err-clause-of : goal.returns-in-Err-clause-of
returns-in-Err-clause-of g c = first_of c.args.connections.now c.args.mains.now.callers.items c.requires.first

pub returns-in-Err-clause-parts : goal.returns-in-Err-clause-parts
returns-in-Err-clause-parts g c = first_parts c.args.connections.now c.args.mains.now.callers.items c.requires.first

pub returns-in-Err-clause-links : goal.returns-in-Err-clause-links
returns-in-Err-clause-links g c =
    nothing_left c.args.serving.now.settings.now c.args.serving.now.plan.now c.args.serving.now.routes.now (g.K.Clock.moments c.args.serving.now.clock.now) (length c.args.connections.now) (net_of g.N.Net.asked g.N.Net.back g.N.Net.out g.N.Net.faults c.args.net.now) _
