use Rattle.serve.specs.Links.{net_of}
use Rattle.rsocket_serve.specs.Served.{settings_for}
use Rattle.rsocket_serve.proofs.Coming.{came_over}
use Rattle.rsocket_serve.proofs.Tapes.{got_of}
use Rattle.rsocket_serve.proofs.serving.come.Goals as goal

pub returns-clause-come : goal.returns-clause-come
returns-clause-come g c =
    let seen = net_of g.N.Net.asked g.N.Net.back g.N.Net.out g.N.Net.faults in
    came_over c.args.task.now c.args.routes.now (g.K.Clock.moments c.args.clock.now) (g.H.Shelf.back c.args.shelf.now) (g.H.Shelf.back c.serve.new.shelf) (seen c.args.net.now) (seen c.serve.new.net)
    c.in-Ok.settings c.plan-plan.result (seen c.listen.new.net) c.serve.result c.in-Ok.ensures c.plan-plan.ensures c.in_ok-listen.ensures.listened c.serve.ensures.serves c.serve.ensures.cause

pub returns-clause-got : goal.returns-clause-got
returns-clause-got g c =
    let seen = net_of g.N.Net.asked g.N.Net.back g.N.Net.out g.N.Net.faults in
    got_of c.in-Ok.settings (settings_for c.args.task.now) c.plan-plan.result c.args.routes.now (g.K.Clock.moments c.args.clock.now) (g.H.Shelf.back c.args.shelf.now) (g.H.Shelf.back c.serve.new.shelf) (seen c.listen.new.net) (seen c.serve.new.net)
    c.serve.result c.in-Ok.ensures c.serve.ensures.serves
