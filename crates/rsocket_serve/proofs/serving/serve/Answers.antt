use Rattle.serve.specs.Links.{net_of}
use Rattle.rsocket_serve.proofs.Telling.{cut_off, done}
use Rattle.rsocket_serve.proofs.serving.serve.Goals as goal

pub returns-clause-done : goal.returns-clause-done
returns-clause-done g c =
    let seen = net_of g.N.Net.asked g.N.Net.back g.N.Net.out g.N.Net.faults in
    done c.args.task.now c.args.routes.now (g.K.Clock.moments c.args.clock.now) (g.H.Shelf.back c.args.shelf.now) (g.H.Shelf.back c.come-served.new.shelf) (seen c.args.net.now) (seen c.come-served.new.net)
    (g.O.Sink.shown c.args.output.now) (g.O.Sink.shown c.tell.new.output) c.tell.result c.come-served.result c.come-served.ensures.come c.tell.ensures

pub returns-clause-cut_off : goal.returns-clause-cut_off
returns-clause-cut_off g c =
    let seen = net_of g.N.Net.asked g.N.Net.back g.N.Net.out g.N.Net.faults in
    cut_off c.args.task.now c.args.routes.now (g.K.Clock.moments c.args.clock.now) (g.H.Shelf.back c.args.shelf.now) (g.H.Shelf.back c.come-served.new.shelf) (seen c.args.net.now) (seen c.come-served.new.net)
    (g.O.Sink.shown c.args.output.now) (g.O.Sink.shown c.tell.new.output) c.tell.result c.come-served.result c.come-served.ensures.come c.tell.ensures
