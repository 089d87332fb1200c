use Rattle.serve_threads.proofs.Crossing.{crossing}
use Rattle.serve_threads.proofs.Left.{can_end}
use Rattle.serve_threads.proofs.running.run_threads.Goals as goal

pub serve_with_workers-requires-send-P : goal.serve_with_workers-requires-send-P
serve_with_workers-requires-send-P g c κs within = search crossing depth 20

pub serve_with_workers-requires-send-W : goal.serve_with_workers-requires-send-W
serve_with_workers-requires-send-W g c κs within = search crossing depth 20

pub serve_with_workers-requires-sync-S : goal.serve_with_workers-requires-sync-S
serve_with_workers-requires-sync-S g c κs within = search crossing depth 20

pub serve_with_workers-requires-clause-last : goal.serve_with_workers-requires-clause-last
serve_with_workers-requires-clause-last g c κs within =
    can_end g.N.Link.Link.shown c.args.settings.now c.args.connections.now (g.K.Clock.moments c.args.clock.now) c.args.grant c.args.routes.now g.N.Net.asked g.N.Net.back g.N.Net.out g.N.Net.faults c.args.ws
    c.args.mains.now.callers.items c.args.guests.now c.args.net.now c.requires.of c.requires.each c.requires.guests
