use Rattle.std.proofs.Common.{◌≡◌, List, length, ap, subst, arith}
use Rattle.conn_shared.specs.Members.{Knowledge, SharedId}
use Rattle.serve_slots.specs.Callers.{AreCallersOf}
use Rattle.serve_slots.proofs.Lists.{pair_long}
use Rattle.serve.specs.Links.{LeavesLinks, net_of}
use Rattle.serve.proofs.Leaving.{serves}
use Rattle.serve.proofs.whole.serve.Goals as goal

pub put_tapes-requires-clause-lent : goal.put_tapes-requires-clause-lent
put_tapes-requires-clause-lent g c =
    let a = c.make_slots-made.ensures.lent in
    let b = ap length c.deref.ensures.value in
    let d = pair_long (λ (id : SharedId) (k : Knowledge). k.of ≡ id) c.deref.result.now c.serve_made-served.new.mains.callers.items c.serve_made-served.ensures.of in
    omega arith

pub returns-clause-serves : goal.returns-clause-serves
returns-clause-serves g c =
    let settings = c.args.settings.now in
    let plan = c.args.plan.now in
    let routes = c.args.routes.now in
    let moments = g.K.Clock.moments c.args.clock.now in
    let m = c.make_slots-made in
    let ids = m.new.connections.items in
    let ms = c.serve_made-served.new.mains.callers.items in
    let net = net_of g.N.Net.asked g.N.Net.back g.N.Net.out g.N.Net.faults c.args.net.now in
    let net' = net_of g.N.Net.asked g.N.Net.back g.N.Net.out g.N.Net.faults c.serve_made-served.new.net in
    let result = c.serve_made-served.result in
    serves settings plan routes moments ids ms m.result (g.H.Shelf.back c.args.shelf.now) (g.H.Shelf.back m.new.shelf) (g.H.Shelf.back c.put_tapes.new.shelf) net net' result
    (subst (λ (xs : List SharedId). AreCallersOf xs ms) c.deref.ensures.value c.serve_made-served.ensures.of)
    m.ensures.settings
    m.ensures.few
    m.ensures.each
    m.ensures.back
    m.ensures.unused
    c.put_tapes.ensures.back
    c.put_tapes.ensures.whole
    (subst (λ (xs : List SharedId). LeavesLinks settings plan routes moments (length xs) net net' ms result) c.deref.ensures.value c.serve_made-served.ensures.links)
    c.serve_made-served.ensures.unmade

pub returns-clause-lent : goal.returns-clause-lent
returns-clause-lent g c =
    let a = c.make_slots-made.ensures.lent in
    let b = ap length c.deref.ensures.value in
    let d = pair_long (λ (id : SharedId) (k : Knowledge). k.of ≡ id) c.deref.result.now c.serve_made-served.new.mains.callers.items c.serve_made-served.ensures.of in
    let e = c.put_tapes.ensures.lent in
    omega arith
