use Rattle.rtrb.specs.Ring.{received, sent}
use Rattle.threaded_server.specs.Begun.{HasBegun}
use Rattle.threaded_server.proofs.Steps.{adds_told, at_some, begins}
use Rattle.threaded_server.proofs.carrier.ServerCarrier.open.Goals as goal

pub returns-clause-kept : goal.returns-clause-kept
returns-clause-kept g c =
    let self = c.args.self.now in
    let settings = c.args.connection.now.settings in
    let begun = at_some c.in_ok-knows.field-0 c.in-Some.knows (HasBegun settings self.caller c.begin.new.caller c.in-Nothing.reader) c.in-Some.is c.in_ok-knows.ensures.some in
    λ u lines k. begins u settings self.caller c.begin.new.caller self.knows c.in-Nothing.reader c.in-Some.knows (sent self.out) (received self.from) c.begin.ensures.same c.in-Nothing.is begun lines k

pub returns-clause-goes : goal.returns-clause-goes
returns-clause-goes g c =
    let self = c.args.self.now in
    let settings = c.args.connection.now.settings in
    let begun = at_some c.in_ok-knows.field-0 c.in-Some.knows (HasBegun settings self.caller c.begin.new.caller c.in-Nothing.reader) c.in-Some.is c.in_ok-knows.ensures.some in
    adds_told settings self.caller c.begin.new.caller _ _ begun.told
