use Rattle.rtrb.specs.Ring.{received, sent}
use Rattle.carriers.proofs.Moving.{on_noted}
use Rattle.threaded_server.proofs.Steps.{cuts_there, looks, number_is}
use Rattle.threaded_server.proofs.carrier.ServerCarrier.part.Goals as goal

pub returns-then-look-conn-clause-kept : goal.returns-then-look-conn-clause-kept
returns-then-look-conn-clause-kept g c =
    let self = c.args.self.now in
    λ lines k. looks 1 self.caller c.look.new.caller self.knows (sent self.out) (received self.from) (on_noted self.caller c.look.new.caller c.look.ensures.same) c.look.ensures.follows lines k

pub returns-clause-kept : goal.returns-clause-kept
returns-clause-kept g c =
    let self = c.args.self.now in
    let same = number_is c.args.connection.now.settings self.knows c.in-Accepted.conn c.in-Accepted.pump c.in-Accepted.is c.requires.sound in
    λ lines k. cuts_there _ 0 c.look.new.caller c.tell.new.caller self.knows c.in-Accepted.conn c.in-Accepted.pump _ (sent self.out) (received self.from) c.tell.ensures.same c.in-Accepted.is same c.in_ok-tell.ensures.told lines
    (looks 1 self.caller c.look.new.caller self.knows (sent self.out) (received self.from) (on_noted self.caller c.look.new.caller c.look.ensures.same) c.look.ensures.follows lines k)
