use Rattle.rtrb.specs.Ring.{received, sent}
use Rattle.pump.proofs.Adding.{goes_both, goes_follows, on_both}
use Rattle.carriers.proofs.Moving.{on_noted}
use Rattle.threaded_server.specs.Carrying.{IsAny}
use Rattle.threaded_server.proofs.Steps.{looks}
use Rattle.threaded_drain.proofs.Going.{far_both}
use Rattle.threaded_drain.proofs.settling.see_far.Goals as goal

pub returns-clause-same : goal.returns-clause-same
returns-clause-same g c = on_both c.args.far.now.caller c.heard.new.self.caller c.look-looked.new.caller c.heard.ensures.same (on_noted c.heard.new.self.caller c.look-looked.new.caller c.look-looked.ensures.same)

pub returns-clause-goes : goal.returns-clause-goes
returns-clause-goes g c =
    goes_both IsAny c.args.far.now.caller c.heard.new.self.caller c.look-looked.new.caller.front c.heard.ensures.same c.in_ok-heard.ensures.goes
    (goes_follows IsAny c.heard.new.self.caller c.look-looked.new.caller.front c.look-looked.ensures.follows)

pub returns-clause-kept : goal.returns-clause-kept
returns-clause-kept g c =
    let far = c.args.far.now in
    let mid = c.heard.new.self in
    far_both far.caller mid.caller c.look-looked.new.caller far.knows mid.knows mid.knows (sent far.out) (sent mid.out) (sent mid.out) (received far.from) (received mid.from) (received mid.from) (c.in_ok-heard.ensures.kept 0)
    (looks 0 mid.caller c.look-looked.new.caller mid.knows (sent mid.out) (received mid.from) (on_noted mid.caller c.look-looked.new.caller c.look-looked.ensures.same) c.look-looked.ensures.follows)
