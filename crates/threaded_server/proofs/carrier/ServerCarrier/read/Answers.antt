use Rattle.std.proofs.Common.{◌∷◌, []}
use Rattle.ring.specs.declared.item.Item.TheVariants as item
use Rattle.ring.specs.Parts.{cuts}
use Rattle.pump.proofs.Adding.{on_both}
use Rattle.threaded_server.proofs.Steps.{adds_both}
use Rattle.threaded_server.proofs.carrier.ServerCarrier.read.Goals as goal

pub returns-clause-kept : goal.returns-clause-kept
returns-clause-kept g c =
    let u = cuts (item.Mark c.in_ok-heard.heard.mark ∷ []) in
    λ lines k. c.in_ok-heard-2.ensures.kept u lines (c.in_ok-open.ensures.kept u lines (c.in_ok-heard.ensures.kept lines k))

pub returns-clause-goes : goal.returns-clause-goes
returns-clause-goes g c =
    let old = c.args.self.now.caller in
    let on = on_both old c.read_on.new.self.caller c.open.new.self.caller c.read_on.ensures.same c.open.ensures.same in
    adds_both old c.open.new.self.caller c.heard.new.self.caller.front on (adds_both old c.read_on.new.self.caller c.open.new.self.caller.front c.read_on.ensures.same c.in_ok-heard.ensures.goes c.in_ok-open.ensures.goes) c.in_ok-heard-2.ensures.goes

pub returns-then-not-branch-clause-kept : goal.returns-then-not-branch-clause-kept
returns-then-not-branch-clause-kept g c =
    let u = cuts (item.Mark c.in_ok-heard.heard.mark ∷ []) in
    λ lines k. c.in_ok-open.ensures.kept u lines (c.in_ok-heard.ensures.kept lines k)

pub returns-then-not-branch-clause-goes : goal.returns-then-not-branch-clause-goes
returns-then-not-branch-clause-goes g c = adds_both c.args.self.now.caller c.read_on.new.self.caller c.open.new.self.caller.front c.read_on.ensures.same c.in_ok-heard.ensures.goes c.in_ok-open.ensures.goes
