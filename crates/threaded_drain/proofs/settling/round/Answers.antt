use Rattle.std.proofs.Common.{ap, sym, subst}
use Rattle.conn_shared.specs.Members.{Knowledge}
use Rattle.pump.specs.Turns.{GoesOn}
use Rattle.pump.proofs.Adding.{goes_both}
use Rattle.threaded_client.specs.Carrying.{IsAny}
use Rattle.threaded_drain.proofs.settling.round.Goals as goal

pub returns-clause-near_goes : goal.returns-clause-near_goes
returns-clause-near_goes g c =
    goes_both IsAny c.args.near.now.caller c.up.new.self.caller c.down-2.new.self.caller.front c.up.ensures.same c.in_ok-up.ensures.goes
    (subst (λ (k : Knowledge). GoesOn IsAny k c.down-2.new.self.caller.front) (ap (λ x. x.caller) c.step.ensures.rest) c.in_ok-down-2.ensures.goes)

pub returns-clause-far_goes : goal.returns-clause-far_goes
returns-clause-far_goes g c =
    goes_both IsAny c.args.far.now.caller c.up-2.new.self.caller c.step-2.new.self.caller.front c.up-2.ensures.same c.in_ok-up-2.ensures.goes
    (subst (λ (k : Knowledge). GoesOn IsAny c.up-2.new.self.caller k.front) (sym c.step-2.ensures.caller) c.in_ok-down.ensures.goes)

pub returns-clause-near_kept : goal.returns-clause-near_kept
returns-clause-near_kept g c = λ lines k. c.in_ok-down-2.ensures.kept lines (c.in_ok-step.ensures.kept lines (c.in_ok-up.ensures.kept lines k))

pub returns-clause-far_kept : goal.returns-clause-far_kept
returns-clause-far_kept g c = λ lines k. c.in_ok-step-2.ensures.kept lines (c.in_ok-down.ensures.kept lines (c.in_ok-up-2.ensures.kept lines k))
